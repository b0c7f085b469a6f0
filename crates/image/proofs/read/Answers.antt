-- `read` meets its contract: one law for each way out; that no quorum is found contradicts the check of the blocks.
use Prim.Native.Nat.{◌*◌, ◌/◌, ◌≤◌}
use mathlib.Core.Path.{refl, sym, ◌∙◌}
use native.Mathlib.Omega.{arith}
use lib.ListN.{length}
use lib.Seq.{length-take-le}
use Rattle.refusals.proofs.Passed.{passed_on}
use Rattle.image.specs.Read.{read_into}
use Rattle.image.proofs.ReadLaws.{no_blocks, odd-blocks, too_many_blocks, whole-blocks, room-rows, room-quorum, read_length, read-room, read-block, read-sites}
use Rattle.image.proofs.read.Goals as goal

pub returns-then-n-eq0 : goal.returns-then-n-eq0
unfolding read_into
returns-then-n-eq0 c =
    let a = c.args in let b = a.image.now in record { answer = sym (read_length b (length a.room.now) (no_blocks (length b) c.if-n-eq0.true)); memory = refl }

pub returns-then-image-ne0 : goal.returns-then-image-ne0
unfolding read_into
returns-then-image-ne0 c =
    let a = c.args in let b = a.image.now in record { answer = sym (read_length b (length a.room.now) (odd-blocks (length b) c.if-image-ne0.true)); memory = refl }

pub returns-then-n-gt64 : goal.returns-then-n-gt64
unfolding read_into
returns-then-n-gt64 c =
    let a = c.args in let b = a.image.now in record { answer = sym (read_length b (length a.room.now) (too_many_blocks (length b) c.if-n-gt64.true)); memory = refl }

pub returns-then-room-n : goal.returns-then-room-n
unfolding read_into
returns-then-room-n c =
    let a = c.args in let b = a.image.now in
    let e = whole-blocks (length b) c.if-n-eq0.false c.if-image-ne0.false c.if-n-gt64.false in record { answer = sym (read-room b (length a.room.now) e c.if-room-n.true); memory = refl }

pub returns-in_err-check_blocks : goal.returns-in_err-check_blocks
unfolding read_into
returns-in_err-check_blocks c =
    let a = c.args in let b = a.image.now in
    let e = whole-blocks (length b) c.if-n-eq0.false c.if-image-ne0.false c.if-n-gt64.false in
    rw (passed_on c.from_residual.result c.from_residual.ensures.1) (record { answer = sym (read-block b (length a.room.now) e c.if-room-n.false _ (sym c.check_blocks.ensures ∙ c.in_err-check_blocks.was)); memory = refl })

pub slice_bounds-largest_set-end-2 : goal.slice_bounds-largest_set-end-2
slice_bounds-largest_set-end-2 c =
    let l = c.load_blocks in let h : 63 * (length c.args.image.now / 512) ≤ length c.load_blocks.new.room = omega (arith, c.load_blocks.auto.room) in
    sym (length-take-le _ _ h)

pub largest_set-quorum-requires : goal.largest_set-quorum-requires
largest_set-quorum-requires c =
    let a = c.args in let b = a.image.now in
    room-rows (length b / 512) b _ _ c.load_blocks.ensures (omega arith) (omega arith)
    (sym c.check_blocks.ensures ∙ c.in_ok-check_blocks.was)

pub returns-then-quorum-eq0 : goal.returns-then-quorum-eq0
returns-then-quorum-eq0 c =
    let a = c.args in let b = a.image.now in absurd (room-quorum (length b / 512) b _ _ c.load_blocks.ensures (omega arith) (omega arith)
    (sym c.check_blocks.ensures ∙ c.in_ok-check_blocks.was) _ c.all_below.ensures (sym c.largest_set-quorum.ensures ∙ c.if-quorum-eq0.true))

pub returns : goal.returns
unfolding read_into
returns c =
    let a = c.args in let b = a.image.now in
    let e = whole-blocks (length b) c.if-n-eq0.false c.if-image-ne0.false c.if-n-gt64.false in record
    { answer = sym (read-sites b (length a.room.now) e c.if-room-n.false (sym c.check_blocks.ensures ∙ c.in_ok-check_blocks.was)); memory = c.load_blocks.ensures }
