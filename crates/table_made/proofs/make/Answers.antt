-- The walk, the answer, and the table where it fits.
use mathlib.Core.List.{List, ◌++◌}
use mathlib.Core.Path.{refl, sym, ap, ◌∙◌}
use native.Mathlib.Omega.{arith}
use Prim.Native.Nat.{ℕ, ◌*◌}
use lib.ListN.{drop}
use lib.Seq.{length-take-le}
use Rattle.std.proofs.lemmas.Result.{err_from_is_err_and}
use Rattle.std.specs.Prelude.{Ok, Err}
use Rattle.table_made.proofs.Ends.{few, short, all}
use Rattle.table_made.proofs.make.Goals as goal

pub returns-in_err-n : goal.returns-in_err-n
returns-in_err-n c =
    let r = all c.args.text.now c.args.room.now _ c.walk-s.result (Err c.in_err-n.field-0.0) 0 c.walk-s.ensures.0 c.walk-s.ensures.1 c.in_err-n.ensures refl _ (omega arith) refl in
    let p = err_from_is_err_and c.from_residual.result c.from_residual.ensures.1 in
    rw (p.1, p.2) (record { answer = r.0; memory = r.1 })

pub overflow_mul-k : goal.overflow_mul-k
overflow_mul-k c =
    record { fits = omega (arith, few c.args.text.now c.walk-s.result (Ok c.in_ok-n.n) c.walk-s.ensures.0 c.in_ok-n.ensures) }

pub returns-then-room-k : goal.returns-then-room-k
returns-then-room-k c =
    let r = short c.args.text.now c.args.room.now _ c.walk-s.result (Ok c.in_ok-n.n) (63 * c.in_ok-n.n) c.walk-s.ensures.0 c.walk-s.ensures.1 c.in_ok-n.ensures refl c.if-room-k.true in
    record { answer = r.0; memory = r.1 }

pub slice_bounds-t-end : goal.slice_bounds-t-end
slice_bounds-t-end c =
    omega (arith, few c.args.text.now c.walk-s.result (Ok c.in_ok-n.n) c.walk-s.ensures.0 c.in_ok-n.ensures)

pub slice_bounds-copy_from_slice-end-3 : goal.slice_bounds-copy_from_slice-end-3
slice_bounds-copy_from_slice-end-3 c =
    let h = few c.args.text.now c.walk-s.result (Ok c.in_ok-n.n) c.walk-s.ensures.0 c.in_ok-n.ensures in
    sym (length-take-le _ _ (omega arith))

pub copy_from_slice-requires : goal.copy_from_slice-requires
copy_from_slice-requires c =
    let h = few c.args.text.now c.walk-s.result (Ok c.in_ok-n.n) c.walk-s.ensures.0 c.in_ok-n.ensures in
    length-take-le _ _ (omega arith) ∙ sym (length-take-le _ _ (omega arith))

pub returns : goal.returns
returns c =
    let e = ap (λ (x : List ℕ). x ++ drop (63 * c.in_ok-n.n) c.args.room.now) c.copy_from_slice.ensures.after in
    let r = all c.args.text.now c.args.room.now _ c.walk-s.result (Ok c.in_ok-n.n) (63 * c.in_ok-n.n) c.walk-s.ensures.0 c.walk-s.ensures.1 c.in_ok-n.ensures refl _ (omega arith) e in
    record { answer = r.0; memory = r.1 }
