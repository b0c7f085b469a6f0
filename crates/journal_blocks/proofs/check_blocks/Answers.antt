-- `check_blocks` meets its contract: the blocks before the place are sound, and a refusal is the first.
use Prim.Native.Nat.{ℕ}
use mathlib.Core.List.{List}
use mathlib.Core.Path.{◌≡◌, refl, sym, ap, ◌∙◌}
use native.Mathlib.Omega.{arith}
use Rattle.ground.proofs.Pieces.{part_cut}
use Rattle.ground.specs.Pieces.{part}
use Rattle.journal_block.specs.Block.{journal_block_check}
use Rattle.journal_blocks.specs.Journal.{journal_blocks_check}
use Rattle.refusals.proofs.Passed.{passed_on}
use Rattle.refusals.proofs.First.{first_more, first-stop}
use Rattle.refusals.specs.First.{first}
use Rattle.journal_blocks.proofs.check_blocks.Goals as goal

pub loop-place-init : goal.loop-place-init
unfolding first
loop-place-init c =
    refl

pub returns-in_err-check_block : goal.returns-in_err-check_block
unfolding journal_blocks_check
returns-in_err-check_block c =
    let a = c.args in let b = a.journal.now in let i = c.loop-place.place in
    passed_on c.from_residual.result c.from_residual.ensures.1
    ∙ sym (first-stop (λ j. journal_block_check a.k j (part 512 j b)) a.k i _ (omega arith) c.loop-place.invariant
    (ap (λ (x : List ℕ). journal_block_check a.k i x) (sym (part_cut 512 i b)) ∙ sym c.check_block.ensures ∙ c.in_err-check_block.was))

pub loop-place-preserved : goal.loop-place-preserved
loop-place-preserved c =
    let a = c.args in let i = c.loop-place.place in
    first_more _ _ c.loop-place.invariant
    (ap (λ (x : List ℕ). journal_block_check a.k i x) (sym (part_cut 512 i a.journal.now)) ∙ sym c.check_block.ensures ∙ c.in_ok-check_block.was)

pub returns : goal.returns
unfolding journal_blocks_check
returns c =
    let l = c.loop-place in let e : c.loop-place.place ≡ c.args.k = omega arith in
    sym (rw e at c.loop-place.invariant)
