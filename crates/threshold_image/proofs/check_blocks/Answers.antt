-- `check_blocks` meets its contract: the blocks before the place are sound, and a refusal is the first.
use Prim.Native.Nat.{ℕ}
use mathlib.Core.Path.{◌≡◌, refl, sym, ap, ◌∙◌}
use native.Mathlib.Omega.{arith}
use Rattle.refusals.proofs.Passed.{passed_on}
use Rattle.ground.proofs.Pieces.{part_cut}
use Rattle.ground.specs.Pieces.{part}
use Rattle.threshold_block.specs.Block.{threshold_block_check}
use Rattle.threshold_image.specs.Image.{threshold_blocks_check}
use Rattle.refusals.proofs.First.{first_more, first-stop}
use Rattle.refusals.specs.First.{first}
use mathlib.Core.List.{List}
use Rattle.threshold_image.proofs.check_blocks.Goals as goal

pub loop-place-init : goal.loop-place-init
unfolding first
loop-place-init c =
    (omega arith, refl)

pub returns-in_err-check_block : goal.returns-in_err-check_block
unfolding threshold_blocks_check
returns-in_err-check_block c =
    let a = c.args in let b = a.image.now in
    let l = c.loop-place in let e = c.in_err-check_block.was in passed_on c.from_residual.result c.from_residual.ensures.1
    ∙ (sym (first-stop (λ j. threshold_block_check a.n j j (part 512 j b)) a.n c.loop-place.place _ (omega arith) c.loop-place.invariant.1
    (ap (λ (x : List ℕ). threshold_block_check a.n c.loop-place.place c.loop-place.place x) (sym (part_cut 512 c.loop-place.place b)) ∙ sym c.check_block.ensures ∙ e)))

pub loop-place-preserved : goal.loop-place-preserved
loop-place-preserved c =
    let a = c.args in let l = c.loop-place in (
      omega arith,
      first_more _ _ c.loop-place.invariant.1
          (ap (λ (x : List ℕ). threshold_block_check a.n c.loop-place.place c.loop-place.place x) (sym (part_cut 512 c.loop-place.place a.image.now)) ∙ sym c.check_block.ensures ∙ c.in_ok-check_block.was),
    )

pub returns : goal.returns
unfolding threshold_blocks_check
returns c =
    let l = c.loop-place in let e : c.loop-place.place ≡ c.args.n = omega arith in
    sym (rw e at c.loop-place.invariant.1)
