-- `together` meets its contract: of the numbers so far one is not inside a set if all of them together are not.
use Prim.Native.Nat.{ℕ}
use mathlib.Core.Bool.{Bool, true, false, ◌&&◌, ◌||◌, not}
use mathlib.Core.Path.{◌≡◌, refl, sym, ap, ◌∙◌}
use native.Mathlib.Omega.{arith}
use lib.ListN.{length}
use Rattle.ground.proofs.Some.{some-none, some-suc}
use Rattle.ground.specs.Search.{some}
use Rattle.masks.proofs.Laws.Subsets.{⊆-within, not-in-zero, or-within}
use Rattle.masks.specs.Mask.{within}
use Rattle.rules.specs.State.{get}
use Rattle.soundness.proofs.together.Goals as goal

not-both : (a b : Bool) → not (a && b) ≡ not a || not b
not-both true b = refl
not-both false b = refl

empty-within : (u : ℕ) → within 0 u ≡ true
empty-within u = ⊆-within (record { each = λ v h. absurd (not-in-zero h) })

pub loop-number-init : goal.loop-number-init
loop-number-init c u = ap not (empty-within u) ∙ sym (some-none _)

pub loop-number-preserved : goal.loop-number-preserved
loop-number-preserved c u =
    let L = c.loop-number in let x = get c.args.state.now L.number-index in
    ap not (or-within L.any x u) ∙ not-both (within L.any u) (within x u)
    ∙ ap (λ (b : Bool). b || not (within x u)) (L.invariant u) ∙ sym (some-suc L.number-index (λ j. not (within (get c.args.state.now j) u)))

pub returns : goal.returns
returns c =
    let s = c.args.state.now in let e : c.loop-number.number-index ≡ length s = omega arith in
    λ u. c.loop-number.invariant u ∙ ap (λ (k : ℕ). some k (λ j. not (within (get s j) u))) e
