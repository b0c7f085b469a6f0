-- Laws of sweeps, over any rule s that grows with the set: what one leaves has the same largest quorum, and one that drops nobody ends the search.
use Prim.Native.Nat.{ℕ, ◌<◌}
use mathlib.Core.Bool.{Bool, false}
use mathlib.Core.Path.{◌≡◌, sym, subst}
use native.Mathlib.Omega.{arith}
use Rattle.ground.proofs.Logic.{clash}
use Rattle.masks.proofs.Laws.Subsets.{⊆-trans, ⊆-antisym, ⊆-le}
use Rattle.masks.specs.Mask.{◌∈◌, ◌⊆◌}
use Rattle.one_round.specs.Inner.Swept.{Swept}
use Rattle.sets.proofs.Quorum.{Rule, round-⊆, round-slice, largest-still, largest-contains, largest-grows}
use Rattle.sets.specs.Quorum.{round, largest}

module _ {s : ℕ → ℕ → Bool} (n : ℕ) where
  pub swept-⊆ : {w left : ℕ} → Swept s n w left → left ⊆ w
  swept-⊆ {w} p = ⊆-trans p.drops (round-⊆ s n w)

  pub swept-still : {w : ℕ} → Swept s n w w → round s n w ≡ w
  swept-still {w} p = ⊆-antisym (round-⊆ s n w) p.drops

  pub swept-less : {w left : ℕ} → Swept s n w left → (left ≡ w → ⊥) → left < w
  swept-less p ne = let l = ⊆-le (swept-⊆ p) in omega arith

  module _ (r : Rule s) where
    -- a member without a slice inside what is left is in no quorum inside w
    pub out-of-largest : (w : ℕ) {left v : ℕ} → largest s n w ⊆ left → s v left ≡ false → v ∈ largest s n w → ⊥
    out-of-largest w {left} {v} sub f h =
        clash (r.grows v (largest s n w) left sub (round-slice s n (subst (λ (x : ℕ). v ∈ x) (sym (largest-still s n w)) h))) f

    pub swept-largest : {w left : ℕ} → Swept s n w left → largest s n left ≡ largest s n w
    swept-largest {w} {left} p = ⊆-antisym (largest-grows s n r (swept-⊆ p)) (largest-contains s n r (largest-still s n w) left p.keeps)
