-- Blocking as it is and as it was before W-201, of a table in memory, checked or not.
use Prim.Native.Nat.{ℕ}
use mathlib.Core.Bool.{false}
use mathlib.Core.List.{List}
use mathlib.Core.Path.{◌≡◌, refl, sym, ap, ◌∙◌}
use lib.Bits.{bit_and}
use Rattle.ground.proofs.Logic.{is_false}
use Rattle.masks.specs.Mask.{others}
use Rattle.sets.specs.Before.{owner_counted}
use Rattle.sets.specs.Groups.{lists, fbqs_in, slices_in}
use Rattle.sets.specs.Slices.{slices_of}
use Rattle.sets.proofs.Slices.{blocked-meets}

module _ (t : List ℕ) where
  -- who is blocked by a set was blocked by its others, and the other way
  pub others-counted : (v w : ℕ) → (slices_in (lists t)).blocked v w ≡ (owner_counted t).blocked v (others w v)
  unfolding owner_counted slices_of
  others-counted v w = refl

  -- the slices inside a set are the same
  pub inside-counted : (slices_in (lists t)).inside ≡ (owner_counted t).inside
  unfolding owner_counted
  inside-counted = refl

  -- who has a slice that the others of a set miss is not blocked by it
  pub missed-unblocked : (v w q : ℕ) → (fbqs_in (lists t)).Slice v q → bit_and q (others w v) ≡ 0 → (slices_in (lists t)).blocked v w ≡ false
  missed-unblocked v w q x z =
      is_false ((slices_of t).blocked v w) (λ b. blocked-meets t v w x.0 b x.1 (ap (λ (y : ℕ). bit_and y (others w v)) (sym x.2) ∙ z))
