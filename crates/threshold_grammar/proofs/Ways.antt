-- The ways out where the number is heard that begins a line: one law for each.
use Prim.Native.Nat.{ℕ, ◌+◌, ◌<◌}
use mathlib.Core.Path.{◌≡◌, refl}
use borrow.Author.Tests.{lt-ltb, eq-eqb}
use Rattle.threshold_grammar.specs.Grammar.{outside, threshold_owner}
use Rattle.threshold_grammar.specs.declared.Phase.TheVariants.{Mark}
use Rattle.threshold_grammar.specs.declared.Spot.{Spot}

module _ (s : Spot) (x : ℕ) where
  pub owner-next : x < s.n → x ≡ s.v → threshold_owner s x ≡ outside s.line s.n (s.v + 1) Mark
  unfolding threshold_owner
  owner-next h e = rw (lt-ltb x s.n h, eq-eqb x s.v e) refl
