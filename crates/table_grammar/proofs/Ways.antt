-- The ways out where a site's number is heard: one law for each.
use Prim.Native.Nat.{ℕ, ◌+◌, ◌<◌}
use mathlib.Core.Bool.{false}
use mathlib.Core.Path.{◌≡◌, refl}
use lib.Bits.{bit_or}
use borrow.Author.Tests.{lt-ltb, eq-eqb}
use Rattle.masks.specs.Mask.{has, single}
use Rattle.table_grammar.specs.Grammar.{owner, member}
use Rattle.table_grammar.specs.declared.Phase.TheVariants.{Mark, More}
use Rattle.table_grammar.specs.declared.Spot.{Spot}

module _ (s : Spot) (x : ℕ) where
  -- the number that begins a line
  pub owner-next : x < s.n → x ≡ s.v → owner s x ≡ record { line = s.line; n = s.n; v = s.v + 1; q = 0; phase = Mark }
  unfolding owner
  owner-next h e = rw (lt-ltb x s.n h, eq-eqb x s.v e) refl

  -- a site of a group
  pub member-more : x < s.n → has s.q x ≡ false
      → member s x ≡ record { line = s.line; n = s.n; v = s.v; q = bit_or s.q (single x); phase = More }
  unfolding member
  member-more h e = rw (lt-ltb x s.n h, e) refl
