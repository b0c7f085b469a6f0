-- The ways out where a set is open: one law for each.
use Prim.Native.Nat.{ℕ, ◌+◌, ◌-◌, ◌≤◌, ◌<◌}
use mathlib.Core.Bool.{false}
use mathlib.Core.Path.{◌≡◌, refl}
use borrow.Author.Tests.{lt-ltb, le-ltb}
use Rattle.masks.specs.Mask.{has, single}
use Rattle.threshold_grammar.specs.Grammar.{doing, threshold_onward}
use Rattle.threshold_grammar.specs.declared.Deed.TheVariants.{Nothing, Inner, Site}
use Rattle.threshold_grammar.specs.declared.Phase.TheVariants.{Owner, Threshold, Members}
use Rattle.threshold_grammar.specs.declared.Spot.{Spot}
use Rattle.threshold_nesting.specs.Nesting.{unreached, threshold_member, set_opened, set_closed, set_completed}
use Rattle.threshold_nesting.specs.declared.Held.{Held}

module _ (s : Spot) (h : Held) (x : ℕ) where
  pub member-more : x < s.n → has h.plain x ≡ false → threshold_member s h x ≡ doing s (Site (single x)) Members
  unfolding threshold_member
  member-more l e = rw (lt-ltb x s.n l, e) refl

-- the spot where an inner set is open, and where it is closed again
abbrev pub inward : Spot → Held → Spot
inward s h = record {
  line = s.line;
  n = s.n;
  v = s.v;
  depth = s.depth + 1;
  set = h.sets;
  around = s.set;
  beyond = s.around;
  deed = Inner;
  phase = Threshold;
}

abbrev pub backward : Spot → Spot
backward s = record {
  line = s.line;
  n = s.n;
  v = s.v;
  depth = s.depth - 1;
  set = s.around;
  around = s.beyond;
  beyond = 0;
  deed = Nothing;
  phase = Members;
}
