-- The grammar of a table of thresholds: what is expected, and what a word does there that needs no set.
--
--   text   = head, then the lines of sites 0, 1, .. n - 1; empty lines and comments anywhere
--   head   = `sites` n                          n from 1 to 64
--   line v = v `:` set
--   set    = threshold `of` { member }          1 to 49 sets in a line, at most four levels, the root the first
--   member = site | `(` set `)`                 in any order; sites below n, none twice in one set
use Rattle.std.specs.Prelude.{ℕ, ◌+◌, ◌-◌, ◌≤◌, ◌<◌, Bool, ◌||◌, not, cond, eqb, ltb}
use Rattle.threshold_grammar.specs.declared.Why.{Why}
use Rattle.threshold_grammar.specs.declared.Why.TheVariants.{LineEnd, Member, Bracket}
use Rattle.threshold_grammar.specs.declared.Why.TheVariants.{Sites as NoSites, Count as NoCount, Owner as NoOwner, Nothing as NoMore}
use Rattle.threshold_grammar.specs.declared.Why.TheVariants.{Colon as NoColon, Threshold as NoThreshold, Of as NoOf}
use Rattle.threshold_grammar.specs.declared.Phase.{Phase}
use Rattle.threshold_grammar.specs.declared.Phase.TheVariants.{Head, Count, Tail, Owner, Mark, Threshold, Of, Members, Wrong}
use Rattle.threshold_grammar.specs.declared.Deed.{Deed}
use Rattle.threshold_grammar.specs.declared.Deed.TheVariants.{Nothing, Root}
use Rattle.threshold_grammar.specs.declared.Spot.{Spot}

-- at most 64 sites, no more lines than sites, and the open sets are three of 49 and the root
abbrev pub ThresholdSane : Spot → Type 0
ThresholdSane s = (s.n ≤ 64) × (s.v ≤ s.n) × (s.set < 49) × (s.around < 49) × (s.beyond < 49)

-- the same place, with something done to the sets of the line and something else expected
abbrev pub doing : Spot → Deed → Phase → Spot
doing s d p = record {
  line = s.line;
  n = s.n;
  v = s.v;
  depth = s.depth;
  set = s.set;
  around = s.around;
  beyond = s.beyond;
  deed = d;
  phase = p;
}

-- the same place, with something else expected
abbrev pub spot_at : Spot → Phase → Spot
spot_at s p = doing s Nothing p

-- where no set is open but the root of a line that begins or is to begin
abbrev pub outside : ℕ → ℕ → ℕ → Phase → Spot
outside line n v p = record { line = line; n = n; v = v; depth = 1; set = 0; around = 0; beyond = 0; deed = Nothing; phase = p }

-- v counts the lines begun, so that the line of site v - 1 is the one that is read
abbrev pub threshold_own : ℕ → ℕ
threshold_own v = v - 1

-- what was expected: behind the last site's line nothing more; a closing bracket only where one is open
abbrev pub threshold_next_line : Bool → Why
threshold_next_line more = cond more NoOwner NoMore

abbrev pub next_member : Bool → Why
next_member inner = cond inner Bracket Member

abbrev pub threshold_expected : Phase → Bool → Bool → Why
threshold_expected Head more inner = NoSites
threshold_expected Count more inner = NoCount
threshold_expected Tail more inner = LineEnd
threshold_expected Owner more inner = threshold_next_line more
threshold_expected Mark more inner = NoColon
threshold_expected Threshold more inner = NoThreshold
threshold_expected Of more inner = NoOf
threshold_expected Members more inner = next_member inner
threshold_expected (Wrong why) more inner = why

-- what is heard is not what was expected; after the first fault nothing is heard
unfoldable pub threshold_missed : Spot → Spot
threshold_missed s = spot_at s (Wrong (threshold_expected s.phase (ltb s.v s.n) (ltb 1 s.depth)))

-- the next line
abbrev pub threshold_onward : Spot → Phase → Spot
threshold_onward s p = outside (s.line + 1) s.n s.v p

-- n is 1 to 64
unfoldable pub threshold_many : Spot → ℕ → Spot
unfolding threshold_missed
threshold_many s x = cond (ltb x 1 || ltb 64 x) (threshold_missed s) (outside s.line x 0 Tail)

-- then for each site, in order, its number
unfoldable pub threshold_owner : Spot → ℕ → Spot
unfolding threshold_missed
threshold_owner s x = cond (not (ltb x s.n) || not (eqb x s.v)) (threshold_missed s) (outside s.line s.n (s.v + 1) Mark)

-- what `sites` does where something is expected, then `of`, a colon: the root of the line is begun
abbrev pub threshold_sited : Phase → Spot → Spot
threshold_sited Head s = spot_at s Count
threshold_sited Count s = threshold_missed s
threshold_sited Tail s = threshold_missed s
threshold_sited Owner s = threshold_missed s
threshold_sited Mark s = threshold_missed s
threshold_sited Threshold s = threshold_missed s
threshold_sited Of s = threshold_missed s
threshold_sited Members s = threshold_missed s
threshold_sited (Wrong w) s = threshold_missed s

abbrev pub linked : Phase → Spot → Spot
linked Head s = threshold_missed s
linked Count s = threshold_missed s
linked Tail s = threshold_missed s
linked Owner s = threshold_missed s
linked Mark s = threshold_missed s
linked Threshold s = threshold_missed s
linked Of s = spot_at s Members
linked Members s = threshold_missed s
linked (Wrong w) s = threshold_missed s

abbrev pub threshold_coloned : Phase → Spot → Spot
threshold_coloned Head s = threshold_missed s
threshold_coloned Count s = threshold_missed s
threshold_coloned Tail s = threshold_missed s
threshold_coloned Owner s = threshold_missed s
threshold_coloned Mark s = doing s Root Threshold
threshold_coloned Threshold s = threshold_missed s
threshold_coloned Of s = threshold_missed s
threshold_coloned Members s = threshold_missed s
threshold_coloned (Wrong w) s = threshold_missed s
