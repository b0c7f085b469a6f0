-- What is refused of a site's sets, and what those that are not refused promise.
use Rattle.refusals.specs.Check.{Check}
use Rattle.std.specs.Prelude.{ℕ, zero, suc, ◌+◌, ◌-◌, ◌≤◌, ◌<◌, Bool, ◌||◌, not, List, [], ◌∷◌, ◌≡◌, eqb, ltb, length}
use Rattle.masks.specs.Mask.{within, all_below, size, ◌⊆◌}
use Rattle.refusals.specs.First.{or_else, refuse, first}
use Rattle.refusals.specs.declared.Refusal.TheVariants.{Count, Slice, Filler, Threshold, Nesting}
use Rattle.threshold_sets.specs.Met.{ThresholdSets}

-- the sets that are owed at each open level, the innermost first; a level that owes none is closed if it is the innermost
abbrev pub closed_levels : List ℕ → List ℕ
closed_levels [] = []
closed_levels (zero ∷ l) = closed_levels l
closed_levels (suc k ∷ l) = suc k ∷ l

-- after a set with k inner sets: one fewer is owed at its level, and k at the next
abbrev pub entered_levels : ℕ → List ℕ → List ℕ
entered_levels k [] = []
entered_levels k (owe ∷ l) = closed_levels (k ∷ (owe - 1) ∷ l)

-- before set i, "in preorder": at first the root is owed
unfoldable pub owed : ThresholdSets → ℕ → List ℕ
owed S zero = 1 ∷ []
owed S (suc i) = entered_levels (S.inner i) (owed S i)

-- 5: "a site at or above n"
unfoldable pub alien : ℕ → ThresholdSets → ℕ → Bool
alien n S i = not (within (S.plain i) (all_below n))

-- 21: "threshold zero or above plain sites plus inner sets"
unfoldable pub unreachable : ThresholdSets → ℕ → Bool
unreachable S i = eqb (S.threshold i) 0 || ltb (size (S.plain i) + S.inner i) (S.threshold i)

-- 22: "a set after the root is whole or past four levels": the level of set i is the number of levels that are open before it
unfoldable pub misplaced : ThresholdSets → ℕ → Bool
unfolding owed
misplaced S i = eqb (length (owed S i)) 0 || ltb 4 (length (owed S i))

-- "set by set 5 .., 21 .., 22 ..": set i in a table of n sites; a refusal carries the place
unfoldable pub one_set_check : ℕ → ℕ → ThresholdSets → ℕ → Check
unfolding alien unreachable misplaced
one_set_check n place S i =
    or_else (refuse (alien n S i) (Slice place))
    (or_else (refuse (unreachable S i) (Threshold place))
    (refuse (misplaced S i) (Nesting place)))

-- 22: "too if inner sets are owed at the end"
unfoldable pub owing : ThresholdSets → Bool
unfolding owed
owing S = not (eqb (length (owed S S.count)) 0)

-- "4 a number of sets outside 1 to 49; set by set ..; 22 too if inner sets are owed at the end, then 8": whether the filler is not zero is handed over
unfoldable pub sets_check : ℕ → ℕ → ThresholdSets → Bool → Check
unfolding one_set_check owing first
sets_check n place S unfilled =
    or_else (refuse (eqb S.count 0 || ltb 49 S.count) (Count place))
    (or_else (first (one_set_check n place S) S.count)
    (or_else (refuse (owing S) (Nesting place))
    (refuse unfilled (Filler place))))

-- what the sets of a site promise then, in a table of n sites
pub record SoundSets (n : ℕ) (S : ThresholdSets) : Type 0 where
  pub some-set : 1 ≤ S.count
  pub few-sets : S.count ≤ 49
  pub below : (i : ℕ) → i < S.count → S.plain i ⊆ all_below n
  pub not-zero : (i : ℕ) → i < S.count → 1 ≤ S.threshold i
  pub reachable : (i : ℕ) → i < S.count → S.threshold i ≤ size (S.plain i) + S.inner i
  pub in-root : (i : ℕ) → i < S.count → 1 ≤ length (owed S i)
  pub four-levels : (i : ℕ) → i < S.count → length (owed S i) ≤ 4
  pub whole : owed S S.count ≡ []
