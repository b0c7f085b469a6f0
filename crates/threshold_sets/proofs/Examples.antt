-- Sets that are met and sets that are refused, by example.
use Rattle.std.specs.Prelude.{Ok, Err}
use Prim.Native.Nat.{ℕ}
use mathlib.Core.Bool.{true, false}
use mathlib.Core.List.{List, [], ◌∷◌}
use mathlib.Core.Path.{◌≡◌, refl}
use lib.Count.{ones}
use lib.ListN.{length, get_or}
use Rattle.masks.specs.Mask.{within}
use Rattle.refusals.specs.First.{first}
use Rattle.refusals.specs.declared.Refusal.TheVariants.{Count, Slice, Filler, Threshold, Nesting}
use Rattle.threshold_sets.specs.Check.{owed, alien, unreachable, misplaced, one_set_check, owing, sets_check}
use Rattle.threshold_sets.specs.Met.{ThresholdSets, members_at, set_at, root_met}

-- the sets with these thresholds, numbers of inner sets and masks
abbrev sets_with : List ℕ → List ℕ → List ℕ → ThresholdSets
sets_with thresholds inners plains =
    record { count = length thresholds; threshold = λ i. get_or thresholds i 0; inner = λ i. get_or inners i 0; plain = λ i. get_or plains i 0 }

-- "three of these five": sites 0, 2 and 4 meet it, sites 0 and 2 do not, nor do 0, 2 and 5
abbrev three_of_five : ThresholdSets
three_of_five = sets_with (3 ∷ []) (0 ∷ []) (31 ∷ [])

pub three-meet : root_met three_of_five 21 ≡ true
unfolding root_met set_at members_at ones
three-meet = refl

pub two-do-not : root_met three_of_five 5 ≡ false
unfolding root_met set_at members_at ones
two-do-not = refl

pub strangers-do-not : root_met three_of_five 37 ≡ false
unfolding root_met set_at members_at ones
strangers-do-not = refl

-- two of: site 0, a set that is met by its inner set of sites 2 and 3, a set of site 4. The third member stands behind the second's inner set
abbrev nested : ThresholdSets
nested = sets_with (2 ∷ 1 ∷ 2 ∷ 1 ∷ []) (2 ∷ 1 ∷ 0 ∷ 0 ∷ []) (1 ∷ 0 ∷ 12 ∷ 16 ∷ [])

pub nested-sound : sets_check 5 7 nested false ≡ Ok tt
unfolding sets_check one_set_check alien unreachable misplaced owing owed first within ones
nested-sound = refl

-- through the inner set of the second member; through the third; with neither
pub through-inner : root_met nested 13 ≡ true
unfolding root_met set_at members_at ones
through-inner = refl

pub through-third : root_met nested 17 ≡ true
unfolding root_met set_at members_at ones
through-third = refl

pub through-neither : root_met nested 5 ≡ false
unfolding root_met set_at members_at ones
through-neither = refl

-- the order of refusals: a site at or above n before a threshold of zero, that before a set after the whole root, and that before the filler
pub slice-before-threshold : sets_check 2 7 (sets_with (0 ∷ []) (0 ∷ []) (4 ∷ [])) true ≡ Err (Slice 7)
unfolding sets_check one_set_check alien unreachable misplaced owing owed first within ones
slice-before-threshold = refl

pub threshold-before-nesting : sets_check 2 7 (sets_with (1 ∷ 0 ∷ []) (0 ∷ 0 ∷ []) (1 ∷ 1 ∷ [])) true ≡ Err (Threshold 7)
unfolding sets_check one_set_check alien unreachable misplaced owing owed first within ones
threshold-before-nesting = refl

pub set-after-root : sets_check 2 7 (sets_with (1 ∷ 1 ∷ []) (0 ∷ 0 ∷ []) (1 ∷ 1 ∷ [])) true ≡ Err (Nesting 7)
unfolding sets_check one_set_check alien unreachable misplaced owing owed first within ones
set-after-root = refl

pub owed-at-the-end : sets_check 2 7 (sets_with (1 ∷ []) (1 ∷ []) (1 ∷ [])) true ≡ Err (Nesting 7)
unfolding sets_check one_set_check alien unreachable misplaced owing owed first within ones
owed-at-the-end = refl

pub filler-last : sets_check 2 7 (sets_with (1 ∷ []) (0 ∷ []) (1 ∷ [])) true ≡ Err (Filler 7)
unfolding sets_check one_set_check alien unreachable misplaced owing owed first within ones
filler-last = refl

-- four levels are taken, five are not
pub level-four : sets_check 2 7 (sets_with (1 ∷ 1 ∷ 1 ∷ 1 ∷ []) (1 ∷ 1 ∷ 1 ∷ 0 ∷ []) (0 ∷ 0 ∷ 0 ∷ 1 ∷ [])) false ≡ Ok tt
unfolding sets_check one_set_check alien unreachable misplaced owing owed first within ones
level-four = refl

pub level-five : sets_check 2 7 (sets_with (1 ∷ 1 ∷ 1 ∷ 1 ∷ 1 ∷ []) (1 ∷ 1 ∷ 1 ∷ 1 ∷ 0 ∷ []) (0 ∷ 0 ∷ 0 ∷ 0 ∷ 1 ∷ [])) false ≡ Err (Nesting 7)
unfolding sets_check one_set_check alien unreachable misplaced owing owed first within ones
level-five = refl

-- no set at all
pub no-sets : sets_check 2 7 (sets_with [] [] []) false ≡ Err (Count 7)
unfolding sets_check one_set_check alien unreachable misplaced owing owed first within ones
no-sets = refl
