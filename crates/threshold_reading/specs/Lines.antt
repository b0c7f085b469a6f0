-- The sets of the lines as they are heard, in 64 times 148 numbers: of each site how many sets its line has, then of each set its threshold, the number of its
-- inner sets and the mask of its sites. "The sets of a site stand in preorder, as their opening brackets come (the root first)."
use Rattle.std.specs.Prelude.{ℕ, ◌+◌, ◌*◌, List, get_or, set}
use Rattle.std.specs.Int.Bits.{bit_or}
use Rattle.threshold_grammar.specs.Grammar.{threshold_own}
use Rattle.threshold_grammar.specs.declared.Deed.{Deed}
use Rattle.threshold_grammar.specs.declared.Deed.TheVariants.{Nothing, Root, Inner, Least, Site}
use Rattle.threshold_grammar.specs.declared.Spot.{Spot}
use Rattle.threshold_nesting.specs.declared.Held.{Held}
use Rattle.threshold_sets.specs.Met.{ThresholdSets}

-- where they stand: site u, set i
abbrev pub count_at : ℕ → ℕ
count_at u = 148 * u

abbrev pub threshold_at : ℕ → ℕ → ℕ
threshold_at u i = 148 * u + (1 + 3 * i)

abbrev pub inner_at : ℕ → ℕ → ℕ
inner_at u i = 148 * u + (2 + 3 * i)

abbrev pub plain_at : ℕ → ℕ → ℕ
plain_at u i = 148 * u + (3 + 3 * i)

-- the sets of site u
abbrev pub sets_heard : List ℕ → ℕ → ThresholdSets
sets_heard t u = record {
  count = get_or t (count_at u) 0;
  threshold = λ i. get_or t (threshold_at u i) 0;
  inner = λ i. get_or t (inner_at u i) 0;
  plain = λ i. get_or t (plain_at u i) 0;
}

-- of the line that is read: how many sets it has so far, and its innermost open set
abbrev pub held : Spot → List ℕ → Held
held s t = let S = sets_heard t (threshold_own s.v) in record {
  sets = S.count;
  threshold = S.threshold s.set;
  inner = S.inner s.set;
  plain = S.plain s.set;
}

-- what a word does to them, when it has led to the spot s: the root begins; an inner set begins, behind all others, and counts for the set around it; the
-- innermost set gets its threshold, sites
abbrev pub enacted : Deed → Spot → List ℕ → List ℕ
enacted Nothing s t = t
enacted Root s t = set t (count_at (threshold_own s.v)) 1
enacted Inner s t =
    let i = inner_at (threshold_own s.v) s.around in
    set (set t (count_at (threshold_own s.v)) (s.set + 1)) i (get_or t i 0 + 1)
enacted (Least x) s t = set t (threshold_at (threshold_own s.v) s.set) x
enacted (Site q) s t = let i = plain_at (threshold_own s.v) s.set in set t i (bit_or (get_or t i 0) q)
