-- A table as the functions inside see it: rows of 63 numbers, one a site. Which form a row has is said by its first number: the count of a list of slices,
-- 1 to 62, or 64 and the number of sets. What it then says is known behind these names and in the functions that read a row's numbers; all others go by
-- `Rows` and `rules_of`.
use Rattle.std.specs.Prelude.{ℕ, suc, ◌*◌, ◌≤◌, ◌<◌, Bool, true, false, ◌&&◌, not, cond, List, ◌≡◌, ltb, length}
use Rattle.std.specs.Int.Bits.{bit_or}
use Rattle.masks.specs.Mask.{has, minus, others, all_below, ◌∈◌, ◌⊆◌}
use Rattle.sets.specs.Promises.{Questions, questions_of}
use Rattle.sets.specs.Slices.{Slices, slices_of}
use Rattle.table.specs.Table.{sites, site_of, count_of, slice_of}
use Rattle.threshold_row.specs.Inner.Row.{sets_of}
use Rattle.threshold_sets.specs.Check.{SoundSets}
use Rattle.threshold_sets.specs.Met.{root_met}

-- the row of site v holds sets with thresholds, and no list of slices
abbrev pub of_sets : List ℕ → ℕ → Bool
of_sets rows v = ltb 62 (count_of rows v)

-- site v of n sites has a row that lists its slices
pub record ListedRow (rows : List ℕ) (n v : ℕ) : Type 0 where
  pub some-slice : 1 ≤ count_of rows v
  pub few-slices : count_of rows v ≤ 62
  pub owner : (i : ℕ) → i < count_of rows v → v ∈ slice_of rows v i
  pub below : (i : ℕ) → i < count_of rows v → slice_of rows v i ⊆ all_below n
  pub ascend : (i : ℕ) → suc i < count_of rows v → slice_of rows v i < slice_of rows v (suc i)

-- n sites, each with a row of one form or the other
pub record Rows (rows : List ℕ) (n : ℕ) : Type 0 where
  pub long : length rows ≡ 63 * n
  pub some-site : 1 ≤ n
  pub few-sites : n ≤ 64
  pub listed : (v : ℕ) → v < n → of_sets rows v ≡ false → ListedRow rows n v
  pub sets : (v : ℕ) → v < n → of_sets rows v ≡ true → SoundSets n (sets_of (site_of rows v))

-- site v, whose row holds sets, is in u, and its root is met by u
abbrev pub row_holds : List ℕ → ℕ → ℕ → Bool
row_holds rows v u = has u v && root_met (sets_of (site_of rows v)) u

-- what rows answer of their slices
unfoldable pub rules_of : List ℕ → Slices
unfolding slices_of
rules_of rows = record {
  inside = λ v u. cond (of_sets rows v) (row_holds rows v u) ((slices_of rows).inside v u);
  deleted = λ b v u. cond (of_sets rows v) (not (has b v) && row_holds rows v (bit_or u b)) ((slices_of rows).deleted b v u);
  blocked = λ v w.
      cond (of_sets rows v) (not (row_holds rows v (minus (all_below (sites (length rows))) (others w v)))) ((slices_of rows).blocked v w);
}

-- the questions that the voting asks of the rows of n sites
unfoldable pub row_questions : List ℕ → ℕ → Questions
unfolding rules_of questions_of
row_questions rows n = questions_of (rules_of rows) n
