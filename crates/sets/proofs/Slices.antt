-- Laws of a table's slices: what its three tests say, and that the shortcuts that programs take say the same.
use Prim.Native.Nat.{ℕ, ◌*◌, ◌<◌, ◌≤◌}
use mathlib.Core.Bool.{Bool, true, false, ◌&&◌, not}
use mathlib.Core.List.{List}
use mathlib.Core.Logic.{⊎_elim}
use mathlib.Core.Path.{◌≡◌, sym, ap, subst, fun_ext}
use native.Mathlib.Nat.{not-suc-le-zero, mul-le-mul_left}
use lib.Bits.{bit_and, bit_or}
use lib.Dec.{eqb, ltb}
use lib.ListN.{get_or, take, drop_of_length-le}
use borrow.Author.Tests.{not-false, ltb-true, ltb-false, eqb-true, eqb-false}
use Rattle.ground.proofs.Every.{every-at, every-fails}
use Rattle.ground.proofs.Logic.{cases, clash, is_false, not_t}
use Rattle.ground.proofs.Some.{some_of, some-ex}
use Rattle.ground.specs.Search.{some}
use Rattle.masks.proofs.Laws.Subsets.{within-⊆, ⊆-within, minus-within}
use Rattle.masks.specs.Mask.{has, within, others, ◌⊆◌}
use Rattle.sets.specs.Inner.Rows.{of_sets, ListedRow, Rows}
use Rattle.sets.specs.Slices.{slices_of}
use Rattle.table.specs.Table.{count_of, slice_of}

module _ (t : List ℕ) where
  -- some slice inside

  pub inside_of : (v i : ℕ) {u : ℕ} → i < count_of t v → slice_of t v i ⊆ u → (slices_of t).inside v u ≡ true
  unfolding slices_of
  inside_of v i {u} l sub = some_of (count_of t v) (λ i. within (slice_of t v i) u) l (⊆-within sub)

  pub inside-ex : (v u : ℕ) → (slices_of t).inside v u ≡ true → (i : ℕ) × (i < count_of t v) × (slice_of t v i ⊆ u)
  unfolding slices_of
  inside-ex v u e =
      let r = some-ex (count_of t v) (λ i. within (slice_of t v i) u) e in
      (r.0, r.1, within-⊆ (slice_of t v r.0) u r.2)

  -- deleting: "every slice loses the members of b", or the set gains them

  pub deleted-inside : (b v u : ℕ) → (slices_of t).deleted b v u ≡ not (has b v) && (slices_of t).inside v (bit_or u b)
  unfolding slices_of
  deleted-inside b v u =
      ap (λ (p : ℕ → Bool). not (has b v) && some (count_of t v) p) (fun_ext (λ i. minus-within (slice_of t v i) b u))

  -- blocking: no slice misses the others of the set

  pub blocked-meets : (v w i : ℕ) → (slices_of t).blocked v w ≡ true → i < count_of t v → bit_and (slice_of t v i) (others w v) ≡ 0 → ⊥
  unfolding slices_of
  blocked-meets v w i e l =
      eqb-false (bit_and (slice_of t v i) (others w v)) 0
      (not_t (eqb (bit_and (slice_of t v i) (others w v)) 0) (every-at (count_of t v) (λ i. not (eqb (bit_and (slice_of t v i) (others w v)) 0)) e i l))

  pub unblocked-misses : (v w : ℕ) → (slices_of t).blocked v w ≡ false → (i : ℕ) × (i < count_of t v) × (bit_and (slice_of t v i) (others w v) ≡ 0)
  unfolding slices_of
  unblocked-misses v w e =
      let r = every-fails (count_of t v) (λ i. not (eqb (bit_and (slice_of t v i) (others w v)) 0)) e in
      (r.0, r.1, eqb-true (bit_and (slice_of t v r.0) (others w v)) 0 (not-false (eqb (bit_and (slice_of t v r.0) (others w v)) 0) r.2))

-- site v of the table t, and a set u: a slice is found inside, or none is
module _ (t : List ℕ) (v u : ℕ) where
  pub inside_found : (i : ℕ) → i < count_of t v → within (slice_of t v i) u ≡ true → (slices_of t).inside v u ≡ true
  inside_found i l h = inside_of t v i l (within-⊆ (slice_of t v i) u h)

  pub inside-missed : ((i : ℕ) → i < count_of t v → within (slice_of t v i) u ≡ false) → (slices_of t).inside v u ≡ false
  inside-missed f = is_false ((slices_of t).inside v u) (λ h. let r = inside-ex t v u h in clash (⊆-within r.2) (f r.0 r.1))

-- of rows

module _ {t : List ℕ} {n : ℕ} (rows : Rows t n) where
  -- who is no site has no slice
  pub no-slice : (v : ℕ) → n ≤ v → count_of t v ≡ 0
  no-slice v l =
      ap (λ (l : List ℕ). get_or (take 63 l) 0 0) (drop_of_length-le t (subst (λ (x : ℕ). x ≤ 63 * v) (sym rows.long) (mul-le-mul_left 63 l)))

  -- who has something in its row is a site
  pub row-site : (v : ℕ) {i : ℕ} → i < count_of t v → v < n
  row-site v {i} l =
      ⊎_elim (ltb-true v n) (λ h. absurd (not-suc-le-zero (subst (λ (x : ℕ). i < x) (no-slice v (ltb-false v n h)) l))) (cases (ltb v n))

  -- and who has a slice has a row that lists it
  pub row : (v : ℕ) {i : ℕ} → of_sets t v ≡ false → i < count_of t v → ListedRow t n v
  row v s l = rows.listed v (row-site v l) s
