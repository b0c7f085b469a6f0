-- The chain of n sites, as a table: sites 0 and 1 have the slice of both, each site after them the slice of itself and the one before it.
use Prim.Native.Nat.{ℕ, zero, suc, ◌+◌, ◌*◌, ◌≤◌, ◌<◌}
use mathlib.Core.List.{List, ◌∷◌}
use mathlib.Core.Logic.{◌⊎◌, inl, inr, ⊎_elim}
use mathlib.Core.Path.{◌≡◌, sym, ap, ◌∙◌}
use native.Mathlib.Omega.{arith}
use lib.Bits.{bit_or}
use lib.ListN.{length, get_or, replicate, length-replicate, get_or-replicate}
use Rattle.ground.proofs.Pieces.{length-cat, part-cat}
use Rattle.ground.specs.Pieces.{cat}
use Rattle.masks.proofs.Laws.AllBelow.{in_all}
use Rattle.masks.proofs.Laws.Single.{∈-eq, ∈-or, ∈-single, single-∈, single-⊆}
use Rattle.masks.proofs.Laws.Subsets.{or-⊆, or-⊆-l, or-⊆-r}
use Rattle.masks.specs.Mask.{single, ◌∈◌, ◌⊆◌}
use Rattle.sets.specs.Groups.{Groups, lists, sites_of, fbqs_in, Checked}
use Rattle.table.proofs.Exact.{sound}
use Rattle.table.proofs.Table.{sites-of}
use Rattle.table.specs.Table.{site_of, count_of, slice_of, Table}

-- the other site of a site's slice, and the slice
abbrev pub other : ℕ → ℕ
other zero = 1
other (suc v) = v

pub pair : ℕ → ℕ
pair v = bit_or (single (other v)) (single v)

-- the 63 numbers of a site, those of all sites, and the table
row : ℕ → List ℕ
row v = 1 ∷ pair v ∷ replicate 61 0

rows : ℕ → List ℕ
rows n = cat row n

pub chain : ℕ → Groups
chain n = lists (rows n)

-- a site and its other, and the slice of both

pub other-in : (v : ℕ) → other v ∈ pair v
unfolding pair
other-in v = (or-⊆-l (single (other v)) (single v)).each (other v) (∈-single (other v))

pub own_in : (v : ℕ) → v ∈ pair v
unfolding pair
own_in v = (or-⊆-r (single (other v)) (single v)).each v (∈-single v)

pub pair-⊆ : {v u : ℕ} → other v ∈ u → v ∈ u → pair v ⊆ u
unfolding pair
pair-⊆ p q = or-⊆ (single-⊆ p) (single-⊆ q)

pub in_pair : {v u : ℕ} → u ∈ pair v → (u ≡ other v) ⊎ (u ≡ v)
unfolding pair
in_pair {v} h = ⊎_elim (λ k. inl (single-∈ (other v) k)) (λ k. inr (single-∈ v k)) (∈-or (single (other v)) (single v) h)

other-below : {n : ℕ} (v : ℕ) → 2 ≤ n → v < n → other v < n
other-below zero two l = omega arith
other-below (suc v) two l = omega arith

pub other-not : (v : ℕ) → other v ≡ v → ⊥
other-not zero e = omega arith
other-not (suc v) e = omega arith

row-length : (v : ℕ) → length (row v) ≡ 63
unfolding row
row-length v = ap (λ (k : ℕ). suc (suc k)) (length-replicate {A = ℕ} 61 0)

row-unused : (v i : ℕ) → 1 ≤ i → i < 62 → get_or (row v) (1 + i) 0 ≡ 0
unfolding row
row-unused v zero p l = absurd (omega arith)
row-unused v (suc i) p l = ap (λ (k : ℕ). get_or (row v) k 0) (there i) ∙ get_or-replicate 61 i 0 0 (omega arith)
  where
    there : (i : ℕ) → 1 + suc i ≡ suc (suc i)
    there i = omega arith

module _ (n : ℕ) where
  rows-length : length (rows n) ≡ 63 * n
  unfolding rows
  rows-length = length-cat row 63 n (λ i l. row-length i)

  row_at : {v : ℕ} → v < n → site_of (rows n) v ≡ row v
  unfolding rows
  row_at {v} l = part-cat row 63 n v l (λ i h. row-length i)

  one-slice : {v : ℕ} → v < n → count_of (rows n) v ≡ 1
  unfolding row
  one-slice l = ap (λ (m : List ℕ). get_or m 0 0) (row_at l)

  slice-pair : {v i : ℕ} → v < n → i < count_of (rows n) v → slice_of (rows n) v i ≡ pair v
  unfolding row
  slice-pair {v} {i} l h = ap (λ (m : List ℕ). get_or m (1 + i) 0) (row_at l) ∙ ap (λ (k : ℕ). get_or (row v) (1 + k) 0) z
    where
      z : i ≡ 0
      z = omega (arith, one-slice l)

  -- the slice of a site is its pair, and no other
  pub is-pair : (v : ℕ) → v < n → {q : ℕ} → (fbqs_in (chain n)).Slice v q → q ≡ pair v
  unfolding chain
  is-pair v l x = x.2 ∙ slice-pair l x.1

  pub has-pair : (v : ℕ) → v < n → (fbqs_in (chain n)).Slice v (pair v)
  unfolding chain
  has-pair v l = let one : 0 < count_of (rows n) v = omega (arith, one-slice l) in (0, one, sym (slice-pair l one))

  -- the check takes it, and it has n sites
  module _ (two : 2 ≤ n) (few : n ≤ 64) where
    rows-table : Table (rows n) n
    rows-table = record {
      long = rows-length;
      some-site = omega arith;
      few-sites = few;
      some-slice = λ v l. omega (arith, one-slice l);
      few-slices = λ v l. omega (arith, one-slice l);
      owner = λ v i l h. ∈-eq (sym (slice-pair l h)) (own_in v);
      below = λ v i l h. rw (slice-pair l h) (pair-⊆ (in_all (other-below v two l)) (in_all l));
      ascend = λ v i l h. absurd (omega (arith, one-slice l));
      unused = λ v i l h k. ap (λ (m : List ℕ). get_or m (1 + i) 0) (row_at l) ∙ row-unused v i (omega (arith, one-slice l)) k;
    }

    pub chain-checked : Checked (chain n)
    unfolding chain
    chain-checked = sound rows-table

    pub chain-sites : sites_of (chain n) ≡ n
    unfolding chain
    chain-sites = sites-of rows-table
