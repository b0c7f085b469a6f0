-- Laws of the table in memory: where its numbers stand, its length, and the ways out of its check.
use Rattle.std.specs.Prelude.{Err}
use Prim.Native.Nat.{ℕ, ◌+◌, ◌*◌, ◌%◌, ◌^◌, ◌≤◌, ◌<◌}
use mathlib.Core.Bool.{true, false, ◌||◌, not, or-true}
use mathlib.Core.List.{List}
use mathlib.Core.Logic.{⊎_elim}
use mathlib.Core.Path.{◌≡◌, refl, sym, ap, subst, ◌∙◌}
use native.Mathlib.Omega.{arith}
use lib.Dec.{eqb, ltb}
use lib.ListN.{length, get_or, drop, length-take, length-drop, get_or-eq_default}
use lib.Pow.{ones_lt, pow_pos}
use lib.Seq.{get_or-take, get_or-drop}
use borrow.Author.Tests.{eqb-true, eqb-false, eq-eqb, ne_eqb, ltb-true, ltb-false, lt-ltb, le-ltb, not-false}
use Rattle.ground.proofs.Logic.{or-none, cases}
use Rattle.masks.proofs.Laws.Subsets.{below-⊆}
use Rattle.refusals.specs.declared.Refusal.TheVariants.{Length}
use Rattle.table.specs.Table.{site_of, count_of, slice_of, sites, table_misshapen, sites_check, check, Table}

-- where the numbers of site v stand

pub count_at : (t : List ℕ) (v : ℕ) → count_of t v ≡ get_or t (63 * v) 0
count_at t v = get_or-take 63 (drop (63 * v) t) 0 0 (omega arith) ∙ get_or-drop (63 * v) t 0 0 ∙ ap (λ (i : ℕ). get_or t i 0) (omega arith)

pub slice_at : (t : List ℕ) (v i : ℕ) → i < 62 → slice_of t v i ≡ get_or t (63 * v + 1 + i) 0
slice_at t v i l =
    get_or-take 63 (drop (63 * v) t) (1 + i) 0 (omega arith) ∙ get_or-drop (63 * v) t (1 + i) 0 ∙ ap (λ (j : ℕ). get_or t j 0) (omega arith)

-- the length

module _ (many : ℕ) where
  pub odd-length : (many % 63 ≡ 0 → ⊥) → table_misshapen many ≡ true
  unfolding table_misshapen
  odd-length ne = rw (ne_eqb (many % 63) 0 ne) refl

  pub no-sites : sites many ≡ 0 → table_misshapen many ≡ true
  unfolding table_misshapen
  no-sites e = rw (eq-eqb (sites many) 0 e, or-true) refl

  pub too-many-sites : 64 < sites many → table_misshapen many ≡ true
  unfolding table_misshapen
  too-many-sites l = rw (lt-ltb 64 (sites many) l, or-true) (or-true (not (eqb (many % 63) 0)))

  pub well-shaped : many % 63 ≡ 0 → (sites many ≡ 0 → ⊥) → sites many ≤ 64 → table_misshapen many ≡ false
  unfolding table_misshapen
  well-shaped e ne l = rw (eq-eqb (many % 63) 0 e, ne_eqb (sites many) 0 ne, le-ltb 64 (sites many) l) refl

  pub shape : table_misshapen many ≡ false → (many ≡ 63 * sites many) × (1 ≤ sites many) × (sites many ≤ 64)
  unfolding table_misshapen
  shape h =
      let p = or-none (not (eqb (many % 63) 0)) (eqb (sites many) 0 || ltb 64 (sites many)) h in
      let q = or-none (eqb (sites many) 0) (ltb 64 (sites many)) p.1 in
      let e = eqb-true (many % 63) 0 (not-false (eqb (many % 63) 0) p.0) in
      let ne = eqb-false (sites many) 0 q.0 in
      (omega arith, omega arith, ltb-false 64 (sites many) q.1)

-- a table has as many sites as its length says
pub sites-of : {t : List ℕ} {n : ℕ} → Table t n → sites (length t) ≡ n
sites-of {t} {n} s = let e = s.long in omega arith

-- the ways out of the check

pub wrong-length : (t : List ℕ) → table_misshapen (length t) ≡ true → check t ≡ Err Length
unfolding check
wrong-length t e = rw e refl

pub right-length : (t : List ℕ) → table_misshapen (length t) ≡ false → check t ≡ sites_check (sites (length t)) t
unfolding check
right-length t e = rw e refl

-- no place of a table names a site at or above n, and nothing stands past a site's places or past the sites
pub slice-lt : {t : List ℕ} {n : ℕ} → Table t n → (v i : ℕ) → slice_of t v i < 2 ^ n
slice-lt {t} {n} s v i =
    ⊎_elim (λ a. ⊎_elim (λ b. place (ltb-true v n a) (ltb-true i 62 b)) (λ b. past (beside (ltb-false i 62 b))) (cases (ltb i 62)))
    (λ a. past (behind (ltb-false v n a))) (cases (ltb v n))
  where
    zeroed : slice_of t v i ≡ 0 → slice_of t v i < 2 ^ n
    zeroed e = subst (λ (x : ℕ). x < 2 ^ n) (sym e) (pow_pos n)

    place : v < n → i < 62 → slice_of t v i < 2 ^ n
    place l b =
        ⊎_elim (λ h. below-⊆ n (s.below v i l (ltb-true i (count_of t v) h)) (ones_lt n))
        (λ h. zeroed (s.unused v i l (ltb-false i (count_of t v) h) b)) (cases (ltb i (count_of t v)))

    past : length (site_of t v) ≤ 1 + i → slice_of t v i < 2 ^ n
    past l = zeroed (get_or-eq_default (site_of t v) 0 l)

    beside : 62 ≤ i → length (site_of t v) ≤ 1 + i
    beside l = omega (arith, length-take 63 (drop (63 * v) t))

    behind : n ≤ v → length (site_of t v) ≤ 1 + i
    behind l = let e = s.long in omega (arith, length-take 63 (drop (63 * v) t), length-drop (63 * v) t)
