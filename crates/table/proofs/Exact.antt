-- The check takes exactly the sound tables.
use Rattle.std.specs.Prelude.{Ok}
use Prim.Native.Nat.{ℕ, ◌*◌, ◌≤◌, ◌<◌}
use mathlib.Core.List.{List}
use mathlib.Core.Path.{◌≡◌, ap, ◌∙◌}
use native.Mathlib.Omega.{arith}
use lib.ListN.{length}
use Rattle.refusals.proofs.First.{first-all, first-sound, missed}
use Rattle.refusals.specs.declared.Refusal.TheVariants.{Length}
use Rattle.rows.specs.Site.{slice, row_unfilled, site_check}
use Rattle.rows.proofs.Row.{Row, row-sound, sound-row}
use Rattle.rows.proofs.Site.{zero-above, clean-above}
use Rattle.table.specs.Table.{site_of, count_of, sites, table_misshapen, sites_check, check, Table}
use Rattle.table.specs.Theorems.{CheckExact}
use Rattle.table.proofs.Table.{well-shaped, shape, sites-of, right-length}

-- site by site, for a caller that knows n
pub checked-sites : (t : List ℕ) (n : ℕ) → length t ≡ 63 * n → 1 ≤ n → n ≤ 64 → sites_check n t ≡ Ok tt → Table t n
unfolding sites_check site_check
checked-sites t n e p q h =
    let row : (v : ℕ) → v < n → Row n v (count_of t v) (slice (site_of t v)) (row_unfilled (site_of t v)) =
    λ v l. row-sound n v v (count_of t v) (slice (site_of t v)) (row_unfilled (site_of t v)) (first-all (λ w. site_check n w w (site_of t w)) n v h l) in
    record {
      long = e;
      some-site = p;
      few-sites = q;
      some-slice = λ v l. (row v l).some-slice;
      few-slices = λ v l. (row v l).few-slices;
      owner = λ v i l. (row v l).owner i;
      below = λ v i l. (row v l).below i;
      ascend = λ v i l. (row v l).ascend i;
      unused = λ v i l. zero-above (site_of t v) (row v l).clean i;
    }

pub sound-sites : {t : List ℕ} {n : ℕ} → Table t n → sites_check n t ≡ Ok tt
unfolding sites_check site_check
sound-sites {t} {n} s =
    first-sound (λ v. site_check n v v (site_of t v)) n
    (λ v l. sound-row n v v (count_of t v) (slice (site_of t v)) (row_unfilled (site_of t v))
    (record {
      some-slice = s.some-slice v l;
      few-slices = s.few-slices v l;
      owner = λ i. s.owner v i l;
      below = λ i. s.below v i l;
      ascend = λ i. s.ascend v i l;
      clean = clean-above (site_of t v) (λ i. s.unused v i l);
    }))

-- what gets through is sound
pub checked : (t : List ℕ) → check t ≡ Ok tt → Table t (sites (length t))
unfolding check
checked t h =
    let p = missed (table_misshapen (length t)) Length (sites_check (sites (length t)) t) h in
    let q = shape (length t) p.0 in
    checked-sites t (sites (length t)) q.0 q.1 q.2 p.1

-- what is sound gets through
pub sound : {t : List ℕ} {n : ℕ} → Table t n → check t ≡ Ok tt
sound {t} {n} s =
    let e = sites-of s in
    let z = s.long in
    let a = s.some-site in
    let b = s.few-sites in
    right-length t (well-shaped (length t) (omega arith) (λ k. omega arith) (omega arith))
    ∙ ap (λ (k : ℕ). sites_check k t) e ∙ sound-sites s

pub exact : CheckExact
exact t = (checked t, λ s. sound s)
