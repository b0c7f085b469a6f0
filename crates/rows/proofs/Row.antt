-- Laws of one site's slices: one for each way out of their check, and what a sound site has.
use Prim.Native.Nat.{ℕ, zero, suc, ◌+◌, ◌-◌, ◌≤◌, ◌<◌}
use mathlib.Core.Bool.{Bool, true, false, ◌&&◌, ◌||◌, not, or-true}
use mathlib.Core.Logic.{◌⊎◌, ⊎_elim}
use mathlib.Core.Path.{◌≡◌, refl, sym, ap, ap₂, subst, ◌∙◌}
use native.Mathlib.Nat.{not-suc-le-zero, suc-ne-zero, eq-or-lt_of_le}
use native.Mathlib.Omega.{arith}
use lib.Bits.{bit_and, bit_or}
use lib.Dec.{eqb, eqb-suc-zero, ltb}
use borrow.Author.Tests.{eq-eqb, ne_eqb, lt-ltb, le-ltb, eqb-false, ltb-true, ltb-false, not-false}
use Rattle.ground.proofs.Logic.{and_l, and_r, or-none, cases}
use Rattle.masks.proofs.Laws.Subsets.{mem, ⊆-refl, ⊆-trans, within-⊆, ⊆-within, and-⊆-l, and-⊆-r, or-⊆-l, or-⊆-r}
use Rattle.masks.specs.Mask.{has, within, all_below, ◌∈◌, ◌⊆◌}
use Rattle.refusals.proofs.First.{or_else-sound, first-all, first-sound, first_alike, kept, missed}
use Rattle.refusals.specs.First.{or_else, refuse, first}
use Rattle.refusals.specs.Check.{Check}
use Rattle.std.specs.Prelude.{Ok, Err}
use Rattle.refusals.specs.declared.Refusal.{Refusal}
use Rattle.refusals.specs.declared.Refusal.TheVariants.{Count, Slice, Order, Filler}
use Rattle.rows.specs.Inner.{behind_check}
use Rattle.rows.specs.Row.{strange, unordered, slice_check, row_check}

pred-suc : (i : ℕ) → suc i - 1 ≡ i
pred-suc i = omega arith

-- the owner's slice k, which is q, in a table of n sites, and the slice before it
module _ (n owner place k before q : ℕ) where
  pub lacks-owner : has q owner ≡ false → behind_check n owner place k before q ≡ Err (Slice place)
  unfolding behind_check strange
  lacks-owner e = rw e refl

  pub names-above : within q (all_below n) ≡ false → behind_check n owner place k before q ≡ Err (Slice place)
  unfolding behind_check strange
  names-above e = rw (e, or-true) refl

  module _ (p : has q owner ≡ true) (w : within q (all_below n) ≡ true) where
    pub is-first : k ≡ 0 → behind_check n owner place k before q ≡ Ok tt
    unfolding behind_check strange
    is-first e = rw (p, w, eq-eqb k 0 e) refl

    pub is-above : (k ≡ 0 → ⊥) → before < q → behind_check n owner place k before q ≡ Ok tt
    unfolding behind_check strange
    is-above ne l = rw (p, w, ne_eqb k 0 ne, lt-ltb before q l) refl

    pub not-above : (k ≡ 0 → ⊥) → q ≤ before → behind_check n owner place k before q ≡ Err (Order place)
    unfolding behind_check strange
    not-above ne l = rw (p, w, ne_eqb k 0 ne, le-ltb before q l) refl

-- slice k is the one before the next
pub before-next : (slice : ℕ → ℕ) (k : ℕ) → slice k ≡ slice (k + 1 - 1)
before-next slice k = ap slice (omega arith)

-- slice k of a row
module _ (n owner place : ℕ) (slice : ℕ → ℕ) (k : ℕ) where
  pub slice-behind : slice_check n owner place slice k ≡ behind_check n owner place k (slice (k - 1)) (slice k)
  unfolding slice_check unordered behind_check
  slice-behind = refl

  -- as it is walked: the slice and the one before it were read
  pub slice-walked : {before q : ℕ} {r : Check} → before ≡ slice (k - 1) → q ≡ slice k → r ≡ behind_check n owner place k before q
      → slice_check n owner place slice k ≡ r
  slice-walked eb eq e = slice-behind ∙ sym (e ∙ ap₂ (behind_check n owner place k) eb eq)

  -- what a sound slice has
  neither : slice_check n owner place slice k ≡ Ok tt → (strange n owner (slice k) ≡ false) × (unordered slice k ≡ false)
  unfolding slice_check
  neither h =
      let q = missed (strange n owner (slice k)) (Slice place) (refuse (unordered slice k) (Order place)) h in
      (q.0, kept (unordered slice k) (Order place) q.1)

  pub slice-owner : slice_check n owner place slice k ≡ Ok tt → owner ∈ slice k
  unfolding strange
  slice-owner h = mem (not-false (has (slice k) owner) (or-none (not (has (slice k) owner)) (not (within (slice k) (all_below n))) (neither h).0).0)

  pub slice-below : slice_check n owner place slice k ≡ Ok tt → slice k ⊆ all_below n
  unfolding strange
  slice-below h =
      within-⊆ (slice k) (all_below n)
      (not-false (within (slice k) (all_below n)) (or-none (not (has (slice k) owner)) (not (within (slice k) (all_below n))) (neither h).0).1)

pub slice-ascends : (n owner place : ℕ) (slice : ℕ → ℕ) (i : ℕ) → slice_check n owner place slice (suc i) ≡ Ok tt → slice i < slice (suc i)
unfolding unordered
slice-ascends n owner place slice i h =
    let e : not (ltb (slice i) (slice (suc i))) ≡ false = rw (eqb-suc-zero i, pred-suc i) at (neither n owner place slice (suc i) h).1 in
    ltb-true (slice i) (slice (suc i)) (not-false (ltb (slice i) (slice (suc i))) e)

-- slices that contain their owner, name no site at or above n and ascend are sound
slices-sound : (n v place count : ℕ) (slice : ℕ → ℕ) → ((i : ℕ) → i < count → v ∈ slice i) → ((i : ℕ) → i < count → slice i ⊆ all_below n)
    → ((i : ℕ) → suc i < count → slice i < slice (suc i)) → first (slice_check n v place slice) count ≡ Ok tt
slices-sound n v place count slice owner below ascend = first-sound (slice_check n v place slice) count each
  where
    each : (i : ℕ) → i < count → slice_check n v place slice i ≡ Ok tt
    each zero l = slice-behind n v place slice 0 ∙ is-first n v place 0 (slice 0) (slice 0) (owner 0 l).holds (⊆-within (below 0 l)) refl
    each (suc i) l =
        slice-behind n v place slice (suc i)
        ∙ is-above n v place (suc i) (slice (suc i - 1)) (slice (suc i)) (owner (suc i) l).holds (⊆-within (below (suc i) l)) (suc-ne-zero i)
        (subst (λ (k : ℕ). slice k < slice (suc i)) (sym (pred-suc i)) (ascend i l))

-- What is gathered of the first k slices: what all have in common, what they name together, and whether each is above the one before.
pub record Gathers (slice : ℕ → ℕ) (k every some : ℕ) (ascend : Bool) : Type 0 where
  pub common : (i : ℕ) → i < k → every ⊆ slice i
  pub together : (i : ℕ) → i < k → slice i ⊆ some
  pub above : ascend ≡ true → (i : ℕ) → suc i < k → slice i < slice (suc i)

only_zero : (i : ℕ) → i < 1 → i ≡ 0
only_zero i l = omega arith

module _ (slice : ℕ → ℕ) where
  alone : (ascend : Bool) → Gathers slice 1 (slice 0) (slice 0) ascend
  alone ascend =
      record {
        common = λ i l. subst (λ (j : ℕ). slice 0 ⊆ slice j) (sym (only_zero i l)) (⊆-refl (slice 0));
        together = λ i l. subst (λ (j : ℕ). slice j ⊆ slice 0) (sym (only_zero i l)) (⊆-refl (slice 0));
        above = λ e i l. absurd (omega arith);
      }

  pub gathers-first : (every some : ℕ) (ascend : Bool) → every ≡ slice 0 → some ≡ slice 0 → Gathers slice 1 every some ascend
  gathers-first every some ascend e f = rw (e, f) (alone ascend)

  with_slice : (k every some : ℕ) (ascend up : Bool) → up ≡ ascend && ltb (slice (k - 1)) (slice k) → Gathers slice k every some ascend
      → Gathers slice (k + 1) (bit_and every (slice k)) (bit_or some (slice k)) up
  with_slice k every some ascend up e g =
      record {
        common = λ i l. ⊎_elim (λ x. subst (λ (j : ℕ). bit_and every (slice k) ⊆ slice j) (sym x) (and-⊆-r every (slice k)))
            (λ b. ⊆-trans (and-⊆-l every (slice k)) (g.common i b)) (last_or i l);
        together = λ i l. ⊎_elim (λ x. subst (λ (j : ℕ). slice j ⊆ bit_or some (slice k)) (sym x) (or-⊆-r some (slice k)))
            (λ b. ⊆-trans (g.together i b) (or-⊆-l some (slice k))) (last_or i l);
        above = λ h i l. ⊎_elim (λ x. step i x (ltb-true (slice (k - 1)) (slice k) (and_r ascend _ (sym e ∙ h))))
            (λ b. g.above (and_l ascend _ (sym e ∙ h)) i b) (last_or (suc i) l);
      }
    where
      last_or : (i : ℕ) → i < k + 1 → (i ≡ k) ⊎ (i < k)
      last_or i l = eq-or-lt_of_le (omega arith)

      step : (i : ℕ) → suc i ≡ k → slice (k - 1) < slice k → slice i < slice (suc i)
      step i e l = subst (λ (j : ℕ). slice i < slice j) (sym e) (subst (λ (j : ℕ). slice j < slice k) (omega arith) l)

  pub gathers-more : (k before q every some every₁ some₁ : ℕ) (ascend up : Bool) → before ≡ slice (k - 1) → q ≡ slice k
      → (every₁ ≡ bit_and every q) × (some₁ ≡ bit_or some q) × (up ≡ ascend && ltb before q) → Gathers slice k every some ascend → Gathers slice (k + 1) every₁ some₁ up
  gathers-more k before q every some every₁ some₁ ascend up eb eq h g =
      rw (h.0, h.1, eq) (with_slice k every some ascend up (h.2 ∙ ap₂ (λ (x y : ℕ). ascend && ltb x y) eb eq) g)

  pub gathers-sound : (n v count k every some : ℕ) (ascend r : Bool) → Gathers slice k every some ascend → count ≤ k
      → r ≡ (ascend && has every v) && within some (all_below n) → r ≡ true → (place : ℕ) → first (slice_check n v place slice) count ≡ Ok tt
  gathers-sound n v count k every some ascend r g l e t place =
      let all = sym e ∙ t in
      let both = and_l (ascend && has every v) (within some (all_below n)) all in
      slices-sound n v place count slice (λ i b. (g.common i (omega arith)).each v (mem (and_r ascend (has every v) both)))
      (λ i b. ⊆-trans (g.together i (omega arith)) (within-⊆ some (all_below n) (and_r (ascend && has every v) (within some (all_below n)) all)))
      (λ i b. g.above (and_l ascend (has every v) both) i (omega arith))

-- What a sound site has.
pub record Row (n v count : ℕ) (slice : ℕ → ℕ) (unfilled : Bool) : Type 0 where
  pub some-slice : 1 ≤ count
  pub few-slices : count ≤ 62
  pub owner : (i : ℕ) → i < count → v ∈ slice i
  pub below : (i : ℕ) → i < count → slice i ⊆ all_below n
  pub ascend : (i : ℕ) → suc i < count → slice i < slice (suc i)
  pub clean : unfilled ≡ false

-- a row, whatever is refused of its slices
module _ (each : ℕ → Check) (place count : ℕ) (unfilled : Bool) where
  pub no-slice : count ≡ 0 → row_check each place count unfilled ≡ Err (Count place)
  unfolding row_check
  no-slice e = rw (eq-eqb count 0 e) refl

  pub many-slices : 62 < count → row_check each place count unfilled ≡ Err (Count place)
  unfolding row_check
  many-slices l = rw (lt-ltb 62 count l, or-true) refl

  module _ (ne : count ≡ 0 → ⊥) (l : count ≤ 62) where
    pub bad-slice : {q : Check} {r : Refusal} → q ≡ first each count → q ≡ Err r → row_check each place count unfilled ≡ Err r
    unfolding row_check
    bad-slice f e = rw (ne_eqb count 0 ne, le-ltb 62 count l, ← f, e) refl

    pub good-slices : {q : Check} → q ≡ first each count → q ≡ Ok tt → row_check each place count unfilled ≡ refuse unfilled (Filler place)
    unfolding row_check
    good-slices f e = rw (ne_eqb count 0 ne, le-ltb 62 count l, ← f, e) refl

module _ (n v place count : ℕ) (slice : ℕ → ℕ) (unfilled : Bool) where
  pub row-sound : row_check (slice_check n v place slice) place count unfilled ≡ Ok tt → Row n v count slice unfilled
  unfolding row_check
  row-sound h =
      let p = missed (eqb count 0 || ltb 62 count) (Count place) (or_else (first (slice_check n v place slice) count) (refuse unfilled (Filler place))) h in
      let q = or_else-sound (first (slice_check n v place slice) count) (refuse unfilled (Filler place)) p.1 in
      let c = or-none (eqb count 0) (ltb 62 count) p.0 in
      let ne = eqb-false count 0 c.0 in
      let each : (i : ℕ) → i < count → slice_check n v place slice i ≡ Ok tt = λ i l. first-all (slice_check n v place slice) count i q.0 l in
      record {
        some-slice = omega arith;
        few-slices = ltb-false 62 count c.1;
        owner = λ i l. slice-owner n v place slice i (each i l);
        below = λ i l. slice-below n v place slice i (each i l);
        ascend = λ i l. slice-ascends n v place slice i (each (suc i) l);
        clean = kept unfilled (Filler place) q.1;
      }

  pub sound-row : Row n v count slice unfilled → row_check (slice_check n v place slice) place count unfilled ≡ Ok tt
  sound-row r =
      good-slices (slice_check n v place slice) place count unfilled (λ e. not-suc-le-zero (subst (λ (k : ℕ). 1 ≤ k) e r.some-slice)) r.few-slices refl
      (slices-sound n v place count slice r.owner r.below r.ascend)
      ∙ ap (λ (u : Bool). refuse u (Filler place)) r.clean

-- a row whose slices are the same at each place, and its filler where it is looked at, is refused alike
slice-alike : (n owner place : ℕ) (s t : ℕ → ℕ) (k : ℕ) → s k ≡ t k → s (k - 1) ≡ t (k - 1) → slice_check n owner place s k ≡ slice_check n owner place t k
unfolding slice_check strange unordered
slice-alike n owner place s t k e p = rw (e, p) refl

pub row-alike : (n owner place count : ℕ) (s t : ℕ → ℕ) (u w : Bool) → ((k : ℕ) → k < 62 → s k ≡ t k) → (count ≤ 62 → u ≡ w)
    → row_check (slice_check n owner place s) place count u ≡ row_check (slice_check n owner place t) place count w
unfolding row_check
row-alike n owner place count s t u w h f =
    let x = slice_check n owner place s in
    let y = slice_check n owner place t in
    ⊎_elim (λ e. many-slices x place count u (ltb-true 62 count e) ∙ sym (many-slices y place count w (ltb-true 62 count e)))
    (λ e. let l = ltb-false 62 count e in
    let a : first x count ≡ first y count =
    first_alike x y count (λ k g. slice-alike n owner place s t k (h k (omega arith)) (h (k - 1) (omega arith))) in
    rw (a, f l) refl)
    (cases (ltb 62 count))
