-- Laws of the places: each is a slice, and those before it are passed; and of the sets that hold a slice.
use Prim.Native.Nat.{ℕ, ◌≤◌, ◌<◌}
use mathlib.Core.Bool.{true, false}
use mathlib.Core.List.{List}
use mathlib.Core.Logic.{⊎_elim}
use mathlib.Core.Path.{◌≡◌, refl, sym, ◌∙◌, subst}
use native.Mathlib.Nat.{lt_of_lt_of_le}
use lib.Dec.{eqb, ltb}
use lib.ListN.{length, get_or, set, replicate, get_or-replicate, length-replicate, length-set}
use lib.Seq.{get_or-set_same, get_or-set_other}
use borrow.Author.Tests.{eqb-true, eqb-false, ltb-true, ltb-false}
use Rattle.ground.proofs.Logic.{is_false, clash, cases}
use Rattle.masks.proofs.Laws.Single.{single-∈}
use Rattle.masks.proofs.Laws.Subsets.{⊆-trans, within-⊆, ⊆-within, ∈-minus}
use Rattle.masks.specs.Mask.{within, single, minus, all_below, ◌∈◌, ◌⊆◌}
use Rattle.one_round.specs.Inner.Places.{Place, Places, Placed, SlicesHeld}
use Rattle.sets.proofs.Rows.{row-all}
use Rattle.sets.specs.Inner.Rows.{of_sets, Rows, rules_of}
use Rattle.table.specs.Table.{slice_of}

-- site v, or another one
one-or-other : (P : ℕ → Type 0) (v u : ℕ) → P v → ((u ≡ v → ⊥) → P u) → P u
one-or-other P v u same other = ⊎_elim (λ e. subst P (sym (eqb-true u v e)) same) (λ e. other (eqb-false u v e)) (cases (eqb u v))

-- number k is written for site v
module _ (P : ℕ → ℕ → Type 0) (l : List ℕ) (v k : ℕ) where
  written : length l ≡ 64 → v < 64 → P v k → (u : ℕ) → ((u ≡ v → ⊥) → P u (get_or l u 0)) → P u (get_or (set l v k) u 0)
  written many h new u old =
      one-or-other (λ (u : ℕ). P u (get_or (set l v k) u 0)) v u
      (subst (P v) (sym (get_or-set_same l v k 0 (subst (λ (x : ℕ). v < x) (sym many) h))) new)
      (λ ne. subst (P u) (sym (get_or-set_other l v u k 0 ne)) (old ne))

module _ (t : List ℕ) where
  -- what is passed stays so while the set shrinks
  pub place-less : {u w v k : ℕ} → u ⊆ w → Place t w v k → Place t u v k
  place-less {u} {w} {v} s p =
      record {
        slice = p.slice;
        passed = λ i h. is_false (within (slice_of t v i) u) (λ e. clash (⊆-within (⊆-trans (within-⊆ (slice_of t v i) u e) s)) (p.passed i h));
      }

  -- site v looks from its place on, and finds no slice before slice k
  pub passed_to : {w v from k : ℕ} → Place t w v from → ((i : ℕ) → from ≤ i → i < k → within (slice_of t v i) w ≡ false) →
      (i : ℕ) → i < k → within (slice_of t v i) w ≡ false
  passed_to {w} {v} {from} p f i h = ⊎_elim (λ q. p.passed i (ltb-true i from q)) (λ q. f i (ltb-false i from q) h) (cases (ltb i from))

  -- in the first round
  pub placed : {w v k : ℕ} {places : List ℕ} → length places ≡ 64 → v < 64 → (of_sets t v ≡ false → (rules_of t).inside v w ≡ true → Place t w v k) → Placed t w v places (set places v k)
  placed {w} {v} {k} {places} many l q =
      record {
        many = length-set places v k ∙ many;
        at = λ s e. subst (Place t w v) (sym (get_or-set_same places v k 0 (subst (λ (x : ℕ). v < x) (sym many) l))) (q s e);
        others = λ u ne. get_or-set_other places v u k 0 ne;
      }

  -- a row of sets has no place
  pub placed-none : {w v : ℕ} {places : List ℕ} → length places ≡ 64 → of_sets t v ≡ true → Placed t w v places places
  placed-none many s = record { many = many; at = λ o. absurd (clash s o); others = λ u ne. refl }

  -- each that was asked and is left has its place: one more is asked
  pub asked-placed : {w n v rest rest' stay stay' : ℕ} {before after : List ℕ} →
      ((u : ℕ) → u < n → u ∈ stay → (u ∈ rest → ⊥) → of_sets t u ≡ false → Place t w u (get_or before u 0)) → Placed t w v before after →
      rest' ≡ minus rest (single v) → stay' ⊆ stay → (v ∈ stay' → (rules_of t).inside v w ≡ true) →
      (u : ℕ) → u < n → u ∈ stay' → (u ∈ rest' → ⊥) → of_sets t u ≡ false → Place t w u (get_or after u 0)
  asked-placed {w} {v = v} {rest = rest} {stay' = stay'} {after = after} old new e sub f u l h out =
      one-or-other (λ (u : ℕ). u ∈ stay' → of_sets t u ≡ false → Place t w u (get_or after u 0)) v u (λ h s. new.at s (f h))
      (λ ne h s. subst (Place t w u) (sym (new.others u ne)) (old u l (sub.each u h) (λ i. out (subst (λ (x : ℕ). u ∈ x) (sym e) (∈-minus i (λ z. ne (single-∈ v z))))) s)) h

  module _ (n : ℕ) where
    pub places-less : {u w : ℕ} {places : List ℕ} → u ⊆ w → Places t n w places → Places t n u places
    places-less s p = record { many = p.many; at = λ v l h o. place-less s (p.at v l (s.each v h) o) }

    pub held-less : {u w : ℕ} {held : List ℕ} → u ⊆ w → SlicesHeld t n w held → SlicesHeld t n u held
    held-less s p = record { many = p.many; at = λ v l h. p.at v l (s.each v h) }

    -- slice k is the place of site v now
    module _ {w v : ℕ} (k : ℕ) {places : List ℕ} (l : v < 64) (p : Places t n w places) where
      pub places-more : Place t w v k → Places t n w (set places v k)
      places-more q =
          record {
            many = length-set places v k ∙ p.many;
            at = λ u m h o. written (λ (u k : ℕ). Place t w u k) places v k p.many l q u (λ ne. p.at u m h o);
          }

    -- set q, which holds a slice of site v, is held for it
    pub held_more : {w v : ℕ} (q : ℕ) {held : List ℕ} → v < 64 → (rules_of t).inside v q ≡ true → SlicesHeld t n w held → SlicesHeld t n w (set held v q)
    held_more {w} {v} q {held} l e h =
        record {
          many = length-set held v q ∙ h.many;
          at = λ u m i. written (λ (u x : ℕ). (rules_of t).inside u x ≡ true) held v q h.many l e u (λ ne. h.at u m i);
        }

    -- before anything is held: all sites, which hold a slice of each
    pub held_all : {m w : ℕ} → Rows t n → m ≡ all_below n → SlicesHeld t n w (replicate 64 m)
    held_all {m} {w} rows e =
        record {
          many = length-replicate 64 m;
          at = λ v l h.
              subst (λ (x : ℕ). (rules_of t).inside v x ≡ true) (sym (get_or-replicate 64 v m 0 (lt_of_lt_of_le l rows.few-sites) ∙ e)) (row-all rows v l);
        }
