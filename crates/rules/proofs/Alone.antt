-- "The receiver alone is worked out again, for the call's side": a change to what site v has heard for a side, and to v itself in the masks of that
-- side, leaves everything else as it was.
use Prim.Native.Nat.{ℕ, ◌<◌}
use mathlib.Core.List.{List}
use mathlib.Core.Logic.{◌⊎◌, inl, inr, ⊎_elim}
use mathlib.Core.Path.{◌≡◌, sym, subst₂}
use native.Mathlib.Omega.{arith}
use Rattle.ground.proofs.Logic.{iff}
use Rattle.ground.proofs.Numbers.{same?}
use Rattle.masks.proofs.Laws.Single.{single-∈}
use Rattle.masks.proofs.Laws.Subsets.{mem, ⊆-antisym}
use Rattle.masks.specs.Mask.{has, single, ◌∈◌, ◌⊆◌}
use Rattle.rules.specs.State.{votes, accepts, voted, accepted, confirmed, get, add, Below}
use Rattle.rules.proofs.State.{below-trans, add-adds, add-cases}

-- site u at place i is none of what may change
pub record Elsewhere (n v side i u : ℕ) : Type 0 where
  pub no-vote : i ≡ votes side v → ⊥
  pub no-accept : i ≡ accepts side v → ⊥
  pub not-voted : i ≡ voted n side → u ≡ v → ⊥
  pub not-accepted : i ≡ accepted n side → u ≡ v → ⊥
  pub not-confirmed : i ≡ confirmed n side → u ≡ v → ⊥

pub record Alone (n v side : ℕ) (s t : List ℕ) : Type 0 where
  pub adds : Below s t
  pub back : {i u : ℕ} → Elsewhere n v side i u → u ∈ get t i → u ∈ get s i

pub alone-trans : {n v side : ℕ} {s t u : List ℕ} → Alone n v side s t → Alone n v side t u → Alone n v side s u
alone-trans p q = record { adds = below-trans p.adds q.adds; back = λ e h. p.back e (q.back e h) }

-- each of the five places
module _ (n v side m : ℕ) (s : List ℕ) where
  pub alone-votes : Alone n v side s (add (votes side v) m s)
  alone-votes = record {
    adds = add-adds (votes side v) m s;
    back = λ e h. ⊎_elim (λ x. x) (λ x. absurd (e.no-vote x.0)) (add-cases (votes side v) m s h);
  }

  pub alone-accepts : Alone n v side s (add (accepts side v) m s)
  alone-accepts = record {
    adds = add-adds (accepts side v) m s;
    back = λ e h. ⊎_elim (λ x. x) (λ x. absurd (e.no-accept x.0)) (add-cases (accepts side v) m s h);
  }

  module _ (p : m ⊆ single v) where
    pub alone-voted : Alone n v side s (add (voted n side) m s)
    alone-voted = record {
      adds = add-adds (voted n side) m s;
      back = λ {i} {u} e h. ⊎_elim (λ x. x) (λ x. absurd (e.not-voted x.0 (single-∈ v (p.each u x.1)))) (add-cases (voted n side) m s h);
    }

    pub alone-accepted : Alone n v side s (add (accepted n side) m s)
    alone-accepted = record {
      adds = add-adds (accepted n side) m s;
      back = λ {i} {u} e h. ⊎_elim (λ x. x) (λ x. absurd (e.not-accepted x.0 (single-∈ v (p.each u x.1))))
          (add-cases (accepted n side) m s h);
    }

    pub alone-confirmed : Alone n v side s (add (confirmed n side) m s)
    alone-confirmed = record {
      adds = add-adds (confirmed n side) m s;
      back = λ {i} {u} e h. ⊎_elim (λ x. x) (λ x. absurd (e.not-confirmed x.0 (single-∈ v (p.each u x.1))))
          (add-cases (confirmed n side) m s h);
    }

-- another site or another side
abbrev pub Other : ℕ → ℕ → ℕ → ℕ → Type 0
Other v side w τ = (τ ≡ side → ⊥) ⊎ (w ≡ v → ⊥)

other? : (v side w τ : ℕ) → ((τ ≡ side) × (w ≡ v)) ⊎ Other v side w τ
other? v side w τ = ⊎_elim (λ e. ⊎_elim (λ f. inl (e, f)) (λ f. inr (inr f)) (same? w v)) (λ e. inr (inl e)) (same? τ side)

-- what holds of v and the side, and of any other site or side, holds of every one
pub here-or-other : (R : ℕ → ℕ → Type 0) {v side w τ : ℕ} → R v side → (Other v side w τ → R w τ) → R w τ
here-or-other R {v} {side} {w} {τ} r f = ⊎_elim (λ x. subst₂ R (sym x.1) (sym x.0) r) f (other? v side w τ)

module _ {n v side : ℕ} (hv : v < n) (hs : side < 2) {s t : List ℕ} (A : Alone n v side s t) where
  same_set : (i : ℕ) → ((u : ℕ) → Elsewhere n v side i u) → get t i ≡ get s i
  same_set i f = ⊆-antisym (record { each = λ u h. A.back (f u) h }) (A.adds.each i)

  same-has : (i u : ℕ) → Elsewhere n v side i u → has (get t i) u ≡ has (get s i) u
  same-has i u e = iff (has (get t i) u) (has (get s i) u) (λ h. (A.back e (mem h)).holds) (λ h. ((A.adds.each i).each u (mem h)).holds)

  module _ {w τ : ℕ} (hw : w < n) (ht : τ < 2) (o : Other v side w τ) where
    pub same-votes : get t (votes τ w) ≡ get s (votes τ w)
    same-votes = same_set (votes τ w) (λ u. ⊎_elim (λ x. omega arith) (λ x. omega arith) o)

    pub same-accepts : get t (accepts τ w) ≡ get s (accepts τ w)
    same-accepts = same_set (accepts τ w) (λ u. ⊎_elim (λ x. omega arith) (λ x. omega arith) o)

    pub same-voted : has (get t (voted n τ)) w ≡ has (get s (voted n τ)) w
    same-voted = same-has (voted n τ) w (⊎_elim (λ x. omega arith) (λ x. omega arith) o)

    pub same-accepted : has (get t (accepted n τ)) w ≡ has (get s (accepted n τ)) w
    same-accepted = same-has (accepted n τ) w (⊎_elim (λ x. omega arith) (λ x. omega arith) o)

    pub same-confirmed : has (get t (confirmed n τ)) w ≡ has (get s (confirmed n τ)) w
    same-confirmed = same-has (confirmed n τ) w (⊎_elim (λ x. omega arith) (λ x. omega arith) o)
