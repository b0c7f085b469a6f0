-- Laws of hearing: what a receiver hears by the kind of the call, and that the call's bit is heard then.
use Prim.Native.Nat.{ℕ, ◌*◌, ◌+◌, ◌≤◌, ◌<◌}
use mathlib.Core.Bool.{true}
use mathlib.Core.List.{List}
use mathlib.Core.Logic.{◌⊎◌, inl, inr, ⊎_elim}
use mathlib.Core.Path.{◌≡◌, refl, sym, ap, ◌∙◌, subst}
use native.Mathlib.Omega.{arith}
use lib.ListN.{length}
use borrow.Author.Tests.{eq-eqb, ne_eqb}
use Rattle.ground.proofs.Numbers.{same?}
use Rattle.masks.proofs.Laws.Single.{∈-single, single-∈, single-⊆}
use Rattle.masks.proofs.Laws.Subsets.{mem, ⊆-refl, ⊆-antisym}
use Rattle.masks.specs.Mask.{has, single, ◌∈◌}
use Rattle.rules.specs.Inner.{InRange, heard}
use Rattle.rules.specs.Rules.{hears}
use Rattle.rules.specs.State.{votes, accepts, voted, width, get, add, Below}
use Rattle.rules.proofs.Alone.{Alone, alone-trans, alone-votes, alone-accepts, alone-voted}
use Rattle.rules.proofs.State.{length-add, add-adds, add-grows, add-still, add-there, add-cases}
use Rattle.votes.specs.Call.{Call}

-- by the kind of the call
module _ (n : ℕ) (c : Call) (s : List ℕ) where
  pub hears-proposal : c.kind ≡ 0 → hears n c s ≡ add (votes c.side c.to) (single c.to) (add (voted n c.side) (single c.to) s)
  unfolding hears
  hears-proposal e = rw (eq-eqb c.kind 0 e) refl

  pub hears-vote : c.kind ≡ 1 → hears n c s ≡ add (votes c.side c.to) (single c.from) s
  unfolding hears
  hears-vote e = rw (ne_eqb c.kind 0 (λ z. omega arith), eq-eqb c.kind 1 e) refl

  pub hears-accept : (c.kind ≡ 0 → ⊥) → (c.kind ≡ 1 → ⊥) → hears n c s ≡ add (accepts c.side c.to) (single c.from) s
  unfolding hears
  hears-accept p q = rw (ne_eqb c.kind 0 p, ne_eqb c.kind 1 q) refl

  pub heard-proposal : c.kind ≡ 0 → heard n c s ≡ has (get s (voted n c.side)) c.to
  unfolding heard
  heard-proposal e = rw (eq-eqb c.kind 0 e) refl

  pub heard-vote : c.kind ≡ 1 → heard n c s ≡ has (get s (votes c.side c.to)) c.from
  unfolding heard
  heard-vote e = rw (ne_eqb c.kind 0 (λ z. omega arith), eq-eqb c.kind 1 e) refl

  pub heard-accept : (c.kind ≡ 0 → ⊥) → (c.kind ≡ 1 → ⊥) → heard n c s ≡ has (get s (accepts c.side c.to)) c.from
  unfolding heard
  heard-accept p q = rw (ne_eqb c.kind 0 p, ne_eqb c.kind 1 q) refl

-- a proposal, a vote, or else
pub by_kind : {A : Type 0} (c : Call) → (c.kind ≡ 0 → A) → (c.kind ≡ 1 → A) → ((c.kind ≡ 0 → ⊥) → (c.kind ≡ 1 → ⊥) → A) → A
by_kind c f g h = ⊎_elim f (λ p. ⊎_elim g (h p) (same? c.kind 1)) (same? c.kind 0)

-- what holds of the state by each kind of call holds of the state after hearing
pub hears-by : (n : ℕ) (c : Call) (s : List ℕ) (P : List ℕ → Type 0) →
    (c.kind ≡ 0 → P (add (votes c.side c.to) (single c.to) (add (voted n c.side) (single c.to) s))) →
    (c.kind ≡ 1 → P (add (votes c.side c.to) (single c.from) s)) →
    ((c.kind ≡ 0 → ⊥) → (c.kind ≡ 1 → ⊥) → P (add (accepts c.side c.to) (single c.from) s)) → P (hears n c s)
hears-by n c s P f g h =
    by_kind c (λ e. subst P (sym (hears-proposal n c s e)) (f e)) (λ e. subst P (sym (hears-vote n c s e)) (g e))
    (λ p q. subst P (sym (hears-accept n c s p q)) (h p q))

module _ (n : ℕ) (c : Call) (s : List ℕ) where
  pub hears-alone : Alone n c.to c.side s (hears n c s)
  hears-alone =
      hears-by n c s (Alone n c.to c.side s)
      (λ e. alone-trans (alone-voted n c.to c.side (single c.to) s (⊆-refl (single c.to)))
      (alone-votes n c.to c.side (single c.to) _))
      (λ e. alone-votes n c.to c.side (single c.from) s) (λ p q. alone-accepts n c.to c.side (single c.from) s)

  pub hears-grows : {t : List ℕ} → Below s t → Below (hears n c s) (hears n c t)
  hears-grows {t} b =
      by_kind c
      (λ e. rw (hears-proposal n c s e, hears-proposal n c t e)
      (add-grows (votes c.side c.to) (⊆-refl (single c.to)) (add-grows (voted n c.side) (⊆-refl (single c.to)) b)))
      (λ e. rw (hears-vote n c s e, hears-vote n c t e) (add-grows (votes c.side c.to) (⊆-refl (single c.from)) b))
      (λ p q. rw (hears-accept n c s p q, hears-accept n c t p q) (add-grows (accepts c.side c.to) (⊆-refl (single c.from)) b))

  -- once heard, heard in each state above
  pub heard-grows : {t : List ℕ} → Below s t → heard n c s ≡ true → heard n c t ≡ true
  heard-grows {t} b h =
      by_kind c
      (λ e. heard-proposal n c t e ∙ ((b.each (voted n c.side)).each c.to (mem (sym (heard-proposal n c s e) ∙ h))).holds)
      (λ e. heard-vote n c t e ∙ ((b.each (votes c.side c.to)).each c.from (mem (sym (heard-vote n c s e) ∙ h))).holds)
      (λ p q. heard-accept n c t p q ∙ ((b.each (accepts c.side c.to)).each c.from (mem (sym (heard-accept n c s p q) ∙ h))).holds)

  -- nothing new is heard where the bit is heard already, if a vote is always heard by the voter
  pub hears-still : (c.to ∈ get s (voted n c.side) → c.to ∈ get s (votes c.side c.to)) → heard n c s ≡ true → hears n c s ≡ s
  hears-still own h =
      hears-by n c s (λ t. t ≡ s)
      (λ e. let k : c.to ∈ get s (voted n c.side) = mem (sym (heard-proposal n c s e) ∙ h) in
      ap (add (votes c.side c.to) (single c.to)) (add-still (voted n c.side) (single c.to) s (single-⊆ k))
      ∙ add-still (votes c.side c.to) (single c.to) s (single-⊆ (own k)))
      (λ e. add-still (votes c.side c.to) (single c.from) s (single-⊆ (mem (sym (heard-vote n c s e) ∙ h))))
      (λ p q. add-still (accepts c.side c.to) (single c.from) s (single-⊆ (mem (sym (heard-accept n c s p q) ∙ h))))

-- what a call adds: site u at place i
pub data Says (n : ℕ) (c : Call) (i u : ℕ) : Type 0 where
  own-voted : c.kind ≡ 0 → i ≡ voted n c.side → u ≡ c.to → Says n c i u
  own-vote : c.kind ≡ 0 → i ≡ votes c.side c.to → u ≡ c.to → Says n c i u
  a-vote : c.kind ≡ 1 → i ≡ votes c.side c.to → u ≡ c.from → Says n c i u
  an-accept : (c.kind ≡ 0 → ⊥) → (c.kind ≡ 1 → ⊥) → i ≡ accepts c.side c.to → u ≡ c.from → Says n c i u

pub hears-cases : (n : ℕ) (c : Call) (s : List ℕ) (i : ℕ) {u : ℕ} → u ∈ get (hears n c s) i → (u ∈ get s i) ⊎ Says n c i u
hears-cases n c s i {u} =
    hears-by n c s (λ t. u ∈ get t i → (u ∈ get s i) ⊎ Says n c i u)
    (λ e h. ⊎_elim
    (λ x. ⊎_elim inl (λ y. inr (own-voted e y.0 (single-∈ c.to y.1))) (add-cases (voted n c.side) (single c.to) s x))
    (λ x. inr (own-vote e x.0 (single-∈ c.to x.1)))
    (add-cases (votes c.side c.to) (single c.to) (add (voted n c.side) (single c.to) s) h))
    (λ e h. ⊎_elim inl (λ x. inr (a-vote e x.0 (single-∈ c.from x.1))) (add-cases (votes c.side c.to) (single c.from) s h))
    (λ p q h. ⊎_elim inl (λ x. inr (an-accept p q x.0 (single-∈ c.from x.1))) (add-cases (accepts c.side c.to) (single c.from) s h))

-- of a call in range
module _ {n : ℕ} {c : Call} (r : InRange n c) where
  -- no site at or above n
  pub says-below : {i u : ℕ} → Says n c i u → u < n
  says-below (own-voted k p q) = omega arith
  says-below (own-vote k p q) = omega arith
  says-below (a-vote k p q) = omega arith
  says-below (an-accept k l p q) = omega arith

  -- nothing among accepted and confirmed
  pub says-low : {i u : ℕ} → Says n c i u → i < 4 * n + 2
  says-low (own-voted k p q) = omega arith
  says-low (own-vote k p q) = omega arith
  says-low (a-vote k p q) = omega arith
  says-low (an-accept k l p q) = omega arith

  -- only a proposal makes a vote, the receiver's own
  pub says-voted : {τ u : ℕ} → τ < 2 → Says n c (voted n τ) u → (c.kind ≡ 0) × (τ ≡ c.side) × (u ≡ c.to)
  says-voted ht (own-voted k p q) = (k, omega arith, q)
  says-voted ht (own-vote k p q) = absurd (omega arith)
  says-voted ht (a-vote k p q) = absurd (omega arith)
  says-voted ht (an-accept k l p q) = absurd (omega arith)

  -- the receiver hears its own vote by a proposal, and the sender's by a vote
  pub says-votes : {τ w u : ℕ} → τ < 2 → w < n → Says n c (votes τ w) u →
      (w ≡ c.to) × (((c.kind ≡ 0) × (u ≡ c.to)) ⊎ ((c.kind ≡ 1) × (u ≡ c.from)))
  says-votes ht hw (own-voted k p q) = absurd (omega arith)
  says-votes ht hw (own-vote k p q) = (omega arith, inl (k, q))
  says-votes ht hw (a-vote k p q) = (omega arith, inr (k, q))
  says-votes ht hw (an-accept k l p q) = absurd (omega arith)

  -- it hears the sender's accept by an accept
  pub says-accepts : {τ w u : ℕ} → τ < 2 → w < n → Says n c (accepts τ w) u → (w ≡ c.to) × (c.kind ≡ 2) × (u ≡ c.from)
  says-accepts ht hw (own-voted k p q) = absurd (omega arith)
  says-accepts ht hw (own-vote k p q) = absurd (omega arith)
  says-accepts ht hw (a-vote k p q) = absurd (omega arith)
  says-accepts ht hw (an-accept k l p q) = (omega arith, omega arith, q)

  module _ (s : List ℕ) where
    pub hears-kept : (i : ℕ) → 4 * n + 2 ≤ i → get (hears n c s) i ≡ get s i
    hears-kept i l =
        ⊆-antisym (record { each = λ u h. ⊎_elim (λ x. x) (λ x. absurd (omega (arith, says-low x))) (hears-cases n c s i h) })
        ((hears-alone n c s).adds.each i)

    module _ (long : length s ≡ width n) where
      -- by a proposal the receiver has voted, and heard its own vote
      pub proposal-voted : c.kind ≡ 0 → c.to ∈ get (hears n c s) (voted n c.side)
      proposal-voted e =
          rw (hears-proposal n c s e)
          (((add-adds (votes c.side c.to) (single c.to) (add (voted n c.side) (single c.to) s)).each (voted n c.side)).each c.to
          ((add-there (voted n c.side) (single c.to) s (omega arith)).each c.to (∈-single c.to)))

      pub proposal-heard : c.kind ≡ 0 → c.to ∈ get (hears n c s) (votes c.side c.to)
      proposal-heard e =
          rw (hears-proposal n c s e)
          ((add-there (votes c.side c.to) (single c.to) (add (voted n c.side) (single c.to) s)
          (omega (arith, length-add (voted n c.side) (single c.to) s))).each c.to (∈-single c.to))

      -- the bit of the call is heard
      pub hears-heard : heard n c (hears n c s) ≡ true
      hears-heard =
          by_kind c
          (λ e. heard-proposal n c (hears n c s) e ∙ (proposal-voted e).holds)
          (λ e. heard-vote n c (hears n c s) e ∙ rw (hears-vote n c s e)
          ((add-there (votes c.side c.to) (single c.from) s (omega arith)).each c.from (∈-single c.from)).holds)
          (λ p q. heard-accept n c (hears n c s) p q
          ∙ rw (hears-accept n c s p q) ((add-there (accepts c.side c.to) (single c.from) s (omega arith)).each c.from
          (∈-single c.from)).holds)
