-- Calls of a sort that are spent: each that can be taken is heard already, so that no more comes of them. A pass that gives them nothing new to take
-- leaves them spent, and spent they stay.
use Prim.Native.Nat.{ℕ, ◌<◌}
use mathlib.Core.Bool.{true}
use mathlib.Core.List.Memᴰ
use mathlib.Core.List.{List, [], ◌∷◌, Memᴰ}
use mathlib.Core.Logic.{◌⊎◌, inl, inr, ⊎_elim}
use mathlib.Core.Path.{◌≡◌, refl, sym, subst}
use native.Mathlib.Omega.{arith}
use Rattle.ground.proofs.Numbers.{two}
use Rattle.ground.specs.Alike.{alike}
use Rattle.masks.proofs.Laws.Subsets.{⊆-refl, ⊆-trans}
use Rattle.masks.specs.Mask.{◌∈◌, ◌⊆◌}
use Rattle.pass.proofs.Lawful.{vote-lawful}
use Rattle.votes.proofs.AnyVote.{spends}
use Rattle.votes.proofs.Passes.{pass-still, pass_up}
use Rattle.sets.specs.Paper.{Fbqs}
use Rattle.sets.specs.Promises.{Questions}
use Rattle.rules.proofs.Answer.{Takes, takes-later, takes-earlier, step-cases}
use Rattle.rules.proofs.Heard.{heard-grows}
use Rattle.rules.proofs.Inner.{heard-still, step-heard}
use Rattle.rules.proofs.State.{below-refl, below-trans}
use Rattle.rules.proofs.Steps.{step-sound, step-adds}
use Rattle.rules.proofs.Taken.{taken-voted, taken-accepted}
use Rattle.rules.specs.Inner.{heard}
use Rattle.rules.specs.Rules.{taken}
use Rattle.rules.specs.Sound.{Sound}
use Rattle.rules.specs.State.{voted, accepted, get, Below}
use Rattle.rules.specs.Theorems.{Rests}
use Rattle.rules.specs.Vote.{vote}
use Rattle.votes.specs.Passes.{pass}
use Rattle.votes.specs.Call.{Call}
use Rattle.votes.specs.Vote.{step}

-- Calls of the sort P: they alone put a site at the places I, and besides the other side's votes only what stands there decides whether they are
-- taken.
pub record Sort (Q : Questions) (n F : ℕ) (P : Call → Type 0) (I : ℕ → Type 0) : Type 0 where
  pub theirs : {c : Call} {s : List ℕ} {i u : ℕ} → Sound Q n F s → Takes n F c s → I i → u ∈ get (taken Q n c s) i →
      (u ∈ get s i) ⊎ P c
  pub before : {c : Call} {s t : List ℕ} → P c → Below s t → ((i : ℕ) → I i → get t i ⊆ get s i) → Takes n F c t → Takes n F c s

-- the proposals: they make the votes
abbrev pub IsProposal : Call → Type 0
IsProposal c = c.kind ≡ 0

abbrev pub Voted : ℕ → ℕ → Type 0
Voted n i = (i ≡ voted n 0) ⊎ (i ≡ voted n 1)

pub proposals : (Q : Questions) (n F : ℕ) → Sort Q n F IsProposal (Voted n)
proposals Q n F = record { theirs = theirs; before = λ k b kept K. takes-earlier b k K }
  where
    made : {c : Call} {s : List ℕ} {u τ : ℕ} → Sound Q n F s → Takes n F c s → τ < 2 → u ∈ get (taken Q n c s) (voted n τ) →
        (u ∈ get s (voted n τ)) ⊎ IsProposal c
    made S K ht h = ⊎_elim inl (λ x. inr x.0) (taken-voted S K ht h)

    theirs : {c : Call} {s : List ℕ} {i u : ℕ} → Sound Q n F s → Takes n F c s → Voted n i → u ∈ get (taken Q n c s) i →
        (u ∈ get s i) ⊎ IsProposal c
    theirs S K (inl e) h = rw e (made S K (omega arith) (rw e at h))
    theirs S K (inr e) h = rw e (made S K (omega arith) (rw e at h))

-- the calls of a side: they make its votes and its accepts
abbrev pub OfSide : ℕ → Call → Type 0
OfSide σ c = c.side ≡ σ

abbrev pub Sent : ℕ → ℕ → ℕ → Type 0
Sent n σ i = (i ≡ voted n σ) ⊎ (i ≡ accepted n σ)

pub of-side : (Q : Questions) (n F : ℕ) {σ : ℕ} → σ < 2 → Sort Q n F (OfSide σ) (Sent n σ)
of-side Q n F {σ} hσ = record {
  theirs = theirs;
  before = λ {c} {s} e b kept K. record {
    range = K.range;
    straight = K.straight;
    correct = K.correct;
    free = λ k h. K.free k ((b.each (voted n _)).each c.to h);
    vote-sent = λ k f. rw e ((kept (voted n σ) (inl refl)).each c.from (rw e at (K.vote-sent k f)));
    accept-sent = λ k f. rw e ((kept (accepted n σ) (inr refl)).each c.from (rw e at (K.accept-sent k f)));
  };
}
  where
    theirs : {c : Call} {s : List ℕ} {i u : ℕ} → Sound Q n F s → Takes n F c s → Sent n σ i → u ∈ get (taken Q n c s) i →
        (u ∈ get s i) ⊎ OfSide σ c
    theirs S K (inl e) h = rw e (⊎_elim inl (λ x. inr (sym x.1)) (taken-voted S K hσ (rw e at h)))
    theirs S K (inr e) h = rw e (⊎_elim inl (λ x. inr (sym x.1)) (taken-accepted S K hσ (rw e at h)))

module _ {Σ : ℕ → Fbqs} {Q : Questions} {n : ℕ} (R : Rests Σ Q n) (F : ℕ) (l : List Call) where
  -- of the list l, each call of the sort that can be taken is heard already
  abbrev pub Spent : (Call → Type 0) → List ℕ → Type 0
  Spent P s = (c : Call) → Memᴰ c l → P c → Takes n F c s → heard n c s ≡ true

  -- a spent call changes nothing
  spent-still : {P : Call → Type 0} {s : List ℕ} → Sound Q n F s → Spent P s → (c : Call) → Memᴰ c l → P c →
      step (vote Q n F) c s ≡ s
  spent-still {s = s} S z c m p = ⊎_elim (λ e. e) (λ x. heard-still S c (z c m p x.0)) (step-cases n F c s Q)

  -- a pass meets each of its calls in some state between its start and its end
  through : (m : List Call) (s : List ℕ) → Sound Q n F s → (c : Call) → Memᴰ c m →
      (u : List ℕ) × Sound Q n F u × Below s u × Below (step (vote Q n F) c u) (pass (step (vote Q n F)) m s)
  through [] s S c h = absurd (Memᴰ.not-nil h)
  through (x ∷ m) s S c h =
      let S₁ = step-sound Σ Q n F R x s S in
      ⊎_elim
      (λ e. (s, S, below-refl s, rw e (pass_up (step (vote Q n F)) alike (spends (vote Q n F) (vote-lawful R F)) m (step (vote Q n F) x s) S₁)))
      (λ k. let p = through m (step (vote Q n F) x s) S₁ c k in (p.0, p.1, below-trans (step-adds Q n F x s) p.2, p.3))
      (Memᴰ.cases_cons h)

  -- a pass spends each call that it could take from its start and could take again at its end
  spent-after : {P : Call → Type 0} {s : List ℕ} → Sound Q n F s →
      ((c : Call) → P c → Takes n F c (pass (step (vote Q n F)) l s) → Takes n F c s) → Spent P (pass (step (vote Q n F)) l s)
  spent-after {s = s} S back c h p K =
      let x = through l s S c h in
      let u = x.0 in
      heard-grows n c (step (vote Q n F) c u) x.3
      (step-heard x.1 c
      (takes-later x.2 (λ k w. K.free k (((below-trans (step-adds Q n F c u) x.3).each (voted n _)).each c.to w)) (back c p K)))

  module _ {P : Call → Type 0} {I : ℕ → Type 0} (A : Sort Q n F P I) where
    -- spent calls stay spent, and nobody new comes to their places
    step_kept : {s : List ℕ} → Sound Q n F s → Spent P s → (c : Call) → Memᴰ c l → (i : ℕ) → I i →
        get (step (vote Q n F) c s) i ⊆ get s i
    step_kept {s} S z c m i hi = record {
      each = λ u h.
          let same : step (vote Q n F) c s ≡ s → u ∈ get s i = λ e. subst (λ (t : List ℕ). u ∈ get t i) e h in
          ⊎_elim same
          (λ x. ⊎_elim (λ k. k) (λ p. same (spent-still S z c m p)) (A.theirs S x.0 hi (subst (λ (t : List ℕ). u ∈ get t i) x.1 h)))
          (step-cases n F c s Q);
    }

    step-spent : {s : List ℕ} → Sound Q n F s → Spent P s → (c : Call) → Memᴰ c l → Spent P (step (vote Q n F) c s)
    step-spent {s} S z c m d h p K =
        let up = step-adds Q n F c s in
        heard-grows n d s up (z d h p (A.before p up (step_kept S z c m) K))

    pub pass_kept : (m : List Call) → ((c : Call) → Memᴰ c m → Memᴰ c l) → {s : List ℕ} → Sound Q n F s → Spent P s →
        Spent P (pass (step (vote Q n F)) m s) × ((i : ℕ) → I i → get (pass (step (vote Q n F)) m s) i ⊆ get s i)
    pass_kept [] f {s} S z = (z, λ i hi. ⊆-refl (get s i))
    pass_kept (c ∷ m) f {s} S z =
        let hc = f c (Memᴰ.head refl) in
        let r = pass_kept m (λ d k. f d (Memᴰ.tail k)) (step-sound Σ Q n F R c s S) (step-spent S z c hc) in
        (r.0, λ i hi. ⊆-trans (r.1 i hi) (step_kept S z c hc i hi))

    -- a pass that brings nobody new to their places spends them
    pub quiet-spends : {s : List ℕ} → Sound Q n F s → ((i : ℕ) → I i → get (pass (step (vote Q n F)) l s) i ⊆ get s i) →
        Spent P (pass (step (vote Q n F)) l s)
    quiet-spends {s} S kept = spent-after S (λ c p. A.before p (pass_up (step (vote Q n F)) alike (spends (vote Q n F) (vote-lawful R F)) l s S) kept)

  -- the proposals are spent after any pass
  pub proposals-spent : {s : List ℕ} → Sound Q n F s → Spent IsProposal (pass (step (vote Q n F)) l s)
  proposals-spent {s} S = spent-after S (λ c k. takes-earlier (pass_up (step (vote Q n F)) alike (spends (vote Q n F) (vote-lawful R F)) l s S) k)

  -- where the calls of both sides are spent a pass changes nothing
  pub both-still : {s : List ℕ} → Sound Q n F s → Spent (OfSide 0) s → Spent (OfSide 1) s → pass (step (vote Q n F)) l s ≡ s
  both-still {s} S a b =
      pass-still (step (vote Q n F)) l
      (λ c m. ⊎_elim (λ e. e) (λ x. heard-still S c (side c m x.0 c.side x.0.range.side-in refl)) (step-cases n F c s Q))
    where
      side : (c : Call) → Memᴰ c l → Takes n F c s → (σ : ℕ) → σ < 2 → c.side ≡ σ → heard n c s ≡ true
      side c m K = two (λ σ. c.side ≡ σ → heard n c s ≡ true) (λ e. a c m e K) (λ e. b c m e K)
