-- Laws of the answer: a call is taken exactly if it passes each test, and refused by the first that it fails.
use Rattle.refusals.specs.Check.{Check}
use Rattle.std.specs.Prelude.{Ok, Err}
use Prim.Native.Nat.{ℕ, ◌-◌}
use mathlib.Core.Bool.{true, false, ◌&&◌, ◌||◌, not}
use mathlib.Core.List.{List}
use mathlib.Core.Logic.{◌⊎◌, inl, inr, ⊎_elim}
use mathlib.Core.Path.{◌≡◌, refl, sym, ◌∙◌}
use native.Mathlib.Omega.{arith}
use lib.Dec.{eqb, ltb}
use borrow.Author.Tests.{eq-eqb, ne_eqb, eqb-true, lt-ltb, le-ltb, ltb-true, ltb-false, not-false}
use Rattle.ground.proofs.Logic.{is_false, clash, and_l, and_r, not_t, or-none, cases}
use Rattle.ground.proofs.Numbers.{same?}
use Rattle.masks.proofs.Laws.Single.{in?, not_in}
use Rattle.masks.proofs.Laws.Subsets.{mem}
use Rattle.masks.specs.Mask.{has, ◌∈◌}
use Rattle.refusals.proofs.First.{missed}
use Rattle.refusals.specs.declared.Refusal.{Refusal}
use Rattle.refusals.specs.declared.Refusal.TheVariants.{Range, Receiver, Proposal, Voted, Unsent}
use Rattle.sets.specs.Promises.{Questions}
use Rattle.rules.specs.Inner.{InRange}
use Rattle.rules.specs.Rules.{out_of_range, crooked, against, unsent, answer, taken}
use Rattle.rules.specs.State.{voted, accepted, get, Below}
use Rattle.votes.specs.Call.{Call}
use Rattle.votes.specs.Vote.{step}
use Rattle.rules.specs.Vote.{vote}

-- each test, in facts

pub in-range : {n : ℕ} {c : Call} → out_of_range n c ≡ false → InRange n c
unfolding out_of_range
in-range {n} {c} e =
    let p = or-none (not (ltb c.from n)) (not (ltb c.to n) || (ltb 2 c.kind || ltb 1 c.side)) e in
    let q = or-none (not (ltb c.to n)) (ltb 2 c.kind || ltb 1 c.side) p.1 in
    let r = or-none (ltb 2 c.kind) (ltb 1 c.side) q.1 in
    record {
      kind-in = omega (arith, ltb-false 2 c.kind r.0);
      from_in = ltb-true c.from n (not-false (ltb c.from n) p.0);
      to_in = ltb-true c.to n (not-false (ltb c.to n) q.0);
      side-in = omega (arith, ltb-false 1 c.side r.1);
    }

pub range-in : {n : ℕ} {c : Call} → InRange n c → out_of_range n c ≡ false
unfolding out_of_range
range-in {n} {c} r =
    rw (lt-ltb c.from n r.from_in, lt-ltb c.to n r.to_in, le-ltb 2 c.kind (omega arith), le-ltb 1 c.side (omega arith)) refl

-- a call that is taken, in facts
pub record Takes (n F : ℕ) (c : Call) (s : List ℕ) : Type 0 where
  pub range : InRange n c
  -- a proposal goes from a site to itself
  pub straight : c.kind ≡ 0 → c.from ≡ c.to
  -- the receiver is correct
  pub correct : c.to ∈ F → ⊥
  -- the site of a proposal has not voted for the other side
  pub free : c.kind ≡ 0 → c.to ∈ get s (voted n (1 - c.side)) → ⊥
  -- a correct sender has sent its vote, or its accept
  pub vote-sent : c.kind ≡ 1 → (c.from ∈ F → ⊥) → c.from ∈ get s (voted n c.side)
  pub accept-sent : c.kind ≡ 2 → (c.from ∈ F → ⊥) → c.from ∈ get s (accepted n c.side)

module _ (n F : ℕ) (c : Call) (s : List ℕ) where
  -- the test that refuses a call, the tests before it passed
  pub data Refuses : Refusal → Type 0 where
    range : out_of_range n c ≡ true → Refuses (Range 0)
    proposal : out_of_range n c ≡ false → crooked c ≡ true → Refuses Proposal
    receiver : out_of_range n c ≡ false → crooked c ≡ false → has F c.to ≡ true → Refuses Receiver
    voted-other : out_of_range n c ≡ false → crooked c ≡ false → has F c.to ≡ false → against n c s ≡ true → Refuses Voted
    not-sent : out_of_range n c ≡ false → crooked c ≡ false → has F c.to ≡ false → against n c s ≡ false → unsent n F c s ≡ true → Refuses Unsent

  -- a call is refused by the first test that it fails
  pub refused : {r : Refusal} → Refuses r → answer n F c s ≡ Err r
  unfolding answer
  refused (range a) = rw a refl
  refused (proposal a b) = rw (a, b) refl
  refused (receiver a b d) = rw (a, b, d) refl
  refused (voted-other a b d e) = rw (a, b, d, e) refl
  refused (not-sent a b d e f) = rw (a, b, d, e, f) refl

  -- and taken if it passes each
  pub passes : out_of_range n c ≡ false → crooked c ≡ false → has F c.to ≡ false → against n c s ≡ false → unsent n F c s ≡ false →
      answer n F c s ≡ Ok tt
  unfolding answer
  passes a b d e f = rw (a, b, d, e, f) refl

  -- one of the two
  pub answered : (answer n F c s ≡ Ok tt) ⊎ ((r : Refusal) × Refuses r)
  answered =
      ⊎_elim (λ a. inr (Range 0, range a))
      (λ a. ⊎_elim (λ b. inr (Proposal, proposal a b))
      (λ b. ⊎_elim (λ d. inr (Receiver, receiver a b d))
      (λ d. ⊎_elim (λ e. inr (Voted, voted-other a b d e))
      (λ e. ⊎_elim (λ f. inr (Unsent, not-sent a b d e f)) (λ f. inl (passes a b d e f)) (cases (unsent n F c s)))
      (cases (against n c s))) (cases (has F c.to))) (cases (crooked c))) (cases (out_of_range n c))

  -- what a taken call says, in facts, and the other way

  crooked-no : crooked c ≡ false → c.kind ≡ 0 → c.from ≡ c.to
  unfolding crooked
  crooked-no h e = let k : not (eqb c.from c.to) ≡ false = rw (eq-eqb c.kind 0 e) at h in
      eqb-true c.from c.to (not-false (eqb c.from c.to) k)

  no-crooked : (c.kind ≡ 0 → c.from ≡ c.to) → crooked c ≡ false
  unfolding crooked
  no-crooked f =
      let x = eqb c.kind 0 in
      let y = eqb c.from c.to in
      is_false (x && not y) (λ h. clash (eq-eqb c.from c.to (f (eqb-true c.kind 0 (and_l x (not y) h)))) (not_t y (and_r x (not y) h)))

  against-no : against n c s ≡ false → c.kind ≡ 0 → c.to ∈ get s (voted n (1 - c.side)) → ⊥
  unfolding against
  against-no h e k = not_in (rw (eq-eqb c.kind 0 e) at h) k

  no-against : (c.kind ≡ 0 → c.to ∈ get s (voted n (1 - c.side)) → ⊥) → against n c s ≡ false
  unfolding against
  no-against f =
      let x = eqb c.kind 0 in
      let y = has (get s (voted n (1 - c.side))) c.to in
      is_false (x && y) (λ h. f (eqb-true c.kind 0 (and_l x y h)) (mem (and_r x y h)))

  unsent-vote : unsent n F c s ≡ false → c.kind ≡ 1 → (c.from ∈ F → ⊥) → c.from ∈ get s (voted n c.side)
  unfolding unsent
  unsent-vote h e f =
      let v = has (get s (voted n c.side)) c.from in
      let k : not v ≡ false = rw (ne_eqb c.kind 0 (λ z. omega arith), is_false (has F c.from) (λ z. f (mem z)), eq-eqb c.kind 1 e) at h in
      mem (not-false v k)

  unsent-accept : unsent n F c s ≡ false → c.kind ≡ 2 → (c.from ∈ F → ⊥) → c.from ∈ get s (accepted n c.side)
  unfolding unsent
  unsent-accept h e f =
      let v = has (get s (accepted n c.side)) c.from in
      let k : not v ≡ false = rw (
        ne_eqb c.kind 0 (λ z. omega arith),
        is_false (has F c.from)
            (λ z. f (mem z)),
        ne_eqb c.kind 1 (λ z. omega arith),
      ) at h in
      mem (not-false v k)

  pub takes : answer n F c s ≡ Ok tt → Takes n F c s
  unfolding answer
  takes h =
      let a = missed (out_of_range n c) (Range 0) _ h in
      let b = missed (crooked c) Proposal _ a.1 in
      let d = missed (has F c.to) Receiver _ b.1 in
      let e = missed (against n c s) Voted _ d.1 in
      let f = missed (unsent n F c s) Unsent (Ok tt) (rw e.1 refl) in
      record {
        range = in-range a.0;
        straight = crooked-no b.0;
        correct = not_in d.0;
        free = against-no e.0;
        vote-sent = unsent-vote f.0;
        accept-sent = unsent-accept f.0;
      }

  no-unsent : Takes n F c s → unsent n F c s ≡ false
  unfolding unsent
  no-unsent t =
      ⊎_elim (λ e. rw (eq-eqb c.kind 0 e) refl)
      (λ e. ⊎_elim (λ (f : c.from ∈ F). rw (ne_eqb c.kind 0 e, f.holds) refl)
      (λ f. ⊎_elim (λ g. rw (ne_eqb c.kind 0 e, is_false (has F c.from) (λ z. f (mem z)), eq-eqb c.kind 1 g, (t.vote-sent g f).holds) refl)
      (λ g. rw (ne_eqb c.kind 0 e, is_false (has F c.from) (λ z. f (mem z)), ne_eqb c.kind 1 g, (t.accept-sent (omega arith) f).holds) refl)
      (same? c.kind 1)) (in? c.from F)) (same? c.kind 0)

  pub takes-answer : Takes n F c s → answer n F c s ≡ Ok tt
  takes-answer t = passes (range-in t.range) (no-crooked t.straight) (is_false (has F c.to) (λ e. t.correct (mem e))) (no-against t.free)
      (no-unsent t)

  -- the state after a call: a refused one leaves it as it was
  module _ (Q : Questions) where
    pub step-taken : Takes n F c s → step (vote Q n F) c s ≡ taken Q n c s
    step-taken t = rw (takes-answer t) refl

    pub step-refused : {r : Refusal} → answer n F c s ≡ Err r → step (vote Q n F) c s ≡ s
    step-refused e = rw e refl

    pub step-cases : (step (vote Q n F) c s ≡ s) ⊎ (Takes n F c s × (step (vote Q n F) c s ≡ taken Q n c s))
    step-cases = ⊎_elim (λ e. let t = takes e in inr (t, step-taken t)) (λ x. inl (step-refused (refused x.1))) answered

    -- a call that cannot be taken changes nothing
    pub step-not-taken : (Takes n F c s → ⊥) → step (vote Q n F) c s ≡ s
    step-not-taken f = ⊎_elim (λ e. e) (λ x. absurd (f x.0)) step-cases

-- as the code finds it
pub takes-found : {n F : ℕ} {c : Call} {s : List ℕ} {a : Check} → a ≡ answer n F c s → a ≡ Ok tt → Takes n F c s
takes-found {n} {F} {c} {s} e f = takes n F c s (sym e ∙ f)

-- a call that is taken is taken in each later state, if a proposal is still not for the other side
pub takes-later : {n F : ℕ} {c : Call} {s t : List ℕ} → Below s t → (c.kind ≡ 0 → c.to ∈ get t (voted n (1 - c.side)) → ⊥) → Takes n F c s →
    Takes n F c t
takes-later {n} {c = c} b free K = record {
  range = K.range;
  straight = K.straight;
  correct = K.correct;
  free = free;
  vote-sent = λ e f. (b.each (voted n c.side)).each c.from (K.vote-sent e f);
  accept-sent = λ e f. (b.each (accepted n c.side)).each c.from (K.accept-sent e f);
}

-- a proposal that is taken could be taken in each earlier state
pub takes-earlier : {n F : ℕ} {c : Call} {s t : List ℕ} → Below s t → c.kind ≡ 0 → Takes n F c t → Takes n F c s
takes-earlier {n} {c = c} b k K = record {
  range = K.range;
  straight = K.straight;
  correct = K.correct;
  free = λ e h. K.free e ((b.each (voted n (1 - c.side))).each c.to h);
  vote-sent = λ e. absurd (omega arith);
  accept-sent = λ e. absurd (omega arith);
}
