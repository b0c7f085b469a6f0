-- Laws of a site that is asked only what has changed since the rules were last asked of it.
use Prim.Native.Nat.{ℕ, ◌<◌}
use mathlib.Core.Bool.{Bool, true, false, not}
use mathlib.Core.List.{List}
use mathlib.Core.Logic.{⊎_elim}
use mathlib.Core.Path.{◌≡◌, sym, ap, ◌∙◌, subst, subst₂}
use native.Mathlib.Omega.{arith}
use lib.Bits.{bit_or}
use lib.ListN.{length}
use borrow.Author.Tests.{not-true, not-false}
use Rattle.ground.proofs.Logic.{is_false, clash}
use Rattle.ground.proofs.Numbers.{same?}
use Rattle.masks.proofs.Laws.Single.{not_in, ∈-eq, ∈-or}
use Rattle.masks.proofs.Laws.Subsets.{mem, or-⊆-l, or-⊆-r, minus-⊆, ∈-minus, minus-not-in}
use Rattle.masks.specs.Mask.{has, single, minus, others, ◌∈◌}
use Rattle.sets.proofs.Without.{without}
use Rattle.sets.specs.Paper.{Fbqs}
use Rattle.sets.specs.Promises.{Questions, Promises}
use Rattle.rules.specs.Inner.{InRange, New, Since}
use Rattle.rules.specs.Rules.{accepting, confirming, hears, now_accepts}
use Rattle.rules.specs.Sound.{Sound}
use Rattle.rules.specs.State.{votes, accepts, accepted, confirmed, width, get}
use Rattle.rules.proofs.Heard.{hears-alone, hears-cases, hears-kept, says-votes, says-accepts}
use Rattle.rules.proofs.Receiver.{now_accepts-alone, now_accepts-cases, now_accepts-accepts}
use Rattle.rules.proofs.RuleLaws.{others-found, by-quorum, by-blocked}
use Rattle.rules.proofs.SoundLaws.{accepted-heard, rule-accepted, rule-confirmed}
use Rattle.votes.specs.Call.{Call}

-- a correct site of a sound state, before anything is heard
pub sound-since : {Q : Questions} {n F : ℕ} {s : List ℕ} → Sound Q n F s → {v side : ℕ} (u : ℕ) → side < 2 → v < n → (v ∈ F → ⊥) →
    Since Q n u v side (get s (votes side v)) (get s (accepts side v)) s
sound-since S u hs hv f = record {
  new-votes = record { each = λ z h p q. h };
  new-accepts = record { each = λ z h p q. h };
  accepted-then = rule-accepted S hs hv f;
  confirmed-then = rule-confirmed S hs hv f;
  own-heard = accepted-heard S hs;
}

module _ {Q : Questions} {n : ℕ} {a b : ℕ} {s s₁ : List ℕ} where
  -- the receiver of a call that was heard: the sender is new, or the receiver itself
  pub hears-since : {c : Call} → InRange n c → s₁ ≡ hears n c s → Since Q n c.from c.to c.side a b s → Since Q n c.from c.to c.side a b s₁
  hears-since {c} r e S =
      let up = (hears-alone n c s).adds in
      let hs = r.side-in in
      let hv = r.to_in in
      subst (Since Q n c.from c.to c.side a b) (sym e) (record {
        new-votes = record {
          each = λ z h p q. ⊎_elim (λ x. S.new-votes.each z x p q)
              (λ x. ⊎_elim (λ y. absurd (q y.1)) (λ y. absurd (p y.1)) (says-votes r hs hv x).1) (hears-cases n c s (votes c.side c.to) h);
        };
        new-accepts = record {
          each = λ z h p q. ⊎_elim (λ x. S.new-accepts.each z x p q) (λ x. absurd (p (says-accepts r hs hv x).2))
              (hears-cases n c s (accepts c.side c.to) h);
        };
        accepted-then = λ k. (up.each (accepted n c.side)).each c.to (S.accepted-then k);
        confirmed-then = λ k. (up.each (confirmed n c.side)).each c.to (S.confirmed-then k);
        own-heard = λ h. (up.each (accepts c.side c.to)).each c.to
            (S.own-heard (∈-eq (hears-kept r s (accepted n c.side) (omega arith)) h));
      })

  -- a site that was worked out whether it accepts: it may have heard itself
  pub accepts-since : {u v side : ℕ} → v < n → side < 2 → length s ≡ width n → s₁ ≡ now_accepts Q n v side s → Since Q n u v side a b s →
      Since Q n u v side a b s₁
  accepts-since {u} {v} {side} hv hs long e S =
      let up = (now_accepts-alone Q n v side s).adds in
      subst (Since Q n u v side a b) (sym e) (record {
        new-votes = record {
          each = λ z h p q. ⊎_elim (λ x. S.new-votes.each z x p q) (λ x. absurd (q x.1)) (now_accepts-cases Q n v side s (votes side v) h);
        };
        new-accepts = record {
          each = λ z h p q. ⊎_elim (λ x. S.new-accepts.each z x p q) (λ x. absurd (q x.1)) (now_accepts-cases Q n v side s (accepts side v) h);
        };
        accepted-then = λ k. (up.each (accepted n side)).each v (S.accepted-then k);
        confirmed-then = λ k. (up.each (confirmed n side)).each v (S.confirmed-then k);
        own-heard = λ h. ⊎_elim (λ x. (up.each (accepts side v)).each v (S.own-heard x)) (λ x. now_accepts-accepts Q n v side s hv hs long x.0)
            (now_accepts-cases Q n v side s (accepted n side) h);
      })

-- of what the code reads: the votes and accepts before at the places i and j, then the state after hearing, then after accepting
pub heard-since : {Q : Questions} {n : ℕ} {c : Call} {s s₁ : List ℕ} {i j : ℕ} → InRange n c → length s ≡ width n → i ≡ votes c.side c.to →
    j ≡ accepts c.side c.to → s₁ ≡ hears n c s →
    Since Q n c.from c.to c.side (get s (votes c.side c.to)) (get s (accepts c.side c.to)) s →
    (length s₁ ≡ width n) × Since Q n c.from c.to c.side (get s i) (get s j) s₁
heard-since {Q} {n} {c} {s} r long p q e S = (
  ap length e ∙ sym (hears-alone n c s).adds.long ∙ long,
  hears-since r e (subst₂ (λ (x y : ℕ). Since Q n c.from c.to c.side (get s x) (get s y) s) (sym p) (sym q) S),
)

pub worked-since : {Q : Questions} {n a b u v side : ℕ} {s s₁ : List ℕ} → v < n → side < 2 → length s ≡ width n → s₁ ≡ now_accepts Q n v side s →
    Since Q n u v side a b s → (length s₁ ≡ width n) × Since Q n u v side a b s₁
worked-since {Q} {n} {v = v} {side} {s} hv hs long e S =
    (ap length e ∙ sym (now_accepts-alone Q n v side s).adds.long ∙ long, accepts-since hv hs long e S)

pub new-read : {u v before i j : ℕ} (s : List ℕ) → i ≡ j → New u v before (get s j) → New u v before (get s i)
new-read {u} {v} {before} s p N = subst (λ (x : ℕ). New u v before (get s x)) (sym p) N

-- to a site that has not accepted, as b is read at place i, the rule did not say so; so of confirming
pub unaccepted : {Q : Questions} {n u v side x y : ℕ} {s : List ℕ} → Since Q n u v side x y s → {b : Bool} {i : ℕ} → b ≡ has (get s i) v → b ≡ false →
    i ≡ accepted n side → accepting Q v x y ≡ false
unaccepted {Q} {v = v} {x = x} {y} {s} S e f p =
    is_false (accepting Q v x y) (λ t. not_in (ap (λ (k : ℕ). has (get s k) v) (sym p) ∙ sym e ∙ f) (S.accepted-then t))

pub unconfirmed : (Q : Questions) (n v side before : ℕ) (s : List ℕ) → (confirming Q v before ≡ true → v ∈ get s (confirmed n side)) → {b : Bool} {i : ℕ} →
    b ≡ has (get s i) v → b ≡ false → i ≡ confirmed n side → Q.in_quorum v before ≡ false
unfolding confirming
unconfirmed Q n v side before s then e f p =
    is_false (Q.in_quorum v before) (λ t. not_in (ap (λ (k : ℕ). has (get s k) v) (sym p) ∙ sym e ∙ f) (then t))

-- by blocking and by a quorum, with the accepts of the others in o
module _ (Q : Questions) (v a b : ℕ) (f : accepting Q v a b ≡ false) {m o : ℕ} (em : m ≡ single v) (eo : o ≡ minus b m) where
  rest : o ≡ others b v
  rest = others-found v b em eo

  pub unblocked-then : Q.blocked v o ≡ false
  unblocked-then = is_false (Q.blocked v o) (λ e. clash (by-blocked Q v a b (ap (Q.blocked v) (sym rest) ∙ e)) f)

  pub no-quorum-then : Q.in_quorum v (bit_or a o) ≡ false
  no-quorum-then =
      is_false (Q.in_quorum v (bit_or a o)) (λ e. clash (by-quorum Q v a b (ap (λ (x : ℕ). Q.in_quorum v (bit_or a x)) (sym rest) ∙ e)) f)

-- who is new among the votes and the accepts of the others
pub new-either : {u v a b heard_votes heard_accepts : ℕ} → New u v a heard_votes → New u v b heard_accepts → (m : ℕ) {o p : ℕ} →
    o ≡ minus b m → p ≡ minus heard_accepts m → New u v (bit_or a o) (bit_or heard_votes p)
new-either {a = a} {b} {heard_votes} {heard_accepts} A B m {o} {p} eo ep = record {
  each = λ z h x y. ⊎_elim (λ k. (or-⊆-l a o).each z (A.each z k x y))
      (λ k. let l = ∈-eq ep k in
      (or-⊆-r a o).each z (∈-eq (sym eo) (∈-minus (B.each z ((minus-⊆ heard_accepts m).each z l) x y) (minus-not-in heard_accepts l)))) (∈-or heard_votes p h);
}

-- where only u and v are new, and v was there as b says, no quorum is new if u has no slice, as f says
pub sender-without : {S : ℕ → Fbqs} {Q : Questions} → Promises S Q → {u v before w : ℕ} → New u v before w → Q.in_quorum v before ≡ false →
    {b f : Bool} → b ≡ has before v → not b ≡ false → f ≡ Q.has_slice v u w → not f ≡ true → false ≡ Q.in_quorum v w
sender-without {Q = Q} P {u} {v} {before} {w} N g {b} {f} eb hb ef hf =
    let there : v ∈ before = mem (sym eb ∙ not-false b hb) in
    sym (is_false (Q.in_quorum v w)
    (λ e. clash (without P v u w before (sym ef ∙ not-true f hf) (λ z k ne. ⊎_elim (λ q. rw q there) (λ q. N.each z k ne q) (same? z v)) e) g))
