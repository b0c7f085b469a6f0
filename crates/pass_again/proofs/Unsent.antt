-- A call that was refused with 15 once can be refused with nothing else: it is answered by whether its sender has sent it.
use Rattle.std.specs.Prelude.{Ok, Err}
use Prim.Native.Nat.{ℕ, ◌≤◌}
use mathlib.Core.Bool.{Bool, true, false, ◌&&◌, not, cond}
use mathlib.Core.List.{List}
use mathlib.Core.Logic.{⊎_elim}
use mathlib.Core.Path.{◌≡◌, refl, sym, ap, ◌∙◌}
use native.Mathlib.Omega.{arith}
use lib.Dec.{eqb}
use borrow.Author.Tests.{eq-eqb, ne_eqb}
use Rattle.ground.proofs.Logic.{and_l, and_r, not_t, clash}
use Rattle.ground.proofs.Numbers.{same?}
use Rattle.masks.specs.Mask.{has}
use Rattle.refusals.specs.Refusal.{code}
use Rattle.refusals.specs.declared.Refusal.{Refusal}
use Rattle.refusals.specs.declared.Refusal.TheVariants.{Unsent}
use Rattle.rules.proofs.Answer.{Refuses, in-range, refused, answered, passes}
use Rattle.rules.specs.Inner.{InRange}
use Rattle.rules.specs.Rules.{out_of_range, crooked, against, unsent, answer}
use Rattle.rules.specs.State.{voted, accepted, get}
use Rattle.votes.specs.Call.{Call}

-- the place of those who sent what the call says
abbrev pub sent_at : ℕ → Call → ℕ
sent_at n c = cond (eqb c.kind 1) (voted n c.side) (accepted n c.side)

-- as it is read: k, f and d are the call's kind, sender and side
pub sent-read : (n : ℕ) (c : Call) (s : List ℕ) {k f d : ℕ} {b : Bool} → k ≡ c.kind → f ≡ c.from → d ≡ c.side →
    b ≡ has (get s (cond (eqb k 1) (voted n d) (accepted n d))) f → b ≡ has (get s (sent_at n c)) c.from
sent-read n c s ek ef ed e = e ∙ (λ i. has (get s (cond (eqb (ek i) 1) (voted n (ed i)) (accepted n (ed i)))) (ef i))

-- what does not depend on the state: the call is in range and straight, its receiver correct, it is no proposal and its sender correct
pub record Sending (n F : ℕ) (c : Call) : Type 0 where
  pub range : out_of_range n c ≡ false
  pub straight : crooked c ≡ false
  pub correct : has F c.to ≡ false
  pub no-proposal : c.kind ≡ 0 → ⊥
  pub sender : has F c.from ≡ false

module _ (n F : ℕ) (c : Call) where
  unsent-facts : (s : List ℕ) → unsent n F c s ≡ true → (not (eqb c.kind 0) ≡ true) × (not (has F c.from) ≡ true)
  unfolding unsent
  unsent-facts s e =
      let p = and_r (not (eqb c.kind 0)) (not (has F c.from) && not (has (get s (sent_at n c)) c.from)) e in
      (and_l (not (eqb c.kind 0)) (not (has F c.from) && not (has (get s (sent_at n c)) c.from)) e, and_l (not (has F c.from)) (not (has (get s (sent_at n c)) c.from)) p)

  -- 15 comes last: whoever is refused so passed the other tests
  facts : (s : List ℕ) {r : Refusal} → Refuses n F c s r → code (Err r) ≡ 15 → Sending n F c
  facts s (Refuses.range a) e = absurd (omega (arith, e))
  facts s (Refuses.proposal a b) e = absurd (omega (arith, e))
  facts s (Refuses.receiver a b d) e = absurd (omega (arith, e))
  facts s (Refuses.voted-other a b d f) e = absurd (omega (arith, e))
  facts s (Refuses.not-sent a b d f g) e =
      let u = unsent-facts s g in
      record { range = a; straight = b; correct = d; no-proposal = λ z. clash (eq-eqb c.kind 0 z) (not_t (eqb c.kind 0) u.0); sender = not_t (has F c.from) u.1 }

  pub sending : (s : List ℕ) → code (answer n F c s) ≡ 15 → Sending n F c
  sending s e = ⊎_elim (λ f. absurd (omega (arith, sym (ap code f) ∙ e))) (λ x. facts s x.1 (sym (ap code (refused n F c s x.1)) ∙ e)) (answered n F c s)

  module _ (S : Sending n F c) (s : List ℕ) where
    no-vote : against n c s ≡ false
    unfolding against
    no-vote = rw (ne_eqb c.kind 0 S.no-proposal) refl

    -- b is whether the sender has sent it
    unsent-so : {b : Bool} → b ≡ has (get s (sent_at n c)) c.from → unsent n F c s ≡ not b
    unfolding unsent
    unsent-so e = rw (ne_eqb c.kind 0 S.no-proposal, S.sender) (ap not (sym e))

    pub waits-still : {b : Bool} → b ≡ has (get s (sent_at n c)) c.from → b ≡ false → Err Unsent ≡ answer n F c s
    waits-still e f = sym (refused n F c s (Refuses.not-sent S.range S.straight S.correct no-vote (unsent-so e ∙ ap not f)))

    pub taken-now : {b : Bool} → b ≡ has (get s (sent_at n c)) c.from → b ≡ true → answer n F c s ≡ Ok tt
    taken-now e f = passes n F c s S.range S.straight S.correct no-vote (unsent-so e ∙ ap not f)

  pub sending-range : Sending n F c → InRange n c
  sending-range S = in-range S.range

  pub sending-kind : Sending n F c → 1 ≤ c.kind
  sending-kind S = ⊎_elim (λ z. absurd (S.no-proposal z)) (λ z. omega (arith, z)) (same? c.kind 0)
