-- One law for each way out of the functions that answer a call or test a state: the tests before it failed, and what its own test says.
use Rattle.std.specs.Prelude.{Ok, Err}
use Prim.Native.Nat.{ℕ, ◌+◌, ◌-◌, ◌<◌}
use mathlib.Core.Bool.{Bool, true, false, not}
use mathlib.Core.List.{List}
use mathlib.Core.Path.{◌≡◌, refl, sym, ap, ◌∙◌}
use borrow.Author.Tests.{eq-eqb, ne_eqb}
use Rattle.ground.proofs.Some.{some_of, some_more}
use Rattle.ground.specs.Search.{some}
use Rattle.masks.specs.Mask.{has}
use Rattle.refusals.specs.declared.Refusal.TheVariants.{Range, Receiver, Proposal, Voted, Unsent}
use Rattle.sets.specs.Promises.{Questions}
use Rattle.rules.specs.Inner.{InRange, heard}
use Rattle.rules.specs.Rules.{out_of_range, crooked, against, unsent, answer}
use Rattle.rules.specs.Sound.{not_zero, bad_side, bad_site}
use Rattle.rules.specs.State.{votes, accepts, voted, accepted, confirmed, get}
use Rattle.rules.proofs.Answer.{in-range, refused, passes, range, proposal, receiver, voted-other, not-sent}
use Rattle.rules.proofs.Heard.{heard-proposal, heard-vote, heard-accept}
use Rattle.votes.specs.Call.{Call}

-- 14, 15, and whether the call was heard already: b is the bit read at place i

module _ (n : ℕ) (c : Call) (s : List ℕ) where
  pub is-heard-proposal : c.kind ≡ 0 → {b : Bool} {i : ℕ} → b ≡ has (get s i) c.to → i ≡ voted n c.side → b ≡ heard n c s
  is-heard-proposal k e p = e ∙ rw p (sym (heard-proposal n c s k))

  pub is-heard-vote : c.kind ≡ 1 → {b : Bool} {i : ℕ} → b ≡ has (get s i) c.from → i ≡ votes c.side c.to → b ≡ heard n c s
  is-heard-vote k e p = e ∙ rw p (sym (heard-vote n c s k))

  pub is-heard-accept : (c.kind ≡ 0 → ⊥) → (c.kind ≡ 1 → ⊥) → {b : Bool} {i : ℕ} → b ≡ has (get s i) c.from → i ≡ accepts c.side c.to →
      b ≡ heard n c s
  is-heard-accept k l e p = e ∙ rw p (sym (heard-accept n c s k l))

  module _ (F : ℕ) where
    pub unsent-proposal : c.kind ≡ 0 → false ≡ unsent n F c s
    unfolding unsent
    unsent-proposal e = rw (eq-eqb c.kind 0 e) refl

    -- f is whether the sender is faulty
    module _ (k : c.kind ≡ 0 → ⊥) {f : Bool} (ef : f ≡ has F c.from) where
      pub unsent-faulty : f ≡ true → false ≡ unsent n F c s
      unfolding unsent
      unsent-faulty t = rw (ne_eqb c.kind 0 k, sym ef ∙ t) refl

      module _ (t : f ≡ false) where
        pub unsent-vote : c.kind ≡ 1 → {b : Bool} {i : ℕ} → b ≡ has (get s i) c.from → i ≡ voted n c.side → not b ≡ unsent n F c s
        unfolding unsent
        unsent-vote l e p = ap not e ∙ rw (p, ne_eqb c.kind 0 k, sym ef ∙ t, eq-eqb c.kind 1 l) refl

        pub unsent-accept : (c.kind ≡ 1 → ⊥) → {b : Bool} {i : ℕ} → b ≡ has (get s i) c.from → i ≡ accepted n c.side → not b ≡ unsent n F c s
        unfolding unsent
        unsent-accept l e p = ap not e ∙ rw (p, ne_eqb c.kind 0 k, sym ef ∙ t, ne_eqb c.kind 1 l) refl

-- the answer of a call, by what each test said

pub tested-range : {n : ℕ} {c : Call} {out : Bool} → out ≡ out_of_range n c → out ≡ false → InRange n c
tested-range e o = in-range (sym e ∙ o)

module _ (n F : ℕ) (c : Call) (s : List ℕ) {out : Bool} (eo : out ≡ out_of_range n c) where
  pub answer-range : out ≡ true → Err (Range 0) ≡ answer n F c s
  answer-range o = sym (refused n F c s (range (sym eo ∙ o)))

  module _ (o : out ≡ false) {bent : Bool} (eb : bent ≡ crooked c) where
    pub answer-proposal : bent ≡ true → Err Proposal ≡ answer n F c s
    answer-proposal b = sym (refused n F c s (proposal (sym eo ∙ o) (sym eb ∙ b)))

    module _ (b : bent ≡ false) {faulty : Bool} (ef : faulty ≡ has F c.to) where
      pub answer-receiver : faulty ≡ true → Err Receiver ≡ answer n F c s
      answer-receiver f = sym (refused n F c s (receiver (sym eo ∙ o) (sym eb ∙ b) (sym ef ∙ f)))

      module _ (f : faulty ≡ false) {other : Bool} (ea : other ≡ against n c s) where
        pub answer-voted : other ≡ true → Err Voted ≡ answer n F c s
        answer-voted a = sym (refused n F c s (voted-other (sym eo ∙ o) (sym eb ∙ b) (sym ef ∙ f) (sym ea ∙ a)))

        module _ (a : other ≡ false) {none : Bool} (eu : none ≡ unsent n F c s) where
          pub answer-unsent : none ≡ true → Err Unsent ≡ answer n F c s
          answer-unsent u = sym (refused n F c s (not-sent (sym eo ∙ o) (sym eb ∙ b) (sym ef ∙ f) (sym ea ∙ a) (sym eu ∙ u)))

          pub answer-taken : none ≡ false → Ok tt ≡ answer n F c s
          answer-taken u = sym (passes n F c s (sym eo ∙ o) (sym eb ∙ b) (sym ef ∙ f) (sym ea ∙ a) (sym eu ∙ u))

-- 18: one site and one side, read at their five places
pub record Read (n v side h k p q r : ℕ) : Type 0 where
  pub at-votes : h ≡ votes side v
  pub at-accepts : k ≡ accepts side v
  pub at-voted : p ≡ voted n side
  pub at-accepted : q ≡ accepted n side
  pub at-confirmed : r ≡ confirmed n side

pub zero-read : (n : ℕ) (s : List ℕ) (v side : ℕ) {h k p q r : ℕ} → Read n v side h k p q r →
    not_zero v (get s (votes side v)) (get s (accepts side v)) (get s (voted n side)) (get s (accepted n side)) (get s (confirmed n side))
    ≡ not_zero v (get s h) (get s k) (get s p) (get s q) (get s r)
zero-read n s v side R = rw (R.at-votes, R.at-accepts, R.at-voted, R.at-accepted, R.at-confirmed) refl

-- d is what the test of the first side said
module _ (Q : Questions) (n F : ℕ) (s : List ℕ) (v : ℕ) {d : Bool} (ed : d ≡ bad_side Q n F s v 0) where
  pub site-drill : d ≡ true → true ≡ bad_site Q n F s v
  unfolding bad_site
  site-drill t = rw (sym ed ∙ t) refl

  pub site-live : d ≡ false → {l : Bool} → l ≡ bad_side Q n F s v 1 → l ≡ bad_site Q n F s v
  unfolding bad_site
  site-live t e = e ∙ rw (sym ed ∙ t) refl

-- d is what the test of site v said
module _ (Q : Questions) (n F : ℕ) (s : List ℕ) (v : ℕ) {d : Bool} (ed : d ≡ bad_site Q n F s v) where
  pub sites-bad : v < n → d ≡ true → true ≡ some n (bad_site Q n F s)
  sites-bad h t = sym (some_of n (bad_site Q n F s) h (sym ed ∙ t))

  pub sites-good : some v (bad_site Q n F s) ≡ false → d ≡ false → some (v + 1) (bad_site Q n F s) ≡ false
  sites-good e t = some_more v (bad_site Q n F s) e (sym ed ∙ t)
