-- Laws of a sound state: what its clauses say in facts, and that the fresh state is sound.
use Prim.Native.Nat.{ℕ, ◌<◌}
use mathlib.Core.Bool.{true, false}
use mathlib.Core.List.{List}
use mathlib.Core.Path.{◌≡◌, sym, ap, ap₂, ◌∙◌}
use Rattle.masks.proofs.Laws.Members.{has-zero}
use Rattle.masks.proofs.Laws.Single.{not_in}
use Rattle.masks.proofs.Laws.Subsets.{mem}
use Rattle.masks.specs.Mask.{has, ◌∈◌}
use Rattle.sets.specs.Promises.{Questions}
use Rattle.rules.specs.Rules.{accepting, confirming}
use Rattle.rules.specs.Sound.{Sound}
use Rattle.rules.specs.State.{votes, accepts, voted, accepted, confirmed, get, width}
use Rattle.rules.specs.Theorems.{FreshSound}
use Rattle.rules.proofs.RuleLaws.{accepting-nothing, confirming-nothing}
use Rattle.rules.proofs.State.{fresh-length, fresh-get, fresh-none}
use Rattle.rules.proofs.Receiver.{accepts_now, confirms_now}
use Rattle.votes.specs.Vote.{fresh}

-- what the clauses say in facts

module _ {Q : Questions} {n F : ℕ} {s : List ℕ} (S : Sound Q n F s) {v side : ℕ} (hs : side < 2) where
  -- who has voted, accepted or confirmed is correct
  pub voted-correct : v ∈ get s (voted n side) → v ∈ F → ⊥
  voted-correct h f = not_in (S.faulty-voted v side (S.below (voted n side) v h) hs f) h

  pub accepted-correct : v ∈ get s (accepted n side) → v ∈ F → ⊥
  accepted-correct h f = not_in (S.faulty-accepted v side (S.below (accepted n side) v h) hs f) h

  pub confirmed-correct : v ∈ get s (confirmed n side) → v ∈ F → ⊥
  confirmed-correct h f = not_in (S.faulty-confirmed v side (S.below (confirmed n side) v h) hs f) h

  -- its own vote and its own accept are heard by itself
  pub voted-heard : v ∈ get s (voted n side) → v ∈ get s (votes side v)
  voted-heard h = mem (S.own-vote v side (S.below (voted n side) v h) hs (voted-correct h) ∙ h.holds)

  pub accepted-heard : v ∈ get s (accepted n side) → v ∈ get s (accepts side v)
  accepted-heard h = mem (S.own-accept v side (S.below (accepted n side) v h) hs (accepted-correct h) ∙ h.holds)

  -- it has accepted and confirmed by the rules
  pub accepted-rule : v ∈ get s (accepted n side) → accepts_now Q v side s ≡ true
  accepted-rule h = sym (S.accepted-by-rule v side (S.below (accepted n side) v h) hs (accepted-correct h)) ∙ h.holds

  pub confirmed-rule : v ∈ get s (confirmed n side) → confirms_now Q v side s ≡ true
  confirmed-rule h = sym (S.confirmed-by-rule v side (S.below (confirmed n side) v h) hs (confirmed-correct h)) ∙ h.holds

  -- and a correct site for which the rules say so has
  pub rule-accepted : v < n → (v ∈ F → ⊥) → accepts_now Q v side s ≡ true → v ∈ get s (accepted n side)
  rule-accepted hv f e = mem (S.accepted-by-rule v side hv hs f ∙ e)

  pub rule-confirmed : v < n → (v ∈ F → ⊥) → confirms_now Q v side s ≡ true → v ∈ get s (confirmed n side)
  rule-confirmed hv f e = mem (S.confirmed-by-rule v side hv hs f ∙ e)

-- the fresh state

fresh-has : (n i v : ℕ) → has (get (fresh (width n)) i) v ≡ false
fresh-has n i v = ap (λ (m : ℕ). has m v) (fresh-get n i) ∙ has-zero v

pub fresh-sound : FreshSound
fresh-sound S Q n F R = record {
  long = fresh-length n;
  below = λ i v h. absurd (fresh-none n i h);
  faulty-votes = λ v side hv hs f. fresh-get n (votes side v);
  faulty-accepts = λ v side hv hs f. fresh-get n (accepts side v);
  faulty-voted = λ v side hv hs f. fresh-has n (voted n side) v;
  faulty-accepted = λ v side hv hs f. fresh-has n (accepted n side) v;
  faulty-confirmed = λ v side hv hs f. fresh-has n (confirmed n side) v;
  once = λ v h k. fresh-none n (voted n 0) h;
  own-vote = λ v side hv hs f. fresh-has n (votes side v) v ∙ sym (fresh-has n (voted n side) v);
  own-accept = λ v side hv hs f. fresh-has n (accepts side v) v ∙ sym (fresh-has n (accepted n side) v);
  accepted-by-rule = λ v side hv hs f. fresh-has n (accepted n side) v
      ∙ sym (ap₂ (accepting Q v) (fresh-get n (votes side v)) (fresh-get n (accepts side v)) ∙ accepting-nothing R v hv);
  confirmed-by-rule = λ v side hv hs f. fresh-has n (confirmed n side) v
      ∙ sym (ap (confirming Q v) (fresh-get n (accepts side v)) ∙ confirming-nothing R v);
  votes-sent = λ v u side hv hs f h. absurd (fresh-none n (votes side v) h);
  accepts-sent = λ v u side hv hs f h. absurd (fresh-none n (accepts side v) h);
}
