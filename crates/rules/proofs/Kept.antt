-- A taken call keeps a state sound: of the receiver and the call's side by the rules, of every other site and side as before.
use Prim.Native.Nat.{ℕ, ◌-◌, ◌<◌}
use mathlib.Core.List.{List}
use mathlib.Core.Logic.{inr, ⊎_elim}
use mathlib.Core.Path.{◌≡◌, sym, ap, ap₂, ◌∙◌, subst, subst₂}
use native.Mathlib.Omega.{arith}
use Rattle.ground.proofs.Logic.{iff}
use Rattle.masks.proofs.Laws.Single.{∈-eq}
use Rattle.masks.proofs.Laws.Subsets.{mem}
use Rattle.masks.specs.Mask.{has, ◌∈◌}
use Rattle.sets.specs.Paper.{Fbqs}
use Rattle.sets.specs.Promises.{Questions, Promises}
use Rattle.rules.specs.Rules.{accepting, confirming, taken}
use Rattle.rules.specs.Sound.{Sound}
use Rattle.rules.specs.State.{votes, accepts, voted, accepted, confirmed, get}
use Rattle.rules.proofs.Alone.{Alone, Other, here-or-other, same-votes, same-accepts, same-voted, same-accepted, same-confirmed}
use Rattle.rules.proofs.Answer.{Takes}
use Rattle.rules.proofs.Heard.{proposal-heard}
use Rattle.rules.proofs.SoundLaws.{voted-heard, accepted-heard, accepted-rule, confirmed-rule}
use Rattle.rules.proofs.Taken.{taken-alone, votes-kept, accepts_now-kept, taken-below, taken-voted, accepts-cases, taken-accepted, confirmed-cases, accepted-there, accepts-there, confirmed-there, heard-voted, heard-accepted}
use Rattle.rules.proofs.Receiver.{accepts_now, confirms_now, accepts_now-grows, confirms_now-grows}
use Rattle.votes.specs.Call.{Call}

module _ {Q : Questions} {n F : ℕ} {c : Call} {s : List ℕ} (S : Sound Q n F s) (K : Takes n F c s) where
  abbrev v : ℕ
  v = c.to

  abbrev side : ℕ
  side = c.side

  abbrev t : List ℕ
  t = taken Q n c s

  hv : v < n
  hv = K.range.to_in

  hs : side < 2
  hs = K.range.side-in

  A : Alone n v side s t
  A = taken-alone Q n c s

  -- of the receiver and the call's side

  votes-sent-here : {u : ℕ} → (u ∈ F → ⊥) → u ∈ get t (votes side v) → u ∈ get t (voted n side)
  votes-sent-here f h = heard-voted S K f (∈-eq (votes-kept S K hs hv) h)

  accepts-sent-here : {u : ℕ} → (u ∈ F → ⊥) → u ∈ get t (accepts side v) → u ∈ get t (accepted n side)
  accepts-sent-here {u} f h =
      ⊎_elim (λ x. (A.adds.each (accepted n side)).each u (heard-accepted S K f x))
      (λ x. subst (λ (w : ℕ). w ∈ get t (accepted n side)) (sym x.1) (accepted-there S K x.0)) (accepts-cases S K h)

  own-vote-here : has (get t (votes side v)) v ≡ has (get t (voted n side)) v
  own-vote-here =
      iff (has (get t (votes side v)) v) (has (get t (voted n side)) v) (λ e. (votes-sent-here K.correct (mem e)).holds)
      (λ e. ⊎_elim (λ x. ((A.adds.each (votes side v)).each v (voted-heard S hs x)).holds)
      (λ x. ap (λ (m : ℕ). has m v) (votes-kept S K hs hv) ∙ (proposal-heard K.range s S.long x.0).holds) (taken-voted S K hs (mem e)))

  own-accept-here : has (get t (accepts side v)) v ≡ has (get t (accepted n side)) v
  own-accept-here =
      iff (has (get t (accepts side v)) v) (has (get t (accepted n side)) v) (λ e. (accepts-sent-here K.correct (mem e)).holds)
      (λ e. ⊎_elim (λ x. ((A.adds.each (accepts side v)).each v (accepted-heard S hs x)).holds) (λ x. (accepts-there S K x.0).holds)
      (taken-accepted S K hs (mem e)))

  module _ {Σ : ℕ → Fbqs} (P : Promises Σ Q) where
    accepted-here : has (get t (accepted n side)) v ≡ accepts_now Q v side t
    accepted-here =
        iff (has (get t (accepted n side)) v) (accepts_now Q v side t)
        (λ e. ⊎_elim (λ x. accepts_now-grows P n v side A.adds (accepted-rule S hs x)) (λ x. accepts_now-kept S K ∙ x.0)
        (taken-accepted S K hs (mem e)))
        (λ e. (accepted-there S K (sym (accepts_now-kept S K) ∙ e)).holds)

    confirmed-here : has (get t (confirmed n side)) v ≡ confirms_now Q v side t
    confirmed-here =
        iff (has (get t (confirmed n side)) v) (confirms_now Q v side t)
        (λ e. ⊎_elim (λ x. confirms_now-grows P n v side A.adds (confirmed-rule S hs x)) (λ x. x.0) (confirmed-cases S K hs (mem e)))
        (λ e. (confirmed-there S K e).holds)

  -- a new vote is not for the other side
  voted-once : {τ u : ℕ} → (c.kind ≡ 0) × (τ ≡ side) × (u ≡ v) → u ∈ get s (voted n (1 - τ)) → ⊥
  voted-once x h = K.free x.0 (subst₂ (λ (w ρ : ℕ). w ∈ get s (voted n (1 - ρ))) x.2 x.1 h)

  once : (u : ℕ) → u ∈ get t (voted n 0) → u ∈ get t (voted n 1) → ⊥
  once u h k =
      ⊎_elim (λ a. ⊎_elim (S.once u a) (λ b. voted-once b a) (taken-voted S K (omega arith) k))
      (λ a. ⊎_elim (voted-once a) (λ b. omega (arith, a.1, b.1)) (taken-voted S K (omega arith) k)) (taken-voted S K (omega arith) h)

  -- a faulty site is not the receiver
  faulty-other : {w τ : ℕ} → w ∈ F → Other v side w τ
  faulty-other f = inr (λ e. K.correct (subst (λ (x : ℕ). x ∈ F) e f))

  pub taken-sound : {Σ : ℕ → Fbqs} → Promises Σ Q → Sound Q n F (taken Q n c s)
  taken-sound P = record {
    long = sym A.adds.long ∙ S.long;
    below = taken-below S K;
    faulty-votes = λ w τ hw ht f. same-votes hv hs A hw ht (faulty-other f) ∙ S.faulty-votes w τ hw ht f;
    faulty-accepts = λ w τ hw ht f. same-accepts hv hs A hw ht (faulty-other f) ∙ S.faulty-accepts w τ hw ht f;
    faulty-voted = λ w τ hw ht f. same-voted hv hs A hw ht (faulty-other f) ∙ S.faulty-voted w τ hw ht f;
    faulty-accepted = λ w τ hw ht f. same-accepted hv hs A hw ht (faulty-other f) ∙ S.faulty-accepted w τ hw ht f;
    faulty-confirmed = λ w τ hw ht f. same-confirmed hv hs A hw ht (faulty-other f) ∙ S.faulty-confirmed w τ hw ht f;
    once = once;
    own-vote = λ w τ hw ht f. here-or-other (λ x y. has (get t (votes y x)) x ≡ has (get t (voted n y)) x) own-vote-here
        (λ o. ap (λ (m : ℕ). has m w) (same-votes hv hs A hw ht o) ∙ S.own-vote w τ hw ht f ∙ sym (same-voted hv hs A hw ht o));
    own-accept = λ w τ hw ht f. here-or-other (λ x y. has (get t (accepts y x)) x ≡ has (get t (accepted n y)) x) own-accept-here
        (λ o. ap (λ (m : ℕ). has m w) (same-accepts hv hs A hw ht o) ∙ S.own-accept w τ hw ht f ∙ sym (same-accepted hv hs A hw ht o));
    accepted-by-rule = λ w τ hw ht f. here-or-other (λ x y. has (get t (accepted n y)) x ≡ accepts_now Q x y t) (accepted-here P)
        (λ o. same-accepted hv hs A hw ht o ∙ S.accepted-by-rule w τ hw ht f
        ∙ sym (ap₂ (accepting Q w) (same-votes hv hs A hw ht o) (same-accepts hv hs A hw ht o)));
    confirmed-by-rule = λ w τ hw ht f. here-or-other (λ x y. has (get t (confirmed n y)) x ≡ confirms_now Q x y t) (confirmed-here P)
        (λ o. same-confirmed hv hs A hw ht o ∙ S.confirmed-by-rule w τ hw ht f ∙ sym (ap (confirming Q w) (same-accepts hv hs A hw ht o)));
    votes-sent = λ w u τ hw ht f. here-or-other (λ x y. u ∈ get t (votes y x) → u ∈ get t (voted n y)) (votes-sent-here f)
        (λ o h. (A.adds.each (voted n τ)).each u (S.votes-sent w u τ hw ht f (∈-eq (same-votes hv hs A hw ht o) h)));
    accepts-sent = λ w u τ hw ht f. here-or-other (λ x y. u ∈ get t (accepts y x) → u ∈ get t (accepted n y)) (accepts-sent-here f)
        (λ o h. (A.adds.each (accepted n τ)).each u (S.accepts-sent w u τ hw ht f (∈-eq (same-accepts hv hs A hw ht o) h)));
  }
