-- Laws of the inner step: on a sound state a call whose bit is heard already changes nothing, and a taken call whose bit is not heard changes the state.
use Rattle.refusals.specs.Check.{Check}
use Rattle.std.specs.Prelude.{Ok, Err}
use Prim.Native.Nat.{ℕ}
use mathlib.Core.Bool.{Bool, true, false, not}
use mathlib.Core.List.{List}
use mathlib.Core.Logic.{◌⊎◌, inl, inr, ⊎_elim}
use mathlib.Core.Path.{◌≡◌, sym, ap, ◌∙◌, subst}
use Rattle.ground.proofs.Alike.{eq-alike, ne-alike}
use Rattle.ground.proofs.Logic.{clash}
use Rattle.refusals.specs.declared.Refusal.{Refusal}
use Rattle.sets.specs.Promises.{Questions}
use Rattle.rules.specs.Inner.{heard}
use Rattle.rules.specs.Rules.{answer, hears, now_accepts, now_confirms, taken}
use Rattle.rules.specs.Sound.{Sound}
use Rattle.rules.proofs.Answer.{Takes, takes-found, step-taken, step-refused, step-cases}
use Rattle.rules.proofs.Heard.{heard-grows, hears-still, hears-heard}
use Rattle.rules.proofs.SoundLaws.{voted-heard, accepted-heard, rule-accepted, rule-confirmed}
use Rattle.rules.proofs.State.{below-trans}
use Rattle.rules.proofs.Receiver.{now_accepts-alone, now_confirms-alone, now_accepts-still, now_confirms-still}
use Rattle.votes.specs.Inner.{Works}
use Rattle.votes.specs.Call.{Call}
use Rattle.votes.specs.Vote.{step}
use Rattle.rules.specs.Vote.{vote}

module _ {Q : Questions} {n F : ℕ} {s : List ℕ} (S : Sound Q n F s) (c : Call) where
  -- heard already: nothing changes
  pub taken-still : Takes n F c s → heard n c s ≡ true → taken Q n c s ≡ s
  unfolding taken
  taken-still K h =
      let hv = K.range.to_in in
      let hs = K.range.side-in in
      let does = rule-accepted S hs hv K.correct in
      ap (λ (t : List ℕ). now_confirms Q n c.to c.side (now_accepts Q n c.to c.side t)) (hears-still n c s (voted-heard S hs) h)
      ∙ ap (now_confirms Q n c.to c.side) (now_accepts-still Q n c.to c.side s does (λ e. accepted-heard S hs (does e)))
      ∙ now_confirms-still Q n c.to c.side s (rule-confirmed S hs hv K.correct)

  pub heard-still : heard n c s ≡ true → step (vote Q n F) c s ≡ s
  heard-still h = ⊎_elim (λ e. e) (λ x. x.1 ∙ taken-still x.0 h) (step-cases n F c s Q)

  -- a taken call is heard
  pub taken-heard : Takes n F c s → heard n c (taken Q n c s) ≡ true
  unfolding taken
  taken-heard K =
      let s₁ = hears n c s in
      let s₂ = now_accepts Q n c.to c.side s₁ in
      heard-grows n c s₁ (below-trans (now_accepts-alone Q n c.to c.side s₁).adds (now_confirms-alone Q n c.to c.side s₂).adds)
      (hears-heard K.range s S.long)

  pub step-heard : Takes n F c s → heard n c (step (vote Q n F) c s) ≡ true
  step-heard K = subst (λ (t : List ℕ). heard n c t ≡ true) (sym (step-taken n F c s Q K)) (taken-heard K)

  -- a step changes nothing, or is heard then
  pub still-or-heard : (step (vote Q n F) c s ≡ s) ⊎ (heard n c (step (vote Q n F) c s) ≡ true)
  still-or-heard = ⊎_elim inl (λ x. inr (step-heard x.0)) (step-cases n F c s Q)

  -- not heard yet: the state changes
  pub unheard-changes : Takes n F c s → heard n c s ≡ false → s ≡ step (vote Q n F) c s → ⊥
  unheard-changes K h e = clash (step-heard K) (ap (heard n c) (sym e) ∙ h)

  -- the three ways out of the inner step
  module _ {a : Check} (e : a ≡ answer n F c s) where
    still : s ≡ step (vote Q n F) c s → Works (vote Q n F) c s a false s
    still q = record { answers-so = e; changes = sym (ap not (eq-alike s (step (vote Q n F) c s) q)); state = q }

    pub works-refused : {r : Refusal} → a ≡ Err r → Works (vote Q n F) c s a false s
    works-refused f = still (sym (step-refused n F c s Q (sym e ∙ f)))

    -- h is whether the bit is heard already
    module _ {h : Bool} (eh : h ≡ heard n c s) where
      pub works-heard : h ≡ true → Works (vote Q n F) c s a false s
      works-heard f = still (sym (heard-still (sym eh ∙ f)))

      pub works-taken : {t : List ℕ} → a ≡ Ok tt → h ≡ false → t ≡ taken Q n c s → Works (vote Q n F) c s a true t
      works-taken f g q =
          let K = takes-found e f in
          record {
            answers-so = e;
            changes = sym (ap not (ne-alike s (step (vote Q n F) c s) (unheard-changes K (sym eh ∙ g))));
            state = q ∙ sym (step-taken n F c s Q K);
          }
