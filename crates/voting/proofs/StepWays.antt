-- Laws of the ways out of the calls: asked of rows, and of a table by its check.
use Rattle.refusals.specs.Check.{Check}
use Rattle.std.specs.Prelude.{Ok, Err}
use Prim.Native.Nat.{ℕ}
use mathlib.Core.Bool.{Bool, true, false}
use mathlib.Core.List.{List}
use mathlib.Core.Path.{◌≡◌, refl, sym, ap, ◌∙◌}
use Rattle.refusals.proofs.First.{or_else-sound, kept}
use Rattle.refusals.specs.First.{or_else, refuse}
use Rattle.refusals.specs.declared.Refusal.{Refusal}
use Rattle.refusals.specs.declared.Refusal.TheVariants.{Unsound}
use Rattle.rules.proofs.Exact.{sound-of}
use Rattle.rules.specs.Rules.{answer}
use Rattle.rules.specs.Sound.{Sound, unsound}
use Rattle.rules.specs.Vote.{vote}
use Rattle.rules.specs.Inner.{row_vote}
use Rattle.sets.proofs.Groups.{same-questions}
use Rattle.sets.specs.Groups.{Groups, sites_of, groups_check, outsider, set_check}
use Rattle.sets.specs.Inner.AsRows.{AsRows}
use Rattle.sets.specs.Promises.{Questions}
use Rattle.sets.specs.Inner.Rows.{row_questions}
use Rattle.votes.specs.Call.{Call}
use Rattle.votes.specs.Inner.{Works}
use Rattle.votes.specs.Vote.{step, if_taken}
use Rattle.voting.specs.Inner.{row_sound, row_step, row_step_into}
use Rattle.voting.specs.Step.{sound_check, step_check, step_into}

-- asked of rows

module _ (rows : List ℕ) (n F : ℕ) (s : List ℕ) where
  -- the soundness of a state: 10, 18
  module _ {q : Check} (eq : q ≡ outsider n F) where
    pub set-refused : {r : Refusal} → q ≡ Err r → Err r ≡ row_sound rows n F s
    unfolding row_sound
    set-refused e = sym (rw (sym eq ∙ e) refl)

    module _ (e : q ≡ Ok tt) {bad : Bool} (eb : bad ≡ unsound (row_questions rows n) n F s) where
      pub state-refused : bad ≡ true → Err Unsound ≡ row_sound rows n F s
      unfolding row_sound
      state-refused u = sym (rw (sym eq ∙ e, sym eb ∙ u) refl)

      pub state-sound : bad ≡ false → Ok tt ≡ row_sound rows n F s
      unfolding row_sound
      state-sound u = sym (rw (sym eq ∙ e, sym eb ∙ u) refl)

  -- the step of a call: what the soundness refuses, or the answer of the call
  module _ {q : Check} (eq : q ≡ row_sound rows n F s) where
    pub stepped-unsound : (c : Call) {r : Refusal} → q ≡ Err r →
        (Err r ≡ row_step rows n F c s) × (s ≡ row_step_into rows n F c s)
    unfolding row_step row_step_into
    stepped-unsound c e = (sym (rw (sym eq ∙ e) refl), sym (rw (sym eq ∙ e) refl))

    module _ (e : q ≡ Ok tt) where
      pub sound-state : Sound (row_questions rows n) n F s
      unfolding row_sound
      sound-state =
          let bad = unsound (row_questions rows n) n F s in
          sound-of (row_questions rows n) n F s (kept bad Unsound (or_else-sound (outsider n F) (refuse bad Unsound) (sym eq ∙ e)).1)

      module _ {c : Call} {a : Check} {changed : Bool} {s₁ : List ℕ} (w : Works (row_vote rows n F) c s a changed s₁) where
        into : s₁ ≡ row_step_into rows n F c s
        unfolding row_step_into
        into = w.state ∙ sym (rw (sym eq ∙ e) refl)

        pub stepped : (a ≡ row_step rows n F c s) × (s₁ ≡ row_step_into rows n F c s)
        unfolding row_step
        stepped = (w.answers-so ∙ sym (rw (sym eq ∙ e) refl), into)

-- of a table that is refused

module _ (t : Groups) (F : ℕ) (s : List ℕ) where
  pub sound-refused : {q : Check} {r : Refusal} → q ≡ groups_check t → q ≡ Err r → Err r ≡ sound_check t F s
  unfolding sound_check set_check
  sound-refused eq e = sym (rw (sym eq ∙ e) refl)

  pub step-refused : {r : Refusal} → groups_check t ≡ Err r → (c : Call) →
      (Err r ≡ step_check t F c s) × (s ≡ step_into t F c s)
  unfolding step_check step_into sound_check set_check
  step-refused e c = (rw e refl, rw e refl)

-- of a table that is not: what is asked of its rows

module _ {t : Groups} {rows : List ℕ} (a : AsRows t rows) (F : ℕ) (s : List ℕ) where
  pub sound-rows : row_sound rows (sites_of t) F s ≡ sound_check t F s
  unfolding row_sound sound_check set_check
  sound-rows = rw (a.checked, same-questions a) refl

  module _ (c : Call) where
    pub step-rows : row_step rows (sites_of t) F c s ≡ step_check t F c s
    unfolding row_step step_check
    step-rows = ap (λ (q : Check). or_else q (answer (sites_of t) F c s)) sound-rows

    pub into-rows : row_step_into rows (sites_of t) F c s ≡ step_into t F c s
    unfolding row_step_into step_into
    into-rows =
        ap (λ (q : Check). if_taken q (step (row_vote rows (sites_of t) F) c s) s) sound-rows
        ∙ ap (λ (Q : Questions). if_taken (sound_check t F s) (step (vote Q (sites_of t) F) c s) s) (same-questions a)
