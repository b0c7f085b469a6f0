-- What the loops over the calls and the passes need: a flag in place of a copy of the state, and that so many changing passes and then a still one are the run.
use mathlib.Core.Path.{◌≡◌, refl, sym, ap, subst, ◌∙◌}
use mathlib.Core.List.{List, [], ◌∷◌}
use mathlib.Core.Bool.{Bool, true}
use Prim.Native.Nat.{ℕ, zero, suc, ◌≤◌, ◌<◌}
use native.Mathlib.Decide.{dec_lt}
use native.Mathlib.Omega.{arith}
use lib.ListN.{length}
use Rattle.ground.proofs.Logic.{and_l, and_r, and_i}
use Rattle.votes.specs.Inner.{quiet}
use Rattle.votes.specs.Passes.{pass, iter, answers_of, run}
use Rattle.votes.proofs.Passes.{Spends, pass_up, Ends, run_ends, run-bound}

module _ {S C : Type 0} (step : C → S → S) (same : S → S → Bool) where
  module _ (W : Spends step same) (anti : (s t : S) → W.Inv s → W.Inv t → W.Le s t → W.Le t s → s ≡ t) where
    pub quiet-still : (l : List C) (s : S) → (quiet step same l s ≡ true) → pass step l s ≡ s
    quiet-still [] s h = refl
    quiet-still (c ∷ l) s h = quiet-still l (step c s) (and_r (same s (step c s)) (quiet step same l (step c s)) h) ∙ sym (W.same-eq s (step c s) (and_l (same s (step c s)) (quiet step same l (step c s)) h))

    pub still-quiet : (l : List C) (s : S) → W.Inv s → pass step l s ≡ s → (quiet step same l s ≡ true)
    still-quiet [] s i e = refl
    still-quiet (c ∷ l) s i e =
        let f : step c s ≡ s = anti (step c s) s (W.inv-step c s i) i (subst (W.Le (step c s)) e (pass_up step same W l (step c s) (W.inv-step c s i))) (W.up c s i) in
        and_i (subst (λ (x : S). (same s x ≡ true)) (sym f) (W.same_refl s)) (still-quiet l (step c s) (W.inv-step c s i) (e ∙ sym f))

-- one pass more at the end
pub iter-more : {S C : Type 0} (step : C → S → S) (l : List C) (k : ℕ) (s : S) → iter step (suc k) l s ≡ pass step l (iter step k l s)
iter-more step l zero s = refl
iter-more step l (suc k) s = iter-more step l k (pass step l s)

module _ {S C : Type 0} (step : C → S → S) (same : S → S → Bool) (W : Spends step same) (ans : C → S → ℕ) (fresh : S) (inv : W.Inv fresh) (l : List C) where
  abbrev Changed : ℕ → Type 0
  Changed k = (j : ℕ) → j < k → iter step (suc j) l fresh ≡ iter step j l fresh → ⊥

  still : iter step (suc (run_ends step same W ans fresh inv l).changing) l fresh ≡ iter step (run_ends step same W ans fresh inv l).changing l fresh
  still = let E = run_ends step same W ans fresh inv l in iter-more step l E.changing fresh ∙ ap (pass step l) (sym E.state-is) ∙ E.fixed ∙ E.state-is

  pub changed-few : (k : ℕ) → Changed k → k ≤ length l
  changed-few k h = elim (dec_lt (run_ends step same W ans fresh inv l).changing k) [
    | yes m ↦ absurd (h (run_ends step same W ans fresh inv l).changing m still)
    | no m ↦ omega (arith, (run_ends step same W ans fresh inv l).passes-is, run-bound step same W ans fresh inv l)
  ]

  pub run-unique : (k : ℕ) → Changed k → pass step l (iter step k l fresh) ≡ iter step k l fresh
      → run step ans same fresh l ≡ record { state = iter step k l fresh; passes = suc k; answers = answers_of step ans l (iter step k l fresh) }
  run-unique k h f = λ i. record {
    state = (E.state-is ∙ ap (λ (x : ℕ). iter step x l fresh) e) i;
    passes = (E.passes-is ∙ ap suc e) i;
    answers = (E.last-answers ∙ ap (answers_of step ans l) (E.state-is ∙ ap (λ (x : ℕ). iter step x l fresh) e)) i;
  }
    where
      E : Ends step same W ans l fresh (run step ans same fresh l)
      E = run_ends step same W ans fresh inv l

      e : E.changing ≡ k
      e = elim (dec_lt E.changing k) [
        | yes m ↦ absurd (h E.changing m still)
        | no m ↦ elim (dec_lt k E.changing) [
          | yes p ↦ absurd (E.each-changed k p (iter-more step l k fresh ∙ f))
          | no p ↦ omega arith
        ]
      ]
