-- A call that was not refused with 15 is settled: it changes nothing more, and its answer stays.
use Prim.Native.Nat.{ℕ, zero, suc, ◌+◌, ◌*◌, ◌<◌}
use mathlib.Core.Bool.{Bool, true, false, ◌||◌, not}
use mathlib.Core.List.{List, [], ◌∷◌}
use mathlib.Core.Path.{◌≡◌, refl, sym, ap, subst, subst₂, ◌∙◌}
use native.Mathlib.Omega.{arith}
use lib.ListN.{length, get_or, take, set}
use lib.Seq.{set-get_or}
use Rattle.ground.proofs.Alike.{eq-alike}
use Rattle.ground.specs.Alike.{alike}
use Rattle.pass.proofs.Calls.{calls_at, calls-length}
use Rattle.pass.proofs.Turns.{length-answers, after_more, after-byte}
use Rattle.pass.specs.Calls.{calls, call_at}
use Rattle.pass.specs.Inner.{answers_from, After, Passed}
use Rattle.pass_again.specs.Inner.{Settled, Waited, Told}
use Rattle.refusals.specs.Refusal.{code}
use Rattle.votes.proofs.AnyVote.{spends}
use Rattle.votes.proofs.Passes.{pass_up}
use Rattle.votes.specs.Call.{Call}
use Rattle.votes.specs.Inner.{Lawful}
use Rattle.votes.specs.Passes.{pass}
use Rattle.votes.specs.Vote.{Vote, step}

or-f : (a : Bool) → a ≡ a || false
or-f true = refl
or-f false = refl

module _ {X : Vote} (L : Lawful X) where
  settled-later : {c : Call} {a : ℕ} {s t : List ℕ} → X.Below s t → Settled X c a s → Settled X c a t
  settled-later {s = s} {t} b Z = record { answers-so = λ {t = u} h T. Z.answers-so (L.below-trans s t u b h) T; still = λ {t = u} h T. Z.still (L.below-trans s t u b h) T }

  settles : (c : Call) (s : List ℕ) → X.Sound s → (code (X.answer c s) ≡ 15 → ⊥) → Settled X c (code (X.answer c s)) (step X c s)
  settles c s S w = record { answers-so = λ {t} b T. (L.settles c s t S w b T).0; still = λ {t} b T. (L.settles c s t S w b T).1 }

  -- after a pass each call that does not wait is settled
  pub pass-settles : (l : List Call) (s : List ℕ) → X.Sound s → (i : ℕ) (d : Call) → i < length l →
      (get_or (answers_from X l s) i 0 ≡ 15 → ⊥) → Settled X (get_or l i d) (get_or (answers_from X l s) i 0) (pass (step X) l s)
  pass-settles [] s S i d h w = absurd (omega arith)
  pass-settles (c ∷ l) s S zero d h w =
      settled-later (pass_up (step X) alike (spends X L) l (step X c s) (L.keeps c s S)) (settles c s S w)
  pass-settles (c ∷ l) s S (suc i) d h w = pass-settles l (step X c s) (L.keeps c s S) i d (omega arith) w

  -- and each call that waits was refused with 15
  pub pass-waited : (l : List Call) (s : List ℕ) (i : ℕ) (d : Call) → i < length l → get_or (answers_from X l s) i 0 ≡ 15 → Waited X (get_or l i d)
  pass-waited [] s i d h w = absurd (omega arith)
  pass-waited (c ∷ l) s zero d h w = record { once = s; refused = w }
  pass-waited (c ∷ l) s (suc i) d h w = pass-waited l (step X c s) i d (omega arith) w

  -- after a pass each call waits or is settled
  pub passed-told : (list : List ℕ) (k : ℕ) {s s₁ out : List ℕ} {changed : Bool} → length list ≡ 4 * k → X.Sound s →
      Passed X (calls list) s changed s₁ out → Told X list s₁ out
  passed-told list k {s} h S Z = subst₂ (Told X list) (sym Z.state) (sym Z.answers) (record {
    settled = λ i l w.
        let few : i < length (calls list) = omega (arith, l, length-answers X (calls list) s) in
        subst (λ (c : Call). Settled X c (get_or (answers_from X (calls list) s) i 0) (pass (step X) (calls list) s))
        (calls_at list i (call_at list i) (omega (arith, h, few, calls-length list k h)))
        (pass-settles (calls list) s S i (call_at list i) few w);
    waited = λ i l w.
        let few : i < length (calls list) = omega (arith, l, length-answers X (calls list) s) in
        subst (Waited X) (calls_at list i (call_at list i) (omega (arith, h, few, calls-length list k h))) (pass-waited (calls list) s i (call_at list i) few w);
  })

  module _ (list s₀ out₀ : List ℕ) (fits : length list ≡ 4 * length out₀) where
    -- a settled call can be passed over
    pub after-skip : (i : ℕ) {s out : List ℕ} {changed : Bool} → X.Sound s₀ → Told X list s₀ out₀ → After X list s₀ out₀ i changed s out →
        i < length out₀ → (get_or out₀ i 0 ≡ 15 → ⊥) → After X list s₀ out₀ (i + 1) changed s out
    after-skip i {s} {out} {changed} S T A h w =
        let c = call_at list i in
        let Z = T.settled i h w in
        let b : X.Below s₀ s = subst (X.Below s₀) (sym A.state) (pass_up (step X) alike (spends X L) (take i (calls list)) s₀ S) in
        let e : s ≡ step X c s = sym (Z.still b A.sound) in
        let kept : set out i (code (X.answer c s)) ≡ out =
        ap (set out i) (Z.answers-so b A.sound ∙ sym (after-byte L list s₀ out₀ fits i i A (omega arith))) ∙ set-get_or out i 0 in
        subst (After X list s₀ out₀ (i + 1) changed s) kept
        (after_more L list s₀ out₀ fits i (code (X.answer c s)) changed s out A h
        (record { answers-so = refl; changes = sym (ap not (eq-alike s (step X c s) e)); state = e }) refl (or-f changed))
