-- One turn of a later pass, which looks at the calls that wait alone, and its end.
use Rattle.std.specs.Prelude.{Ok, Err}
use Prim.Native.Nat.{ℕ, zero, suc, ◌+◌, ◌-◌, ◌≤◌, ◌<◌}
use mathlib.Core.Bool.{Bool, true, false, ◌||◌, cond}
use mathlib.Core.List.{List}
use mathlib.Core.Path.{◌≡◌, refl, sym, ap, subst, ◌∙◌}
use native.Mathlib.Omega.{arith}
use lib.Dec.{eqb}
use lib.ListN.{length, get_or, set}
use lib.Seq.{get_or-set_same, get_or-set_other, set-get_or}
use borrow.Author.Tests.{eq-eqb, ne_eqb}
use Rattle.refusals.specs.Refusal.{code}
use Rattle.refusals.specs.declared.Refusal.TheVariants.{Unsent}
use Rattle.waiting.proofs.Places.{listed-none, listed-past, listed_same, listed-gap, listed-end, listed-rest, listed-turn, listed-ahead, kept-few}
use Rattle.pass.proofs.Turns.{after_none, after_more, after-byte, after-all}
use Rattle.pass_again.proofs.Settled.{after-skip}
use Rattle.pass.specs.Calls.{calls, call_at}
use Rattle.pass.specs.Inner.{After}
use Rattle.waiting.specs.Inner.{Listed}
use Rattle.pass_again.specs.Inner.{Again, Waited, Amid, Waiting, PassedAgain}
use Rattle.votes.specs.Call.{Call}
use Rattle.votes.specs.Inner.{Lawful, Works}
use Rattle.votes.specs.Vote.{Vote}

-- a call again that waits still, or that is taken
module _ {X : Vote} {c : Call} {s s₁ : List ℕ} {b : Bool} (i : ℕ) (out : List ℕ) where
  pub again-waits : Works X c s (Err Unsent) b s₁ → get_or out i 0 ≡ 15 → Again X c i s out b true s₁ out
  again-waits W g =
      let byte = ap code W.answers-so in
      record {
        works = record { answers-so = refl; changes = W.changes; state = W.state };
        byte = sym (ap (set out i) (sym byte ∙ sym g) ∙ set-get_or out i 0);
        waits-so = sym (eq-eqb (code (X.answer c s)) 15 (sym byte));
      }

  pub again-taken : Works X c s (Ok tt) b s₁ → Again X c i s out b false s₁ (set out i 0)
  again-taken W =
      let byte = ap code W.answers-so in
      record {
        works = record { answers-so = refl; changes = W.changes; state = W.state };
        byte = ap (set out i) byte;
        waits-so = sym (ne_eqb (code (X.answer c s)) 15 (λ g. omega (arith, byte, g)));
      }

module _ {X : Vote} (L : Lawful X) (list s₀ out₀ w₀ : List ℕ) (count : ℕ)
    (H : Waiting X list s₀ out₀ count w₀) where
  -- the settled calls from place p on and before place q passed over
  skip-to : (m p q : ℕ) {s out w : List ℕ} {left : ℕ} {changed : Bool} → p + m ≡ q → q ≤ length out₀ → After X list s₀ out₀ p changed s out →
      Listed out 0 p w 0 left → ((i : ℕ) → p ≤ i → i < q → get_or out₀ i 0 ≡ 15 → ⊥) →
      After X list s₀ out₀ q changed s out × Listed out 0 q w 0 left
  skip-to zero p q {s} {out} {w} {left} {changed} e h A K f =
      subst (λ (x : ℕ). After X list s₀ out₀ x changed s out × Listed out 0 x w 0 left) (omega (arith, e)) (A, K)
  skip-to (suc m) p q e h A K f =
      let g : get_or out₀ p 0 ≡ 15 → ⊥ = f p (omega arith) (omega arith) in
      skip-to m (p + 1) q (omega arith) h (after-skip L list s₀ out₀ H.fits p H.sound H.told A (omega arith) g)
      (listed-past K (λ x. g (sym (after-byte L list s₀ out₀ H.fits p p A (omega arith)) ∙ x))) (λ i l. f i (omega arith))

  pub amid-none : Amid X list s₀ out₀ count 0 0 false s₀ out₀ w₀
  amid-none = record {
    at = 0;
    after = after_none L list s₀ out₀ H.fits H.sound;
    kept = listed-none out₀ w₀ 0 0;
    rest = H.listed;
    few = omega arith;
    within = omega arith;
  }

  module _ {k left : ℕ} {changed : Bool} {s out w : List ℕ} (A : Amid X list s₀ out₀ count k left changed s out w) where
    module _ (h : k < count) where
      -- the next call that waits
      pub amid-below : get_or w k 0 < length out₀
      amid-below = A.rest.below k (omega arith) h

      here : After X list s₀ out₀ (get_or w k 0) changed s out × Listed out 0 (get_or w k 0) w 0 left
      here =
          let l = A.rest.from k (omega arith) h in
          let b = amid-below in
          skip-to (get_or w k 0 - A.at) A.at (get_or w k 0) (omega arith) (omega arith) A.after A.kept (listed-gap A.rest h)

      pub amid-waits : get_or out (get_or w k 0) 0 ≡ 15
      amid-waits =
          after-byte L list s₀ out₀ H.fits A.at (get_or w k 0) A.after (A.rest.from k (omega arith) h) ∙ A.rest.waits k (omega arith) h

      -- it was refused with 15 once
      pub amid-waited : {i : ℕ} → i ≡ get_or w k 0 → Waited X (call_at list i)
      amid-waited e =
          subst (λ (j : ℕ). Waited X (call_at list j)) (sym e) (H.told.waited (get_or w k 0) amid-below (A.rest.waits k (omega arith) h))

      pub amid-more : (i c : ℕ) (x waits : Bool) (w₁ : List ℕ) {b : Bool} {s₁ out₁ : List ℕ} → k < length w → i ≡ get_or w k 0 →
          Again X (call_at list i) i s out b waits s₁ out₁ → x ≡ changed || b → c ≡ cond waits (left + 1) left → w₁ ≡ cond waits (set w left i) w →
          Amid X list s₀ out₀ count (k + 1) c x s₁ out₁ w₁
      amid-more i c x waits w₁ {b} {s₁} {out₁} hw e Z ex ec ew = record {
        at = i + 1;
        after = subst (After X list s₀ out₀ (i + 1) x s₁) (sym Z.byte) (after_more L list s₀ out₀ H.fits i a x s out at.0 hi Z.works refl ex);
        kept = listed-turn waits (listed_same at.1 out₁ old) (omega (arith, A.few)) (Z.waits-so ∙ ap (λ (y : ℕ). eqb y 15) (sym new)) ec ew;
        rest = listed-ahead i waits (subst (λ (y : ℕ). Listed out₀ (y + 1) (length out₀) w (k + 1) count) (sym e) (listed-rest A.rest h))
            (omega (arith, A.few)) ew;
        few = kept-few waits ec A.few;
        within = omega arith;
      }
        where
          a : ℕ
          a = code (X.answer (call_at list i) s)

          at : After X list s₀ out₀ i changed s out × Listed out 0 i w 0 left
          at = subst (λ (y : ℕ). After X list s₀ out₀ y changed s out × Listed out 0 y w 0 left) (sym e) here

          hi : i < length out₀
          hi = omega (arith, e, amid-below)

          new : get_or out₁ i 0 ≡ a
          new = ap (λ (y : List ℕ). get_or y i 0) Z.byte ∙ get_or-set_same out i a 0 (omega (arith, hi, at.0.long))

          old : (j : ℕ) → 0 ≤ j → j < i → get_or out₁ j 0 ≡ get_or out j 0
          old j l m = ap (λ (y : List ℕ). get_or y j 0) Z.byte ∙ get_or-set_other out i j a 0 (λ z. omega arith)

    -- none is left
    pub amid-all : count ≤ k → PassedAgain X (calls list) s₀ count changed left s out w
    amid-all h =
        let within : A.at ≤ length out₀ = A.after.within in
        let z = skip-to (length out₀ - A.at) A.at (length out₀) (omega arith) (omega arith) A.after A.kept (listed-end A.rest h) in record {
          passed = after-all L list s₀ out₀ H.fits (length out₀) s out z.0 (omega arith);
          listed = subst (λ (y : ℕ). Listed out 0 y w 0 left) (sym z.0.long) z.1;
          fewer = omega (arith, A.few, A.within);
        }
