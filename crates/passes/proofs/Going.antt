-- One pass more of a run, and its end: so many passes changed something, and the one after them nothing.
use Prim.Native.Nat.{ℕ, suc, ◌+◌, ◌≤◌}
use mathlib.Core.Bool.{Bool, true, false}
use mathlib.Core.List.{List}
use mathlib.Core.Logic.{⊎_elim}
use mathlib.Core.Path.{◌≡◌, sym, ap, subst, ◌∙◌}
use native.Mathlib.Nat.{eq-or-lt_of_le, le_of_suc-le-suc}
use native.Mathlib.Numerals.{add-one}
use native.Mathlib.Omega.{arith}
use lib.ListN.{length, replicate}
use borrow.Author.Tests.{not-true, not-false}
use Rattle.ground.proofs.Logic.{clash}
use Rattle.ground.specs.Alike.{alike}
use Rattle.pass.proofs.Calls.{calls-length}
use Rattle.pass_again.proofs.Settled.{passed-told}
use Rattle.pass.specs.Calls.{calls}
use Rattle.pass.specs.Inner.{answers_from, Passed}
use Rattle.waiting.specs.Inner.{Listed}
use Rattle.pass_again.specs.Inner.{PassedAgain}
use Rattle.refusals.specs.Refusal.{code}
use Rattle.passes.specs.Inner.{Going, Begun, Between, Whole}
use Rattle.votes.proofs.AnyVote.{spends}
use Rattle.votes.proofs.Loops.{quiet-still, still-quiet, iter-more, changed-few, run-unique}
use Rattle.votes.proofs.Passes.{pass-inv}
use Rattle.votes.specs.Call.{Call}
use Rattle.votes.specs.Inner.{Lawful, quiet}
use Rattle.votes.specs.Passes.{Run, pass, iter, answers_of, run}
use Rattle.votes.specs.Vote.{Vote, fresh, step, run_of}

module _ {X : Vote} (L : Lawful X) (l : List Call) where
  abbrev ans : Call → List ℕ → ℕ
  ans c s = code (X.answer c s)

  -- zeros all over are the fresh state
  pub going-none : (s : List ℕ) {s₁ : List ℕ} → length s ≡ X.width → s₁ ≡ replicate (length s) 0 → Going X l 0 s₁
  unfolding fresh
  going-none s h e =
      let z : _ ≡ fresh X.width = e ∙ ap (λ (k : ℕ). replicate k 0) h in
      record { state = z; sound = subst X.Sound (sym z) L.fresh-sound; each = λ j h q. omega arith }

  going-few : {k : ℕ} {s : List ℕ} → Going X l k s → k ≤ length l
  going-few {k} G = changed-few (step X) alike (spends X L) ans (fresh X.width) L.fresh-sound l k G.each

  passes-sound : (s : List ℕ) → X.Sound s → X.Sound (pass (step X) l s)
  passes-sound s S = pass-inv (step X) alike (spends X L) l s S

  pub going_more : (k : ℕ) {s s₁ out : List ℕ} {changed : Bool} → Going X l k s → Passed X l s changed s₁ out → changed ≡ true →
      Going X l (k + 1) s₁
  going_more k {s} {s₁} G Z e = subst (λ (j : ℕ). Going X l j s₁) (sym (add-one k)) (record {
    state = Z.state ∙ ap (pass (step X) l) G.state ∙ sym (iter-more (step X) l k (fresh X.width));
    sound = subst X.Sound (sym Z.state) (passes-sound s G.sound);
    each = λ j h. ⊎_elim (λ q. last j q) (λ m. G.each j m) (eq-or-lt_of_le (le_of_suc-le-suc h));
  })
    where
      moved : pass (step X) l s ≡ s → ⊥
      moved q =
          clash (still-quiet (step X) alike (spends X L) L.below-antisym l s G.sound q)
          (not-true (quiet (step X) alike l s) (sym Z.flag ∙ e))

      last : (j : ℕ) → j ≡ k → iter (step X) (suc j) l (fresh X.width) ≡ iter (step X) j l (fresh X.width) → ⊥
      last j q w =
          moved (ap (pass (step X) l) G.state ∙ sym (iter-more (step X) l k (fresh X.width))
          ∙ subst (λ (x : ℕ). iter (step X) (suc x) l (fresh X.width) ≡ iter (step X) x l (fresh X.width)) q w ∙ sym G.state)

  pub going_done : (k : ℕ) {s s₁ out : List ℕ} {changed : Bool} → Going X l k s → Passed X l s changed s₁ out → changed ≡ false →
      Whole X l (k + 1) s₁ out
  unfolding run_of
  going_done k {s} {s₁} {out} G Z e = record {
    count = add-one k ∙ sym (ap (λ (r : Run (List ℕ)). r.passes) whole);
    state = Z.state ∙ fixed ∙ G.state ∙ sym (ap (λ (r : Run (List ℕ)). r.state) whole);
    answers = Z.answers ∙ ap (answers_from X l) G.state ∙ sym (ap (λ (r : Run (List ℕ)). r.answers) whole);
  }
    where
      fixed : pass (step X) l s ≡ s
      fixed =
          quiet-still (step X) alike (spends X L) L.below-antisym l s
          (not-false (quiet (step X) alike l s) (sym Z.flag ∙ e))

      whole : run (step X) ans alike (fresh X.width) l
          ≡ record { state = iter (step X) k l (fresh X.width); passes = suc k; answers = answers_of (step X) ans l (iter (step X) k l (fresh X.width)) }
      whole =
          run-unique (step X) alike (spends X L) ans (fresh X.width) L.fresh-sound l k G.each
          (subst (λ (x : List ℕ). pass (step X) l x ≡ x) G.state fixed)

-- the same of a list of bytes, with the calls that wait
module _ {X : Vote} (L : Lawful X) (list : List ℕ) where
  pub begun-between : {s out w w₁ : List ℕ} {count : ℕ} → Begun X list s out w → Listed out 0 (length out) w₁ 0 count → count ≤ length out →
      length w₁ ≡ length w → Between X list 1 s out count w₁
  begun-between B K h e = record {
    going = B.going;
    waiting = record { fits = B.fits; short = B.short; sound = B.going.sound; told = B.told; listed = K; few = omega (arith, h, e, B.room) };
  }

  module _ (k : ℕ) {s out w : List ℕ} {count : ℕ} (B : Between X list k s out count w) where
    pub between-few : k ≤ length out
    between-few = omega (arith, going-few L (calls list) B.going, calls-length list (length out) B.waiting.fits)

    module _ {changed : Bool} {left : ℕ} {s₁ out₁ w₁ : List ℕ} (P : PassedAgain X (calls list) s count changed left s₁ out₁ w₁) where
      pub between_more : length out₁ ≡ length out → length w₁ ≡ length w → changed ≡ true → Between X list (k + 1) s₁ out₁ left w₁
      between_more eo ew e = record {
        going = G;
        waiting = record {
          fits = omega (arith, B.waiting.fits, eo);
          short = omega (arith, B.waiting.short, eo);
          sound = G.sound;
          told = passed-told L list (length out) B.waiting.fits B.waiting.sound P.passed;
          listed = P.listed;
          few = omega (arith, P.fewer, B.waiting.few, ew);
        };
      }
        where
          G : Going X (calls list) (k + 1) s₁
          G = going_more L (calls list) k B.going P.passed e

      pub between_done : changed ≡ false → Whole X (calls list) (k + 1) s₁ out₁
      between_done e = going_done L (calls list) k B.going P.passed e
