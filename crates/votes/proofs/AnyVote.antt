-- Demand 3 of any lawful vote: its run is one of those that end, and that rise where no correct site is proposed both sides.
use Prim.Native.Nat.{ℕ, suc, ◌<◌}
use mathlib.Core.List.Memᴰ
use mathlib.Core.List.{List, Memᴰ}
use mathlib.Core.Path.{◌≡◌, sym, ap, ◌∙◌}
use native.Mathlib.Decide.{dec_lt}
use native.Mathlib.Omega.{arith}
use Rattle.ground.proofs.Alike.{alike-eq, alike_refl}
use Rattle.ground.specs.Alike.{alike}
use Rattle.refusals.specs.Refusal.{code}
use Rattle.votes.proofs.Loops.{iter-more}
use Rattle.votes.proofs.Passes as Passes
use Rattle.votes.proofs.Passes.{Spends, Rises, Ends, run_ends, run-same-state, run-same-answers, run-below, run-bound}
use Rattle.votes.specs.Call.{Call, propose}
use Rattle.votes.specs.Inner.{Lawful}
use Rattle.votes.specs.Passes.{Run, pass, iter, answers_of}
use Rattle.votes.specs.Theorems.{IsRun, OnlyRun, VoteIsRun, VoteOrderFree, VoteFewPasses, VoteFewerBelow}
use Rattle.votes.specs.Vote.{Vote, fresh, step, run_of, OneSided}

-- a straight proposal of c is the call that proposes its side to its site
is-propose : (c : Call) → c.kind ≡ 0 → c.from ≡ c.to → propose c.to c.side ≡ c
is-propose c k f i = record { kind = sym k i; from = sym f i; to = c.to; side = c.side }

module _ (X : Vote) (L : Lawful X) where
  -- a step only adds, keeps a state sound, and a call once heard is spent
  abbrev pub spends : Spends (step X) alike
  spends = record {
    Le = X.Below;
    le_refl = L.below-refl;
    le_trans = L.below-trans;
    same-eq = alike-eq;
    same_refl = alike_refl;
    Inv = X.Sound;
    up = L.adds;
    inv-step = L.keeps;
    done = L.heard;
    done-up = L.heard-grows;
    done-still = L.heard-still;
    change-done = L.still-or-heard;
  }

  rises : (l : List Call) → OneSided X l → Rises (step X) X.Below l (fresh X.width)
  rises l o =
      let May : ℕ → ℕ → Type 0 = λ v side. Memᴰ (propose v side) l in
      record {
        P = L.Made May;
        at-fresh = L.made-fresh May;
        at-step = λ c m. L.made-step May c (λ k f. Memᴰ.cast (is-propose c k f) m);
        mono = λ c m. L.mono May o c (λ k f. Memᴰ.cast (is-propose c k f) m);
      }

  ends : (l : List Call) → Ends (step X) alike spends (λ c s. code (X.answer c s)) l (fresh X.width) (run_of X l)
  unfolding run_of
  ends l = run_ends (step X) alike spends (λ c s. code (X.answer c s)) (fresh X.width) L.fresh-sound l

pub is-run : VoteIsRun
is-run X L l =
    let E = ends X L l in (
      record {
        changing = E.changing;
        passes-is = E.passes-is;
        state-is = E.state-is;
        each-changed = E.each-changed;
        last-still = E.fixed;
        last-answers = E.last-answers;
      },
      E.inv,
    )

-- what the fresh state has and each call of the list keeps, its run ends with
pub run-keeps : (X : Vote) → Lawful X → (l : List Call) (P : List ℕ → Type 0) → ((c : Call) → Memᴰ c l → (s : List ℕ) → P s → P (step X c s)) →
    P (fresh X.width) → P (run_of X l).state
unfolding run_of
run-keeps X L l P =
    Passes.run-keeps (step X) alike (spends X L) L.below-antisym (fresh X.width) L.fresh-least L.fresh-sound (λ c s. code (X.answer c s)) l P

-- a sound state that a pass leaves as it was, each call of the list leaves so
pub pass-each : (X : Vote) → Lawful X → (l : List Call) (s : List ℕ) → X.Sound s → pass (step X) l s ≡ s → (c : Call) → Memᴰ c l → step X c s ≡ s
pass-each X L = Passes.fixed-each (step X) alike (spends X L) L.below-antisym (fresh X.width) L.fresh-least L.fresh-sound

pub order-free : VoteOrderFree
unfolding run_of
order-free X L a b o w = (
  run-same-state (step X) alike (spends X L) L.below-antisym (fresh X.width) L.fresh-least L.fresh-sound (λ c s. code (X.answer c s)) a b (rises X L a o)
      w.0 w.1,
  run-same-answers (step X) alike (spends X L) L.below-antisym (fresh X.width) L.fresh-least L.fresh-sound (λ c s. code (X.answer c s)) a b
      (rises X L a o) w.0 w.1,
)

pub few-passes : VoteFewPasses
unfolding run_of
few-passes X L l = run-bound (step X) alike (spends X L) (λ c s. code (X.answer c s)) (fresh X.width) L.fresh-sound l

pub fewer-below : VoteFewerBelow
unfolding run_of
fewer-below X L a b o w =
    run-below (step X) alike (spends X L) L.below-antisym (fresh X.width) L.fresh-least L.fresh-sound (λ c s. code (X.answer c s)) a b (rises X L a o) w

-- Only one outcome is a run: of two, neither has more changing passes, since the other stood still there.
module _ {X : Vote} {l : List Call} where
  no-fewer : {r s : Run (List ℕ)} (A : IsRun X l r) (B : IsRun X l s) → B.changing < A.changing → ⊥
  no-fewer A B h =
      A.each-changed B.changing h
      (iter-more (step X) l B.changing (fresh X.width) ∙ ap (pass (step X) l) (sym B.state-is) ∙ B.last-still ∙ B.state-is)

  same-changing : {r s : Run (List ℕ)} (A : IsRun X l r) (B : IsRun X l s) → A.changing ≡ B.changing
  same-changing A B = elim (dec_lt B.changing A.changing) [
    | yes h ↦ absurd (no-fewer A B h)
    | no h ↦ elim (dec_lt A.changing B.changing) [ yes k ↦ absurd (no-fewer B A k) | no k ↦ omega arith ]
  ]

pub only-run : OnlyRun
only-run X l r s A B =
    let e = same-changing A B in
    let states : r.state ≡ s.state = A.state-is ∙ ap (λ (k : ℕ). iter (step X) k l (fresh X.width)) e ∙ sym B.state-is in
    let counts : r.passes ≡ s.passes = A.passes-is ∙ ap suc e ∙ sym B.passes-is in
    let bytes : r.answers ≡ s.answers =
    A.last-answers ∙ ap (answers_of (step X) (λ c s. code (X.answer c s)) l) states ∙ sym B.last-answers in
    λ i. record { state = states i; passes = counts i; answers = bytes i }
