-- The theorems of the public run: what it leaves in its rooms is the run of the list, so what is true of the one is true of the other.
use Rattle.refusals.specs.Check.{Check}
use Rattle.std.specs.Prelude.{Ok, Err}
use Prim.Native.Nat.{ℕ, suc, ◌/◌, ◌≤◌, ◌<◌}
use mathlib.Core.List.{List}
use mathlib.Core.Path.{◌≡◌, refl, sym, ap, subst, ◌∙◌}
use native.Mathlib.Omega.{arith}
use lib.ListN.{length, get_or, drop}
use lib.Seq.{take_at}
use Rattle.pass.proofs.Calls.{calls_at, calls-length}
use Rattle.pass.proofs.Lawful.{table-vote}
use Rattle.pass.proofs.Turns.{length-answers}
use Rattle.pass.specs.Calls.{calls, call_at}
use Rattle.rules.specs.Sound.{Sound as SoundState}
use Rattle.rules.specs.State.{width}
use Rattle.rules.specs.Vote.{vote_of}
use Rattle.run.proofs.RunWays.{Fits, run-checked, run_fits}
use Rattle.run.specs.Run.{run_check, the_run, to_ran, ran, state_into, answers_into}
use Rattle.run.specs.Theorems.{Taken, end_state, end_answers, OrderFree, FewPasses, TheRun, FewerBelow}
use Rattle.sets.specs.Groups.{Groups, sites_of, Checked, questions}
use Rattle.votes.proofs.AnyVote.{is-run, order-free, few-passes, fewer-below}
use Rattle.votes.specs.Call.{Call}
use Rattle.votes.specs.Inner.{Lawful}
use Rattle.votes.specs.Theorems.{IsRun}
use Rattle.votes.specs.Vote.{Vote}

taken-inv : (q : Check) (k p : ℕ) → to_ran q k ≡ Ok p → (q ≡ Ok tt) × (k ≡ p)
taken-inv (Ok _) k p e = (refl, cc)
taken-inv (Err r) k p e = let z : ◌≡◌ {A = ℕ} 0 1 = cc in absurd (omega arith)

-- what a taken run has shown of its table and its list
module _ {t : Groups} {F : ℕ} {list state answers : List ℕ} {p : ℕ} (T : Taken t F list state answers p) where
  abbrev X : Vote
  X = vote_of t F

  checks : (run_check t F (length list) (length state) (length answers) ≡ Ok tt) × ((the_run t F list).passes ≡ p)
  unfolding ran
  checks = taken-inv (run_check t F (length list) (length state) (length answers)) (the_run t F list).passes p T.took

  pub is-checked : Checked t
  is-checked = run-checked t F (length list) (length state) (length answers) checks.0

  pub fit : Fits (sites_of t) (length list) (length state) (length answers)
  fit = run_fits t F (length list) (length state) (length answers) checks.0

  law : Lawful X
  law = table-vote t is-checked F

  call-count : length (calls list) ≡ length list / 4
  call-count = calls-length list (length list / 4) fit.four

  -- the front of the state room is the state of the run, the front of the answer room its answers
  pub state-is-run : end_state t F list state p ≡ (the_run t F list).state
  unfolding state_into
  state-is-run =
      take_at (the_run t F list).state (drop (width (sites_of t)) state) (width (sites_of t))
      (law.long (the_run t F list).state (is-run X law (calls list)).1)

  -- a run ends in a sound state
  pub end-sound : SoundState (questions t) (sites_of t) F (end_state t F list state p)
  end-sound = subst (SoundState (questions t) (sites_of t) F) (sym state-is-run) (is-run X law (calls list)).1

  answers-are-run : end_answers t F list answers p ≡ (the_run t F list).answers
  unfolding answers_into
  answers-are-run =
      take_at (the_run t F list).answers (drop (length list / 4) answers) (length list / 4)
      (ap length (is-run X law (calls list)).0.last-answers ∙ length-answers X (calls list) (the_run t F list).state ∙ call-count)

  pub passes-are-run : (the_run t F list).passes ≡ p
  passes-are-run = checks.1

  at_call : (i : ℕ) (d : Call) → i < length list / 4 → get_or (calls list) i d ≡ call_at list i
  at_call i d h = calls_at list i d (omega (arith, fit.four))

pub few : FewPasses
few t F list state answers p T =
    subst (λ (k : ℕ). k ≤ suc (length list / 4)) (passes-are-run T)
    (subst (λ (k : ℕ). (the_run t F list).passes ≤ suc k) (call-count T) (few-passes (X T) (law T) (calls list)))

pub any_order : OrderFree
any_order t F a state_a answers_a p b state_b answers_b q A B o w =
    let same = order-free (X A) (law A) (calls a) (calls b) o w in (
      state-is-run A ∙ same.0 ∙ sym (state-is-run B),
      λ i j hi hj e.
          let d : Call = call_at a i in
          ap (λ (l : List ℕ). get_or l i 0) (answers-are-run A)
          ∙ same.1 d i j (rw (call-count A) hi) (rw (call-count B) hj) (at_call A i d hi ∙ e ∙ sym (at_call B j d hj))
          ∙ sym (ap (λ (l : List ℕ). get_or l j 0) (answers-are-run B)),
    )

pub fewer : FewerBelow
fewer t F a state_a answers_a p b state_b answers_b q A B o w =
    rw (state-is-run A, state-is-run B) (fewer-below (X A) (law A) (calls a) (calls b) o w)

pub the-run : TheRun
the-run t F list state answers p T =
    subst (IsRun (X T) (calls list))
    (λ i. record { state = sym (state-is-run T) i; passes = passes-are-run T i; answers = sym (answers-are-run T) i })
    (is-run (X T) (law T) (calls list)).0
