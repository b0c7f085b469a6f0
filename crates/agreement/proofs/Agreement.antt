-- The union's promise, of the public step and of the public run.
use Rattle.refusals.specs.Check.{Check}
use Rattle.std.specs.Prelude.{Ok, Err}
use Prim.Native.Nat.{ℕ}
use mathlib.Core.List.{List, [], ◌∷◌}
use mathlib.Core.Path.{◌≡◌, refl, sym, subst}
use Rattle.agreement.proofs.Backed.{Good, good-fresh, good-step, good-agreed}
use Rattle.agreement.specs.Agreement.{Premises, Agreed, steps_into, StepsAgree, RunAgrees}
use Rattle.pass.proofs.Lawful.{table-vote}
use Rattle.pass.specs.Calls.{calls}
use Rattle.refusals.specs.declared.Refusal.{Refusal}
use Rattle.rules.proofs.State.{fresh-none}
use Rattle.rules.proofs.WorkWays.{table-rests}
use Rattle.rules.specs.State.{confirmed, width}
use Rattle.rules.specs.Theorems.{Rests}
use Rattle.rules.specs.Vote.{vote_of}
use Rattle.run.proofs.Public.{is-checked, state-is-run}
use Rattle.sets.proofs.Groups.{set-checked}
use Rattle.sets.specs.Groups.{Groups, sites_of, fbqs_in, Checked, set_check, questions}
use Rattle.votes.proofs.AnyVote.{run-keeps}
use Rattle.votes.specs.Call.{Call}
use Rattle.votes.specs.Vote.{step, if_taken, fresh, run_of}
use Rattle.voting.specs.Step.{sound_check, step_into}

-- of the run of a checked table
pub table-agrees : (t : Groups) → Checked t → (F : ℕ) → Premises (fbqs_in t) F → (l : List Call) → Agreed (sites_of t) F (run_of (vote_of t F) l).state
table-agrees t c F P l =
    let R = table-rests t c in
    good-agreed R F P (run-keeps (vote_of t F) (table-vote t c F) l (Good R F P) (λ d m. good-step R F P d) (good-fresh R F P))

pub run-agrees : RunAgrees
run-agrees t F list state answers p T P =
    subst (Agreed (sites_of t) F) (sym (state-is-run T)) (table-agrees t (is-checked T) F P (calls list))

fresh-agreed : (n F : ℕ) → Agreed n F (fresh (width n))
fresh-agreed n F = record { no-two = λ v w f k h. absurd (fresh-none n (confirmed n 0) h); none_both = λ v f h. absurd (fresh-none n (confirmed n 0) h) }

module _ (t : Groups) (F : ℕ) (P : Premises (fbqs_in t) F) where
  abbrev n : ℕ
  n = sites_of t

  -- the public step leaves what the step of the rules leaves, or the state as it was
  module _ (e : set_check t F ≡ Ok tt) where
    R : Rests (λ v. fbqs_in t) (questions t) n
    R = table-rests t (set-checked t F e)

    into-good : (c : Call) (s : List ℕ) → Good R F P s → Good R F P (step_into t F c s)
    unfolding step_into
    into-good c s g = go (sound_check t F s)
      where
        go : (q : Check) → Good R F P (if_taken q (step (vote_of t F) c s) s)
        go (Ok _) = good-step R F P c s g
        go (Err r) = g

    steps-good : (l : List Call) (s : List ℕ) → Good R F P s → Good R F P (steps_into t F l s)
    steps-good [] s g = g
    steps-good (c ∷ l) s g = steps-good l (step_into t F c s) (into-good c s g)

    steps-checked : (l : List Call) → Agreed n F (steps_into t F l (fresh (width n)))
    steps-checked l = good-agreed R F P (steps-good l (fresh (width n)) (good-fresh R F P))

  -- a table or a faulty set that is refused leaves each state as it was
  into-refused : {r : Refusal} → set_check t F ≡ Err r → (c : Call) (s : List ℕ) → step_into t F c s ≡ s
  unfolding step_into sound_check
  into-refused e c s = rw e refl

  steps-refused : {r : Refusal} → set_check t F ≡ Err r → (l : List Call) (s : List ℕ) → steps_into t F l s ≡ s
  steps-refused e [] s = refl
  steps-refused e (c ∷ l) s = subst (λ (x : List ℕ). steps_into t F l x ≡ s) (sym (into-refused e c s)) (steps-refused e l s)

  either : (q : Check) → set_check t F ≡ q → (l : List Call) → Agreed n F (steps_into t F l (fresh (width n)))
  either (Ok _) e l = steps-checked e l
  either (Err r) e l = subst (Agreed n F) (sym (steps-refused e l (fresh (width n)))) (fresh-agreed n F)

pub steps-agree : StepsAgree
steps-agree t F l P = either t F P (set_check t F) refl l
