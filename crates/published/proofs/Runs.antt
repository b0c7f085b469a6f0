-- The state that a run ends in is sound, and so it is the paper's; and nothing that a public call left is refused with 18.
use Rattle.refusals.specs.Check.{Check}
use Rattle.std.specs.Prelude.{Ok, Err}
use Prim.Native.Nat.{ℕ}
use mathlib.Core.List.{List}
use mathlib.Core.Path.{◌≡◌, refl, sym, ap, subst}
use native.Mathlib.Omega.{arith}
use lib.ListN.{length}
use Rattle.refusals.proofs.First.{or_else-sound}
use Rattle.rules.proofs.Exact.{of-sound}
use Rattle.rules.proofs.SoundLaws.{fresh-sound}
use Rattle.rules.proofs.Steps.{step-sound}
use Rattle.rules.proofs.WorkWays.{table-rests}
use Rattle.rules.specs.Sound.{Sound as SoundState}
use Rattle.rules.specs.State.{width}
use Rattle.rules.specs.Vote.{vote_of}
use Rattle.run.proofs.Public.{is-checked, end-sound}
use Rattle.run.specs.Run.{ran, run_check, the_run, to_ran}
use Rattle.run.specs.Theorems.{Taken, end_state}
use Rattle.sets.proofs.Groups.{set-checked}
use Rattle.sets.specs.Groups.{Groups, sites_of, set_check, questions}
use Rattle.votes.specs.Call.{Call}
use Rattle.votes.specs.Vote.{fresh, step}
use Rattle.voting.specs.Step.{sound_check, step_into}
use Rattle.published.proofs.Voting.{of-state, set-taken, state-taken}
use Rattle.published.specs.Voting.{EndAsPublished, NeverUnsound}

pub end-as-published : EndAsPublished
end-as-published t F list state answers p T = of-state (table-rests t (is-checked T)) (end-sound T)

-- 18 is asked after the table and the set
explained : (t : Groups) (F : ℕ) (s : List ℕ) → set_check t F ≡ Ok tt → SoundState (questions t) (sites_of t) F s → sound_check t F s ≡ Ok tt
unfolding sound_check
explained t F s e S = rw (e, of-sound (questions t) (sites_of t) F s S) refl

into : (t : Groups) (F : ℕ) (c : Call) (s : List ℕ) → sound_check t F s ≡ Ok tt → step_into t F c s ≡ step (vote_of t F) c s
unfolding step_into
into t F c s e = rw e refl

taken-inv : (q : Check) (k p : ℕ) → to_ran q k ≡ Ok p → q ≡ Ok tt
taken-inv (Ok _) k p e = refl
taken-inv (Err r) k p e = let z : ◌≡◌ {A = ℕ} 0 1 = cc in absurd (omega arith)

run-set : (t : Groups) (F : ℕ) (list state answers : List ℕ) (p : ℕ) → Taken t F list state answers p → set_check t F ≡ Ok tt
unfolding ran run_check
run-set t F list state answers p T =
    (or_else-sound (set_check t F) _ (taken-inv (run_check t F (length list) (length state) (length answers)) (the_run t F list).passes p T.took)).0

pub never-unsound : NeverUnsound
never-unsound = (
  λ t F e. explained t F (fresh (width (sites_of t))) e (fresh-sound _ (questions t) (sites_of t) F (table-rests t (set-checked t F e))),
  λ t F c s e.
      let R = table-rests t (set-checked t F (set-taken t F s e)) in
      subst (λ (x : List ℕ). sound_check t F x ≡ Ok tt) (sym (into t F c s e))
      (explained t F _ (set-taken t F s e) (step-sound _ (questions t) (sites_of t) F R c s (state-taken t F s e))),
  λ t F list state answers p T. explained t F _ (run-set t F list state answers p T) (end-sound T),
)
