-- Both forms give equal answers when one is the list of smallest slices of the other.
use Rattle.refusals.specs.Check.{Answer, Check}
use Prim.Native.Nat.{ℕ, ◌/◌, ◌<◌}
use mathlib.Core.List.{List}
use mathlib.Core.Path.{◌≡◌, refl, sym, ap, ap₂, subst}
use lib.ListN.{length}
use Rattle.equal_answers.specs.Equal.{Smallest, SmallestOf, EqualAnswers, FormsEqual}
use Rattle.equal_answers.proofs.Smallest.{tests-alike}
use Rattle.questions.specs.Answers.{quorum, largest, set_site_check, blocks, shared, intact}
use Rattle.pass.specs.Calls.{calls}
use Rattle.rules.specs.State.{width}
use Rattle.rules.specs.Vote.{vote}
use Rattle.run.specs.Run.{run_check, the_run, to_ran, ran, front, state_into, answers_into}
use Rattle.sets.proofs.Groups.{lawful, slice-site}
use Rattle.sets.specs.Forms.{LawfulSlices}
use Rattle.sets.specs.Groups.{Groups, sites_of, fbqs_in, slices_in, Checked, set_check, questions}
use Rattle.sets.specs.Promises.{Questions, questions_of}
use Rattle.votes.specs.Passes.{Run}
use Rattle.votes.specs.Vote.{run_of}
use Rattle.voting.specs.Step.{sound_check, step_check, step_into}

module _ (g h : Groups) (c : Checked g) (d : Checked h) (e : SmallestOf g h) where
  tests : slices_in g ≡ slices_in h
  tests =
      tests-alike (lawful g c) (subst (LawfulSlices (fbqs_in h) (slices_in h)) (sym e.same-sites) (lawful h d))
      (λ v q s. (e.slices v q (subst (λ (n : ℕ). v < n) e.same-sites (slice-site g c v q s))).0 s)
      (λ v q s. (e.slices v q (slice-site h d v q s.slice)).1 s)

  same-questions : questions g ≡ questions h
  same-questions = ap₂ questions_of tests e.same-sites

  same-run : (F : ℕ) (list : List ℕ) → the_run g F list ≡ the_run h F list
  same-run F list = ap₂ (λ (Q : Questions) (n : ℕ). run_of (vote Q n F) (calls list)) same-questions e.same-sites

  same_check : (F bytes state answers : ℕ) → run_check g F bytes state answers ≡ run_check h F bytes state answers
  unfolding run_check set_check
  same_check F bytes state answers = rw (c, d, e.same-sites) refl

  same-ran : (F : ℕ) (list : List ℕ) (state answers : ℕ) → ran g F list state answers ≡ ran h F list state answers
  unfolding ran
  same-ran F list state answers =
      ap₂ (λ (q : Check) (x : Run (List ℕ)). to_ran q x.passes) (same_check F (length list) state answers) (same-run F list)

  same-state : (r : Answer ℕ) (F : ℕ) (list room : List ℕ) → state_into r g F list room ≡ state_into r h F list room
  unfolding state_into
  same-state r F list room = ap₂ (λ (x : Run (List ℕ)) (n : ℕ). front r x.state (width n) room) (same-run F list) e.same-sites

  same-answers : (r : Answer ℕ) (F : ℕ) (list room : List ℕ) → answers_into r g F list room ≡ answers_into r h F list room
  unfolding answers_into
  same-answers r F list room = ap (λ (x : Run (List ℕ)). front r x.answers (length list / 4) room) (same-run F list)

  equal : EqualAnswers g h
  unfolding quorum largest set_site_check blocks shared intact set_check sound_check step_check step_into
  equal =
      record {
        quorums = λ set. rw (c, d, tests, e.same-sites) refl;
        largests = λ set. rw (c, d, tests, e.same-sites) refl;
        blockings = λ set site. rw (c, d, tests, e.same-sites) refl;
        sharings = rw (c, d, tests, e.same-sites) refl;
        standings = λ F. rw (c, d, tests, e.same-sites) refl;
        soundnesses = λ F s. rw (c, d, tests, e.same-sites) refl;
        steps = λ F k s. rw (c, d, tests, e.same-sites) refl;
        states = λ F k s. rw (c, d, tests, e.same-sites) refl;
        runs = same-ran;
        run-states = same-state;
        run-answers = same-answers;
      }

pub forms-equal : FormsEqual
forms-equal g h c d e = equal g h c d e
