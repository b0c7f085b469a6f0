-- `run_of` meets its contract: the refusal leaves both rooms; else the run stands in front of each.
use Prim.Native.Nat.{ℕ, ◌*◌, ◌/◌, ◌≤◌}
use mathlib.Core.Path.{sym, ap, subst, ◌∙◌}
use native.Mathlib.Omega.{arith}
use lib.ListN.{length}
use lib.Seq.{length-take-le, length_front}
use Rattle.refusals.proofs.Passed.{passed_on}
use Rattle.run.proofs.RunWays.{fits, row-refused, row-passes}
use Rattle.run.proofs.run_of.Goals as goal

pub returns-in_err-check_of : goal.returns-in_err-check_of
returns-in_err-check_of c =
    let a = c.args in let x = row-refused a.rows.now a.n a.faulty a.list.now a.state.now a.answers.now (sym c.check_of.ensures ∙ c.in_err-check_of.was) in
    rw (passed_on c.from_residual.result c.from_residual.ensures.1) (record { answer = x.0; states = x.1; bytes = x.2 })

pub width-size-requires : goal.width-size-requires
width-size-requires c =
    c.requires.few-sites

pub slice_bounds-run_fresh-end : goal.slice_bounds-run_fresh-end
slice_bounds-run_fresh-end c =
    let a = c.args in let f = fits a.n a.faulty (length a.list.now) (length a.state.now) (length a.answers.now)
    (sym c.check_of.ensures ∙ c.in_ok-check_of.was) in
    subst (λ (k : ℕ). k ≤ length a.state.now) (sym c.width-size.ensures) f.states

pub slice_bounds-run_fresh-end-2 : goal.slice_bounds-run_fresh-end-2
slice_bounds-run_fresh-end-2 c =
    sym (length-take-le _ _ ((let a = c.args in let f = fits a.n a.faulty (length a.list.now) (length a.state.now) (length a.answers.now)
    (sym c.check_of.ensures ∙ c.in_ok-check_of.was) in
    subst (λ (k : ℕ). k ≤ length a.state.now) (sym c.width-size.ensures) f.states)))

pub slice_bounds-run_fresh-end-3 : goal.slice_bounds-run_fresh-end-3
slice_bounds-run_fresh-end-3 c =
    let a = c.args in let f = fits a.n a.faulty (length a.list.now) (length a.state.now) (length a.answers.now)
    (sym c.check_of.ensures ∙ c.in_ok-check_of.was) in
    omega (arith, f.many)

pub slice_bounds-run_fresh-end-4 : goal.slice_bounds-run_fresh-end-4
slice_bounds-run_fresh-end-4 c =
    let a = c.args in let f = fits a.n a.faulty (length a.list.now) (length a.state.now) (length a.answers.now)
    (sym c.check_of.ensures ∙ c.in_ok-check_of.was) in
    sym (length-take-le (length a.list.now / 4) a.answers.now f.many)

pub run_fresh-passes-requires : goal.run_fresh-passes-requires
run_fresh-passes-requires c =
    let a = c.args in let f = fits a.n a.faulty (length a.list.now) (length a.state.now) (length a.answers.now)
    (sym c.check_of.ensures ∙ c.in_ok-check_of.was) in
    let e = length-take-le (length a.list.now / 4) a.answers.now f.many in record {
      rows = c.requires;
      state_len = length-take-le _ _ ((let a = c.args in let f = fits a.n a.faulty (length a.list.now) (length a.state.now) (length a.answers.now)
          (sym c.check_of.ensures ∙ c.in_ok-check_of.was) in
          subst (λ (k : ℕ). k ≤ length a.state.now) (sym c.width-size.ensures) f.states)) ∙ c.width-size.ensures;
      list_len = f.four ∙ ap (λ (k : ℕ). 4 * k) (sym e);
      answers_len_bound = subst (λ (k : ℕ). k ≤ 4096) (sym e) f.few;
    }

pub shape_of-state : goal.shape_of-state
shape_of-state c =
    let a = c.args in length_front a.state.now c.run_fresh-passes.new.state c.width-size.result c.run_fresh-passes.auto.state

pub shape_of-answers : goal.shape_of-answers
shape_of-answers c =
    let a = c.args in length_front a.answers.now c.run_fresh-passes.new.answers (length a.list.now / 4) c.run_fresh-passes.auto.answers

pub returns : goal.returns
returns c =
    let a = c.args in let x = row-passes a.rows.now a.n a.faulty a.list.now a.state.now a.answers.now c.width-size.ensures (sym c.check_of.ensures ∙ c.in_ok-check_of.was)
    c.run_fresh-passes.ensures in record { answer = x.0; states = x.1; bytes = x.2 }
