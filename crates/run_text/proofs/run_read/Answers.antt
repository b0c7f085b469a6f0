-- `run_read` meets its contract: the refusal, or the lines of the run that stands in front of the two rooms.
use Prim.Native.Nat.{◌*◌, ◌/◌, ◌≤◌}
use mathlib.Core.Path.{◌≡◌, refl, sym, ap, ◌∙◌}
use native.Mathlib.Omega.{arith}
use lib.ListN.{length, take}
use lib.Seq.{length-take-le}
use borrow.Author.Rules.{rules}
use Rattle.lines.proofs.Chain.{as-text}
use Rattle.run_text.proofs.Ended.{ran-refused, fitting, ran-ended}
use Rattle.run.specs.Run.{state_into, answers_into}
use Rattle.sets.specs.Groups.{lists, sites_of}
use Rattle.run_text.proofs.run_read.Goals as goal

pub slice_bounds-state-end : goal.slice_bounds-state-end
slice_bounds-state-end c =
    omega (arith, c.width-end.ensures, c.requires.n_bound)

pub slice_bounds-put_run-end : goal.slice_bounds-put_run-end
slice_bounds-put_run-end c =
    sym (length-take-le _ _ ((omega (arith, c.width-end.ensures, c.requires.n_bound))))

pub slice_bounds-answers-end : goal.slice_bounds-answers-end
slice_bounds-answers-end c =
    let a = c.args in omega (arith, (fitting (lists a.table.now) a.faulty a.list.now _ (sym c.in-Ok.is ∙ c.run-ran.ensures.answer)).many, c.run-ran.auto.answers)

pub slice_bounds-put_run-end-in-Ok : goal.slice_bounds-put_run-end-in-Ok
slice_bounds-put_run-end-in-Ok c =
    sym (length-take-le _ _ ((let a = c.args in omega (arith, (fitting (lists a.table.now) a.faulty a.list.now _ (sym c.in-Ok.is ∙ c.run-ran.ensures.answer)).many, c.run-ran.auto.answers))))

pub put_run-requires : goal.put_run-requires
put_run-requires c =
    let a = c.args in let r = c.run-ran in let f = fitting (lists a.table.now) a.faulty a.list.now _ (sym c.in-Ok.is ∙ c.run-ran.ensures.answer) in
    let l = length-take-le (length a.list.now / 4) c.run-ran.new.answers
    ((let a = c.args in omega (arith, (fitting (lists a.table.now) a.faulty a.list.now _ (sym c.in-Ok.is ∙ c.run-ran.ensures.answer)).many, c.run-ran.auto.answers))) in
    let few : length (take (length a.list.now / 4) c.run-ran.new.answers) ≤ 4096 = omega (arith, l, f.few) in
    let each : 4 * length (take (length a.list.now / 4) c.run-ran.new.answers) ≤ length a.list.now = omega (arith, l) in record {
      in_bounds = search rules;
      state_len = length-take-le _ _ ((omega (arith, c.width-end.ensures, c.requires.n_bound))) ∙ c.width-end.ensures;
      n_bound = c.requires.n_bound;
      answers_len_bound =
          few;
      answers_in_bounds = each;
    }

pub returns-in-Err : goal.returns-in-Err
returns-in-Err c =
    let a = c.args in as-text (ran-refused (lists a.table.now) a.faulty a.list.now _ (sym c.in-Err.is ∙ c.run-ran.ensures.answer)) c.put_explained.ensures

pub returns-in-Ok : goal.returns-in-Ok
returns-in-Ok c =
    let a = c.args in let r = c.run-ran in let g = c.in-Ok.is in let n : a.n ≡ sites_of (lists a.table.now) = omega (arith, c.requires.table_len) in
    as-text
    (ran-ended (lists a.table.now) a.faulty a.list.now _ (sym g ∙ c.run-ran.ensures.answer) a.n _ _ _ _ _ _ n c.whole-whole.ensures c.width-end.ensures refl refl c.run-ran.auto.state
    c.run-ran.auto.answers
    (c.run-ran.ensures.states ∙ ap (λ x. state_into x (lists a.table.now) a.faulty a.list.now _) g)
    (c.run-ran.ensures.bytes ∙ ap (λ x. answers_into x (lists a.table.now) a.faulty a.list.now _) g))
    c.put_run.ensures
