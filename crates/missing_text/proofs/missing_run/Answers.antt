-- `missing_run` meets its contract: the refusal of the run, or the lines from the masks that it leaves.
use mathlib.Core.Path.{◌≡◌, refl, sym, ap, ◌∙◌}
use native.Mathlib.Omega.{arith}
use lib.ListN.{get_or}
use Rattle.judged_text.specs.Inner.{met}
use Rattle.lines.proofs.Chain.{as-text}
use Rattle.missing_text.proofs.Ways.{few-sites, run-refused, lacking-is}
use Rattle.run.specs.Run.{state_into}
use Rattle.sets.specs.Groups.{lists, sites_of}
use Rattle.missing_text.proofs.missing_run.Goals as goal

pub accepted-requires : goal.accepted-requires
accepted-requires c =
    let a = c.args in record { n_bound = omega (arith, few-sites a.table.now a.faulty a.n a.intact c.requires.table_len c.requires.intact_value); side_bound = omega arith }

pub bounds-state-accepted : goal.bounds-state-accepted
bounds-state-accepted c =
    let a = c.args in omega (arith, c.accepted.ensures, few-sites a.table.now a.faulty a.n a.intact c.requires.table_len c.requires.intact_value)

pub accepted-requires-in-Ok : goal.accepted-requires-in-Ok
accepted-requires-in-Ok c =
    let a = c.args in record { n_bound = omega (arith, few-sites a.table.now a.faulty a.n a.intact c.requires.table_len c.requires.intact_value); side_bound = omega arith }

pub bounds-state-accepted-in-Ok : goal.bounds-state-accepted-in-Ok
bounds-state-accepted-in-Ok c =
    let a = c.args in omega (arith, c.accepted-in-Ok.ensures, few-sites a.table.now a.faulty a.n a.intact c.requires.table_len c.requires.intact_value)

pub overflow_cast-n : goal.overflow_cast-n
overflow_cast-n c =
    let a = c.args in record { fits = omega (arith, few-sites a.table.now a.faulty a.n a.intact c.requires.table_len c.requires.intact_value) }

pub put_lacking-requires : goal.put_lacking-requires
put_lacking-requires c =
    let a = c.args in record { n_bound = omega (arith, few-sites a.table.now a.faulty a.n a.intact c.requires.table_len c.requires.intact_value); in_bounds = omega arith }

pub returns-in-Err : goal.returns-in-Err
returns-in-Err c =
    let a = c.args in as-text (run-refused (lists a.table.now) a.faulty a.list.now a.intact c.requires.intact_value _ (sym c.in-Err.is ∙ c.run-ran.ensures.answer)) c.put_explained.ensures

pub returns-in-Ok : goal.returns-in-Ok
returns-in-Ok c =
    let r = c.run-ran in let a = c.args in let e = c.in-Ok.is in let n : a.n ≡ sites_of (lists a.table.now) = omega (arith, c.requires.table_len) in
    as-text
    (lacking-is (lists a.table.now) a.faulty a.list.now a.intact c.requires.intact_value _ (sym e ∙ c.run-ran.ensures.answer) _ _ refl c.run-ran.auto.state
    (c.run-ran.ensures.states ∙ ap (λ x. state_into x (lists a.table.now) a.faulty a.list.now _) e) a.n _ _ _ n
    (c.meets-meet.ensures ∙ ap met c.shared.ensures)
    (ap (λ i. get_or c.run-ran.new.state i 0) c.accepted.ensures)
    (ap (λ i. get_or c.run-ran.new.state i 0) c.accepted-in-Ok.ensures))
    c.put_lacking.ensures
