-- `intact_of` meets its contract: 10, 16, or the intact sites.
use mathlib.Core.Path.{sym, ◌∙◌}
use Rattle.refusals.proofs.Passed.{passed_on}
use Rattle.questions.proofs.Answers.{standing-refused, standing-large, standing-is}
use Rattle.verdict_questions.proofs.intact_of.Goals as goal

pub check_set-requires : goal.check_set-requires
check_set-requires c =
    c.requires.few-sites

pub returns-in_err-check_set : goal.returns-in_err-check_set
returns-in_err-check_set c =
    passed_on c.from_residual.result c.from_residual.ensures.1 ∙ (standing-refused c.args.n _ (sym c.check_set.ensures ∙ c.in_err-check_set.was))

pub returns-then-n-gt-MOST : goal.returns-then-n-gt-MOST
returns-then-n-gt-MOST c =
    standing-large c.args.n _ (sym c.check_set.ensures ∙ c.in_ok-check_set.was) c.if-n-gt-MOST.true

pub intact-requires : goal.intact-requires
intact-requires c =
    record { rows = c.requires; n_bound = c.if-n-gt-MOST.false }

pub returns : goal.returns
returns c =
    standing-is c.args.n _ (sym c.check_set.ensures ∙ c.in_ok-check_set.was) c.if-n-gt-MOST.false
    c.intact.ensures
