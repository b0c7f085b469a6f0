-- `largest_of` meets its contract: 10, or the set and its rounds.
use mathlib.Core.Path.{sym, ◌∙◌}
use Rattle.refusals.proofs.Passed.{passed_on}
use Rattle.questions.proofs.Answers.{greatest-refused, greatest-set}
use Rattle.questions.proofs.largest_of.Goals as goal

pub check_set-requires : goal.check_set-requires
check_set-requires c =
    c.requires.few-sites

pub returns-in_err-check_set : goal.returns-in_err-check_set
returns-in_err-check_set c =
    passed_on c.from_residual.result c.from_residual.ensures.1 ∙ (greatest-refused _ _ (sym c.check_set.ensures ∙ c.in_err-check_set.was))

pub returns : goal.returns
returns c =
    greatest-set (sym c.check_set.ensures ∙ c.in_ok-check_set.was) c.largest.ensures.0 c.largest.ensures.1
