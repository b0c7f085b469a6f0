-- `quorum_of` meets its contract: 10, or whether it is a quorum.
use mathlib.Core.Path.{sym, ◌∙◌}
use Rattle.refusals.proofs.Passed.{passed_on}
use Rattle.questions.proofs.Answers.{holds-refused, holds-is}
use Rattle.questions.proofs.quorum_of.Goals as goal

pub check_set-requires : goal.check_set-requires
check_set-requires c =
    c.requires.few-sites

pub returns-in_err-check_set : goal.returns-in_err-check_set
returns-in_err-check_set c =
    passed_on c.from_residual.result c.from_residual.ensures.1 ∙ (holds-refused _ (sym c.check_set.ensures ∙ c.in_err-check_set.was))

pub returns : goal.returns
returns c =
    holds-is (sym c.check_set.ensures ∙ c.in_ok-check_set.was) c.is_quorum.ensures
