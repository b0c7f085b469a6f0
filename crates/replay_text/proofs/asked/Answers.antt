-- `asked` meets its contract: the refusal of the image, or of a set that is not of its sites.
use mathlib.Core.Path.{sym, ◌∙◌}
use Rattle.check_text.proofs.Ways.{few}
use Rattle.refusals.proofs.Passed.{passed_on}
use Rattle.replay_text.proofs.Ways.{asked-refused, asked-read}
use Rattle.replay_text.proofs.asked.Goals as goal

pub check_set-requires : goal.check_set-requires
check_set-requires c =
    few c.args.image.now _ (sym c.read.ensures.answer ∙ c.in_ok-n.was)

pub returns-in_err-n : goal.returns-in_err-n
returns-in_err-n c =
    let a = c.args in passed_on c.from_residual.result c.from_residual.ensures.1
    ∙ asked-refused a.faulty a.image.now _ (sym c.read.ensures.answer ∙ c.in_err-n.was)

pub returns : goal.returns
returns c =
    let a = c.args in c.check_set.ensures ∙ asked-read a.faulty a.image.now _ (sym c.read.ensures.answer ∙ c.in_ok-n.was)
