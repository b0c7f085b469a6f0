-- `blocks_of` meets its contract: 10, 11, or whether it blocks.
use mathlib.Core.Path.{sym, ◌∙◌}
use Rattle.refusals.proofs.Passed.{passed_on}
use Rattle.questions.proofs.Answers.{holds-refused, holds-is, site-refused, site-outside, site-below}
use Rattle.questions.proofs.blocks_of.Goals as goal

pub check_set-requires : goal.check_set-requires
check_set-requires c =
    c.requires.few-sites

pub returns-in_err-check_set : goal.returns-in_err-check_set
returns-in_err-check_set c =
    let a = c.args in passed_on c.from_residual.result c.from_residual.ensures.1 ∙ (holds-refused _ (site-refused a.n a.site (sym c.check_set.ensures ∙ c.in_err-check_set.was)))

pub returns-then-sites-site : goal.returns-then-sites-site
returns-then-sites-site c =
    let a = c.args in holds-refused _ (site-outside a.n a.site (sym c.check_set.ensures ∙ c.in_ok-check_set.was) c.if-sites-site.true)

pub blocks-requires : goal.blocks-requires
blocks-requires c =
    record { rows = c.requires; v_lt_n = c.if-sites-site.false }

pub returns : goal.returns
returns c =
    let a = c.args in holds-is (site-below a.n a.site (sym c.check_set.ensures ∙ c.in_ok-check_set.was) c.if-sites-site.false) c.blocks-2.ensures
