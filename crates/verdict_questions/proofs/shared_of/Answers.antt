-- `shared_of` meets its contract: 16, or whether all meet, or two that do not.
use mathlib.Core.Path.{sym, ◌∙◌}
use native.Mathlib.Omega.{arith}
use Rattle.questions.proofs.Answers.{shared-large, shared-meet, shared-apart}
use Rattle.sets.specs.Inner.Rows.{rules_of}
use Rattle.shared_sites.proofs.Pairs.{some-beside}
use Rattle.verdict_questions.proofs.shared_of.Goals as goal

pub returns-then-n-gt-MOST : goal.returns-then-n-gt-MOST
returns-then-n-gt-MOST c =
    let a = c.args in shared-large (rules_of a.rows.now).inside a.n c.if-n-gt-MOST.true

pub two_apart-pair-requires : goal.two_apart-pair-requires
two_apart-pair-requires c =
    record { rows = c.requires; n_bound = c.if-n-gt-MOST.false }

pub single-requires : goal.single-requires
single-requires c =
    omega (arith, c.if-n-gt-MOST.false)

pub returns-then-pair-single : goal.returns-then-pair-single
returns-then-pair-single c =
    let a = c.args in shared-meet (rules_of a.rows.now).inside a.n c.if-n-gt-MOST.false (sym c.two_apart-pair.ensures.first ∙ c.if-pair-single.true ∙ c.single.ensures)

pub returns : goal.returns
returns c =
    let a = c.args in let s = (rules_of a.rows.now).inside in
    let p = c.two_apart-pair in shared-apart s a.n _ _ c.if-n-gt-MOST.false c.two_apart-pair.ensures.first (λ e. c.if-pair-single.false (e ∙ sym c.single.ensures))
    (some-beside s _ _ c.two_apart-pair.ensures.first (λ e. c.if-pair-single.false (e ∙ sym c.single.ensures)) c.two_apart-pair.ensures.second)
