-- `judge` meets its contract: the refusal, or the seven lines.
use mathlib.Core.Path.{◌≡◌, sym, ap, ◌∙◌}
use native.Mathlib.Omega.{arith}
use Rattle.lines.proofs.Chain.{as-text}
use Rattle.masks.specs.Mask.{minus}
use Rattle.sets.specs.Groups.{lists, sites_of}
use Rattle.judged_text.proofs.Ways.{judged-refused, others-taken, judged-is}
use Rattle.judged_text.specs.Inner.{met}
use Rattle.judged_text.proofs.judge.Goals as goal

pub returns-in-Err : goal.returns-in-Err
returns-in-Err c =
    as-text (judged-refused (lists c.args.table.now) c.args.faulty _ (sym c.in-Err.is ∙ c.intact-standing.ensures))
    c.put_refused.ensures

pub returns-in-Err-greatest : goal.returns-in-Err-greatest
returns-in-Err-greatest c =
    let n : c.args.sites ≡ sites_of (lists c.args.table.now) = omega arith in
    let others = c.minus-others.ensures ∙ ap (λ x. minus x c.args.faulty) c.all_below.ensures in
    absurd
    (others-taken (lists c.args.table.now) c.args.faulty _ (sym c.in-Ok.is ∙ c.intact-standing.ensures) c.args.sites _ n others _
    (sym c.in-Err-greatest.is ∙ c.largest-greatest.ensures))

pub returns-in-Ok-greatest : goal.returns-in-Ok-greatest
returns-in-Ok-greatest c =
    let n : c.args.sites ≡ sites_of (lists c.args.table.now) = omega arith in
    let others = c.minus-others.ensures ∙ ap (λ x. minus x c.args.faulty) c.all_below.ensures in
    as-text
    (judged-is (lists c.args.table.now) c.args.faulty _ (sym c.in-Ok.is ∙ c.intact-standing.ensures) c.args.sites _ n others
    c.in-Ok-greatest.left.set c.in-Ok-greatest.left.rounds _
    (sym c.in-Ok-greatest.is ∙ c.largest-greatest.ensures) (c.meets.ensures ∙ ap met c.shared-shared.ensures))
    c.put_verdict.ensures
