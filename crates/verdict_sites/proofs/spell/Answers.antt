-- `spell` meets its contract: what the questions answer, and nothing where one is refused.
use mathlib.Core.Path.{◌≡◌, sym, ap, ◌∙◌}
use native.Mathlib.Omega.{arith}
use Rattle.lines.proofs.Chain.{as-text}
use Rattle.masks.specs.Mask.{minus}
use Rattle.sets.specs.Groups.{lists, sites_of}
use Rattle.verdict_sites.proofs.Ways.{nothing, judged-by, judged-none}
use Rattle.verdict_sites.proofs.spell.Goals as goal

pub returns-in-Err : goal.returns-in-Err
returns-in-Err c =
    let a = c.args in as-text (judged-none (lists a.table.now) a.faulty _ (sym c.in-Err.is ∙ c.intact-standing.ensures)) (nothing _ _ (omega arith))

pub returns-in-Err-greatest : goal.returns-in-Err-greatest
returns-in-Err-greatest c =
    let a = c.args in let n : a.sites ≡ sites_of (lists a.table.now) = omega arith in
    let o = c.minus-others.ensures ∙ ap (λ x. minus x a.faulty) c.all_below.ensures in
    as-text
    (judged-by (lists a.table.now) a.faulty n o (sym c.in-Ok.is ∙ c.intact-standing.ensures)
    (sym c.in-Err-greatest.is ∙ c.largest-greatest.ensures) c.shared-shared.ensures)
    (nothing _ _ (omega arith))

pub returns-in-Ok-greatest : goal.returns-in-Ok-greatest
returns-in-Ok-greatest c =
    let a = c.args in let n : a.sites ≡ sites_of (lists a.table.now) = omega arith in
    let o = c.minus-others.ensures ∙ ap (λ x. minus x a.faulty) c.all_below.ensures in
    as-text
    (judged-by (lists a.table.now) a.faulty n o (sym c.in-Ok.is ∙ c.intact-standing.ensures)
    (sym c.in-Ok-greatest.is ∙ c.largest-greatest.ensures) c.shared-shared.ensures)
    c.put_sets.ensures
