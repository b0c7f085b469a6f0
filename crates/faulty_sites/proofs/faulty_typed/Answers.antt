-- `faulty_typed` meets its contract: one law for each way out.
use mathlib.Core.Path.{sym, ◌∙◌}
use Rattle.faulty_sites.proofs.Laws.{typed-mask, typed-nobody, typed-sites}
use Rattle.faulty_sites.proofs.faulty_typed.Goals as goal

pub returns-in_default : goal.returns-in_default
returns-in_default c = c.mask_typed.ensures ∙ sym (typed-mask c.args.word.now c.in_default.ensures.cases)

pub returns-then-is_empty : goal.returns-then-is_empty
returns-then-is_empty c =
    let h = c.in-Some.ensures.cases in typed-nobody c.args.word.now c.in-Some.sites.now h.0 h.1 c.if-is_empty.ensures

pub returns : goal.returns
returns c =
    let h = c.in-Some.ensures.cases in c.sites_named.ensures ∙ typed-sites c.args.word.now c.in-Some.sites.now h.0 h.1 c.if-is_empty.ensures
