-- `miss` meets its contract: a site that is not in m may be there.
use mathlib.Core.Path.{sym, ◌∙◌}
use Rattle.masks.proofs.Laws.Subsets.{mem}
use Rattle.picked_words.proofs.PickedLaws.{missing-in}
use Rattle.picked_words.proofs.miss.Goals as goal

pub returns-then-has : goal.returns-then-has
returns-then-has c =
    missing-in c.args.m c.args.x c.requires.missing (mem (sym c.has.ensures ∙ c.if-has.true)) c.without.ensures
