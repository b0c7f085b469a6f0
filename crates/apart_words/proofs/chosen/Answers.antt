-- `chosen` meets its contract: the word contains the others or not.
use mathlib.Core.Bool.{Bool, ◌&&◌}
use mathlib.Core.Path.{sym, ap, ◌∙◌}
use Rattle.masks.proofs.Laws.Members.{has-zero}
use Rattle.masks.specs.Mask.{has}
use Rattle.apart_words.proofs.chosen.Goals as goal

pub returns-then-within : goal.returns-then-within
returns-then-within c =
    let a = c.args in record { each = λ j. sym (ap (λ (b : Bool). b && has a.low j) (sym c.within.ensures ∙ c.if-within.true)) }

pub returns-else-within : goal.returns-else-within
returns-else-within c =
    let a = c.args in record { each = λ j. has-zero j ∙ sym (ap (λ (b : Bool). b && has a.low j) (sym c.within.ensures ∙ c.if-within.false)) }
