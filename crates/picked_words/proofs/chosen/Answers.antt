-- `chosen` meets its contract: the word has a member of high or none.
use mathlib.Core.Bool.{Bool, ◌&&◌}
use mathlib.Core.Path.{sym, ap, ◌∙◌}
use lib.Bits.{bit_and}
use borrow.Author.Tests.{ne_eqb}
use Rattle.masks.proofs.Laws.Members.{has-zero}
use Rattle.masks.specs.Mask.{has}
use Rattle.picked_words.proofs.chosen.Goals as goal

pub returns-else-high-w-eq0 : goal.returns-else-high-w-eq0
returns-else-high-w-eq0 c =
    let a = c.args in record { each = λ j. has-zero j ∙ sym (ap (λ (b : Bool). b && has a.low j) (ne_eqb (bit_and a.high a.w) 0 c.if-high-w-eq0.false)) }
