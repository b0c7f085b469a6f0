-- `lacking` meets its contract: the first six sites are those of the bit, the others those of the word.
use mathlib.Core.Path.{sym, ◌∙◌}
use Rattle.set_words.proofs.WordLaws.{lacking-low, lacking-in, lacking-out}
use Rattle.set_words.proofs.lacking.Goals as goal

pub returns-then-v-lt6 : goal.returns-then-v-lt6
returns-then-v-lt6 c =
    lacking-low c.args.w c.if-v-lt6.true c.without.ensures

pub returns-then-has : goal.returns-then-has
returns-then-has c =
    let a = c.args in lacking-in a.v a.w c.if-v-lt6.false (sym c.has.ensures ∙ c.if-has.true)

pub returns : goal.returns
returns c =
    let a = c.args in lacking-out a.v a.w c.if-v-lt6.false (sym c.has.ensures ∙ c.if-has.false)
