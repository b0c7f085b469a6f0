-- `turn_unless` meets its contract: a site of b stays as it is.
use mathlib.Core.Path.{sym, ◌∙◌}
use Rattle.apart_words.proofs.Turning.{unless-in, unless-out}
use Rattle.apart_words.proofs.turn_unless.Goals as goal

pub returns-else-not-has : goal.returns-else-not-has
returns-else-not-has c =
    let a = c.args in unless-in a.b a.x a.words.now c.requires.words_len (sym c.has.ensures ∙ c.if-not-has.false)

pub turn-requires : goal.turn-requires
turn-requires c =
    record { x_bound = c.requires.x_bound; words_len = c.requires.words_len }

pub returns-then-not-has : goal.returns-then-not-has
returns-then-not-has c =
    let a = c.args in unless-out a.b a.x a.words.now (sym c.has.ensures ∙ c.if-not-has.true) c.turn.ensures
