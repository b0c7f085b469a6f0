-- `put_call` meets its contract: a call that can be said in words, or four numbers.
use mathlib.Core.Path.{sym, ◌∙◌}
use native.Mathlib.Omega.{arith}
use Rattle.call_lines.proofs.put_call.Goals as goal

pub put_words-requires : goal.put_words-requires
put_words-requires c =
    record { at_in_bounds = omega arith; side_value = sym c.worded.ensures ∙ c.if-worded.true }

pub returns-then-worded : goal.returns-then-worded
returns-then-worded c =
    c.put_words.ensures

pub put_numbers-requires : goal.put_numbers-requires
put_numbers-requires c =
    record { at_in_bounds = omega arith; side_value = sym c.worded.ensures ∙ c.if-worded.false }

pub returns : goal.returns
returns c =
    c.put_numbers.ensures
