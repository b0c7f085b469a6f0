-- `put_lack` meets its contract: one law for each way out.
use mathlib.Core.Path.{sym, ◌∙◌}
use native.Mathlib.Omega.{arith}
use Rattle.lines.proofs.Chain.{as-text}
use Rattle.same_calls.specs.Same.{has_that}
use Rattle.same_lines.proofs.Lines.{nothing_put, not-lacked, shown-before, shown-now}
use Rattle.text.proofs.Written.{then}
use Rattle.same_lines.proofs.put_lack.Goals as goal

pub returns-then-has_call : goal.returns-then-has_call
unfolding has_that
returns-then-has_call c =
    let a = c.args in as-text (not-lacked a.word.now a.a.now a.b.now a.i (sym c.has_call.ensures ∙ c.if-has_call.true)) (nothing_put a.room.now a.at (omega arith))

pub returns-then-has_call-2 : goal.returns-then-has_call-2
unfolding has_that
returns-then-has_call-2 c =
    let a = c.args in as-text (shown-before a.word.now a.a.now a.b.now a.i (sym c.has_call.ensures ∙ c.if-has_call.false) (sym c.has_call-2.ensures ∙ c.if-has_call-2.true))
    (nothing_put a.room.now a.at (omega arith))

pub returns : goal.returns
unfolding has_that
returns c =
    let a = c.args in as-text (shown-now a.word.now a.a.now a.b.now a.i (sym c.has_call.ensures ∙ c.if-has_call.false) (sym c.has_call-2.ensures ∙ c.if-has_call-2.false))
    (then c.put-at.ensures c.put_call.ensures (omega arith))
