-- `now_in_quorum` meets its contract: the same set, a sender that brings nobody in, or the whole question.
use mathlib.Core.Path.{sym, ap, ◌∙◌}
use Rattle.rules.proofs.Since.{sender-without}
use Rattle.rules.proofs.WorkWays.{rows-rests}
use Rattle.sets.specs.Inner.Rows.{row_questions}
use Rattle.asking_since.proofs.now_in_quorum.Goals as goal

pub returns-then-w-before : goal.returns-then-w-before
returns-then-w-before c =
    let a = c.args in sym (ap ((row_questions a.table.now a.n).in_quorum a.receiver) c.if-w-before.true ∙ c.requires.before_value)

pub returns-then-not-has_slice : goal.returns-then-not-has_slice
returns-then-not-has_slice c =
    let p = c.requires in sender-without (rows-rests p.rows).promises p.new p.before_value c.has.ensures c.if-not-has.false-raw
    c.has_slice.ensures c.if-not-has_slice.true-raw
