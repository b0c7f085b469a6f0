-- `put_missing` meets its contract: the line, or nothing.
use mathlib.Core.Path.{sym, ◌∙◌}
use native.Mathlib.Omega.{arith}
use Rattle.lines.proofs.Chain.{as-text}
use Rattle.missing_lines.proofs.Missing.{said, unsaid}
use Rattle.text.proofs.Written.{written-nothing}
use Rattle.missing_lines.proofs.put_missing.Goals as goal

pub returns-then-lacks : goal.returns-then-lacks
returns-then-lacks c =
    let a = c.args in as-text (said a.among a.side a.list.now a.accepters a.u a.v (sym c.lacks.ensures ∙ c.if-lacks.true)) c.put_line.ensures

pub returns : goal.returns
returns c =
    let a = c.args in as-text (unsaid a.among a.side a.list.now a.accepters a.u a.v (sym c.lacks.ensures ∙ c.if-lacks.false))
    (record { place = omega arith; memory = sym (written-nothing _ _); inside = omega arith })
