-- `line_at` meets its contract: one law for each way out.
use mathlib.Core.Path.{◌∙◌}
use native.Mathlib.Omega.{arith}
use Rattle.calls_text.proofs.Cuts.{last_line, no_line, returned-line, kept_line}
use Rattle.calls_text.proofs.line_at.Goals as goal
use Rattle.calls_text.proofs.line_at.Goals.{else-end-text-via-then-end-text+else-text-end-eq13, else-end-text-via-else-end-text}

pub returns-then-at-end : goal.returns-then-at-end
returns-then-at-end c = let a = c.args in no_line a.text.now a.at a.end c.requires.at_le_end (omega arith)

pub returns-then-text-end-eq13 : goal.returns-then-text-end-eq13
returns-then-text-end-eq13 c =
    let a = c.args in c.says.ensures ∙ returned-line a.text.now a.at a.end c.requires.at_le_end c.if-end-text.true (omega arith) c.if-text-end-eq13.true

pub returns-else-end-text : goal.returns-else-end-text
returns-else-end-text c =
    let a = c.args in let text = a.text.now in let le = c.requires.at_le_end in c.says-else-end-text.ensures ∙ elim c.else-end-text.branch [
      | else-end-text-via-then-end-text+else-text-end-eq13 w ↦ kept_line text a.at a.end le w.if-end-text.true (omega arith) w.if-text-end-eq13.false
      | else-end-text-via-else-end-text w ↦ last_line text a.at a.end le (omega arith)
    ]
