-- `made` meets its contract: each case is a line of the definition.
use mathlib.Core.Path.{sym, ap}
use Rattle.calls_said.specs.Faults.{made_lines}
use Rattle.lines.proofs.Chain.{as-text, both}
use Rattle.calls_said.proofs.made.Goals as goal

pub returns-in-Ok : goal.returns-in-Ok
unfolding made_lines
returns-in-Ok c =
    let r = both (as-text (sym (ap made_lines c.in-Ok.is)) c.line_decimal.ensures) in record { text = r.0; counts = r.1 }

pub returns-in-Err : goal.returns-in-Err
returns-in-Err c =
    let r = both (as-text (sym (ap made_lines c.in-Err.is)) c.put_refused.ensures) in record { text = r.0; counts = r.1 }
