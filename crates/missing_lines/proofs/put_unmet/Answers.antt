-- `put_unmet` meets its contract: nothing, or the line.
use mathlib.Core.Path.{sym, ap}
use native.Mathlib.Omega.{arith}
use Rattle.lines.proofs.Chain.{as-text}
use Rattle.missing_lines.specs.Missing.{unmet}
use Rattle.text.proofs.Written.{written-nothing}
use Rattle.missing_lines.proofs.put_unmet.Goals as goal

pub returns-then-meet : goal.returns-then-meet
returns-then-meet c =
    as-text (ap unmet (sym c.if-meet.true)) (record { place = omega arith; memory = sym (written-nothing _ _); inside = omega arith })
