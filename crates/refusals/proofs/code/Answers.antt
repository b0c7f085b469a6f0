-- `code` meets its contract: the definition at each case; a refusal's number fits a byte.
use mathlib.Core.Path.{sym, ap, ◌∙◌}
use native.Mathlib.Omega.{arith}
use Rattle.refusals.specs.Refusal.{code}
use Rattle.refusals.proofs.Settle.{small-number}
use Rattle.refusals.proofs.code.Goals as goal

pub overflow_cast-result : goal.overflow_cast-result
overflow_cast-result c =
    omega (arith, c.number.ensures, small-number c.in-Err.r)

pub returns-in-Ok : goal.returns-in-Ok
returns-in-Ok c =
    sym (ap code c.in-Ok.is)

pub returns-in-Err : goal.returns-in-Err
returns-in-Err c =
    c.number.ensures ∙ sym (ap code c.in-Err.is)
