-- `put_refused` meets its contract: the refusal and its line, or nothing.
use mathlib.Core.List.{◌++◌}
use mathlib.Core.Path.{sym, ap}
use native.Mathlib.Omega.{arith}
use Rattle.call_words.specs.declared.Wanted.{Wanted}
use Rattle.calls_said.proofs.Told.{said-nothing}
use Rattle.calls_said.specs.Faults.{fault_line, if_fewer, made_lines}
use Rattle.lines.proofs.Chain.{as-text}
use Rattle.refusal_lines.proofs.Lengths.{length-refused}
use Rattle.refusal_lines.specs.Refused.{refused}
use Rattle.refusals.specs.declared.Refusal as Refusal
use Rattle.text.proofs.Written.{then, written-nothing}
use Rattle.calls_said.proofs.put_refused.Goals as goal

pub put_fault-requires : goal.put_fault-requires
put_fault-requires c =
    omega (arith, length-refused Refusal.Refusal.List)

pub returns-in-Fewer : goal.returns-in-Fewer
unfolding made_lines
returns-in-Fewer c =
    as-text (sym (ap (λ (wanted : Wanted). if_fewer wanted (refused Refusal.Refusal.List ++ fault_line c.args.fault)) c.in-Fewer.is))
    (then c.put_refused-at.ensures c.put_fault.ensures (omega arith))

pub returns-in_default : goal.returns-in_default
unfolding made_lines
returns-in_default c =
    as-text (sym (said-nothing c.args.fault.wanted _ c.in_default.not-Fewer))
    (record { place = omega arith; memory = sym (written-nothing c.args.room.now 0); inside = omega arith })
