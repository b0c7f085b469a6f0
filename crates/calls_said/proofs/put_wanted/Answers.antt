-- `put_wanted` meets its contract: each case is a line of the definition.
use mathlib.Core.Path.{sym, ap}
use Rattle.call_words.specs.declared.Wanted.{Wanted}
use Rattle.calls_said.specs.Faults.{wanted_there}
use Rattle.lines.proofs.Chain.{as-text}
use Rattle.text.specs.Text.{ascii}
use Rattle.calls_said.proofs.put_wanted.Goals as goal

pub returns-in-Kind : goal.returns-in-Kind
unfolding wanted_there
returns-in-Kind c =
    as-text (sym (ap (λ (wanted : Wanted). ascii (wanted_there wanted)) c.in-Kind.is)) c.put.ensures

pub returns-in-Number : goal.returns-in-Number
unfolding wanted_there
returns-in-Number c =
    as-text (sym (ap (λ (wanted : Wanted). ascii (wanted_there wanted)) c.in-Number.is)) c.put-in-Number.ensures

pub returns-in-Side : goal.returns-in-Side
unfolding wanted_there
returns-in-Side c =
    as-text (sym (ap (λ (wanted : Wanted). ascii (wanted_there wanted)) c.in-Side.is)) c.put-in-Side.ensures

pub returns-in-End : goal.returns-in-End
unfolding wanted_there
returns-in-End c =
    as-text (sym (ap (λ (wanted : Wanted). ascii (wanted_there wanted)) c.in-End.is)) c.put-in-End.ensures

pub returns-in-Fewer : goal.returns-in-Fewer
unfolding wanted_there
returns-in-Fewer c =
    as-text (sym (ap (λ (wanted : Wanted). ascii (wanted_there wanted)) c.in-Fewer.is)) c.put_meaning.ensures
