-- One case an arm.
use mathlib.Core.Path.{sym, ap}
use Prim.Native.Nat.{ℕ}
use mathlib.Core.List.{List}
use Rattle.lines.proofs.Chain.{as-text}
use Rattle.threshold_grammar.specs.declared.Why.{Why}
use Rattle.text.specs.Text.{ascii}
use Rattle.threshold_wanted.specs.Wanted.{threshold_wanted}
use Rattle.threshold_wanted.proofs.put_wanted.Goals as goal

abbrev said : Why → List ℕ
said why = ascii (threshold_wanted why)

pub returns-in-Sites : goal.returns-in-Sites
returns-in-Sites c =
    as-text (sym (ap said c.in-Sites.is)) c.put.ensures

pub returns-in-Count : goal.returns-in-Count
returns-in-Count c =
    as-text (sym (ap said c.in-Count.is)) c.put-in-Count.ensures

pub returns-in-LineEnd : goal.returns-in-LineEnd
returns-in-LineEnd c =
    as-text (sym (ap said c.in-LineEnd.is)) c.put-in-LineEnd.ensures

pub returns-in-Owner : goal.returns-in-Owner
returns-in-Owner c =
    as-text (sym (ap said c.in-Owner.is)) c.put-in-Owner.ensures

pub returns-in-Nothing : goal.returns-in-Nothing
returns-in-Nothing c =
    as-text (sym (ap said c.in-Nothing.is)) c.put-in-Nothing.ensures

pub returns-in-Colon : goal.returns-in-Colon
returns-in-Colon c =
    as-text (sym (ap said c.in-Colon.is)) c.put-in-Colon.ensures

pub returns-in-Threshold : goal.returns-in-Threshold
returns-in-Threshold c =
    as-text (sym (ap said c.in-Threshold.is)) c.put-in-Threshold.ensures

pub returns-in-Of : goal.returns-in-Of
returns-in-Of c =
    as-text (sym (ap said c.in-Of.is)) c.put-in-Of.ensures

pub returns-in-Member : goal.returns-in-Member
returns-in-Member c =
    as-text (sym (ap said c.in-Member.is)) c.put-in-Member.ensures

pub returns-in-Bracket : goal.returns-in-Bracket
returns-in-Bracket c =
    as-text (sym (ap said c.in-Bracket.is)) c.put-in-Bracket.ensures

pub returns-in-Other : goal.returns-in-Other
returns-in-Other c =
    as-text (sym (ap said c.in-Other.is)) c.put-in-Other.ensures
