-- `work` meets its contract: a refused call changes nothing, nor does one that is heard already; any other that is answered 0 changes the state.
use mathlib.Core.Path.{sym, ◌∙◌}
use Rattle.rules.proofs.Answer.{takes}
use Rattle.rules.proofs.Inner.{works-refused, works-heard, works-taken}
use Rattle.rules.proofs.Since.{sound-since}
use Rattle.votes.specs.Call.{call}
use Rattle.taking.proofs.work.Goals as goal

pub returns-in_default : goal.returns-in_default
returns-in_default c =
    let a = c.args in works-refused c.requires.sound (call a.kind a.from a.to a.side) c.answer-a.ensures c.in_default.is

pub is_heard-heard-requires : goal.is_heard-heard-requires
is_heard-heard-requires c =
    let a = c.args in let K = takes a.n a.faulty (call a.kind a.from a.to a.side) a.state.now (sym c.answer-a.ensures ∙ c.in-Ok.is) in record { state_len = c.requires.sound.long; n_bound = c.requires.rows.few-sites; in_range = K.range }

pub returns-then-heard : goal.returns-then-heard
returns-then-heard c =
    let a = c.args in works-heard c.requires.sound (call a.kind a.from a.to a.side) c.answer-a.ensures c.is_heard-heard.ensures c.if-heard.true

pub take-requires : goal.take-requires
take-requires c =
    let a = c.args in let K = takes a.n a.faulty (call a.kind a.from a.to a.side) a.state.now (sym c.answer-a.ensures ∙ c.in-Ok.is) in
    let r = K.range in record { rows = c.requires.rows; state_len = c.requires.sound.long; in_range = r; since = sound-since c.requires.sound {v = a.to} {side = a.side} a.from r.side-in r.to_in K.correct }

pub returns : goal.returns
returns c =
    let a = c.args in works-taken c.requires.sound (call a.kind a.from a.to a.side) c.answer-a.ensures c.is_heard-heard.ensures c.in-Ok.is
    c.if-heard.false c.take.ensures
