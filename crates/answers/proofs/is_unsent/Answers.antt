-- `is_unsent` meets its contract: a vote is sent by who voted, an accept by who accepted, and a faulty sender may send anything.
use native.Mathlib.Omega.{arith}
use Rattle.rules.proofs.Ways.{unsent-proposal}
use Rattle.votes.specs.Call.{call}
use Rattle.answers.proofs.Sent.{unsent-sent}
use Rattle.answers.proofs.is_unsent.Goals as goal

pub returns-then-kind-eq0 : goal.returns-then-kind-eq0
returns-then-kind-eq0 c =
    let a = c.args in unsent-proposal a.n (call a.kind a.from a.to a.side) a.state.now a.faulty c.if-kind-eq0.true

pub returns : goal.returns
returns c =
    let a = c.args in unsent-sent a.n (call a.kind a.from a.to a.side) a.state.now c.if-kind-eq0.false c.requires.in_range.kind-in a.faulty
    c.has.ensures (omega arith)
