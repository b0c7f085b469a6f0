-- `is_heard` meets its contract: it reads the bit that a call of this kind sets.
use native.Mathlib.Omega.{arith}
use Rattle.rules.proofs.Ways.{is-heard-proposal}
use Rattle.votes.specs.Call.{call}
use Rattle.answers.proofs.Sent.{is-heard-sent}
use Rattle.answers.proofs.is_heard.Goals as goal

pub returns-then-kind-eq0 : goal.returns-then-kind-eq0
returns-then-kind-eq0 c =
    let a = c.args in is-heard-proposal a.n (call a.kind a.from a.to a.side) a.state.now c.if-kind-eq0.true c.has.ensures (omega arith)

pub returns-else-kind-eq0 : goal.returns-else-kind-eq0
returns-else-kind-eq0 c =
    let a = c.args in is-heard-sent a.n (call a.kind a.from a.to a.side) a.state.now c.if-kind-eq0.false c.requires.in_range.kind-in
    c.has-else-kind-eq0.ensures (omega arith)
