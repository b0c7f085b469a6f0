-- `answer` meets its contract: the first test that a call fails refuses it.
use native.Mathlib.Omega.{arith}
use Rattle.rules.proofs.Ways.{tested-range, answer-range, answer-proposal, answer-receiver, answer-voted, answer-unsent, answer-taken}
use Rattle.votes.specs.Call.{call}
use Rattle.answers.proofs.answer.Goals as goal

pub returns-then-is_out_of_range : goal.returns-then-is_out_of_range
returns-then-is_out_of_range c =
    let a = c.args in answer-range a.n a.faulty (call a.kind a.from a.to a.side) a.state.now
    c.is_out_of_range.ensures c.if-is_out_of_range.true

pub returns-then-is_crooked : goal.returns-then-is_crooked
returns-then-is_crooked c =
    let a = c.args in answer-proposal a.n a.faulty (call a.kind a.from a.to a.side) a.state.now
    c.is_out_of_range.ensures c.if-is_out_of_range.false c.is_crooked.ensures c.if-is_crooked.true

pub has-requires : goal.has-requires
has-requires c =
    let r = tested-range c.is_out_of_range.ensures c.if-is_out_of_range.false in omega (arith, r.to_in)

pub returns-then-has : goal.returns-then-has
returns-then-has c =
    let a = c.args in answer-receiver a.n a.faulty (call a.kind a.from a.to a.side) a.state.now
    c.is_out_of_range.ensures c.if-is_out_of_range.false c.is_crooked.ensures c.if-is_crooked.false
    c.has.ensures c.if-has.true

pub is_against-requires : goal.is_against-requires
is_against-requires c =
    let p = c.requires in record { state_len = p.state_len; n_bound = p.n_bound; in_range = tested-range c.is_out_of_range.ensures c.if-is_out_of_range.false }

pub returns-then-is_against : goal.returns-then-is_against
returns-then-is_against c =
    let a = c.args in answer-voted a.n a.faulty (call a.kind a.from a.to a.side) a.state.now
    c.is_out_of_range.ensures c.if-is_out_of_range.false c.is_crooked.ensures c.if-is_crooked.false
    c.has.ensures c.if-has.false c.is_against.ensures c.if-is_against.true

pub is_unsent-requires : goal.is_unsent-requires
is_unsent-requires c =
    let p = c.requires in record { state_len = p.state_len; n_bound = p.n_bound; in_range = tested-range c.is_out_of_range.ensures c.if-is_out_of_range.false }

pub returns-then-is_unsent : goal.returns-then-is_unsent
returns-then-is_unsent c =
    let a = c.args in answer-unsent a.n a.faulty (call a.kind a.from a.to a.side) a.state.now
    c.is_out_of_range.ensures c.if-is_out_of_range.false c.is_crooked.ensures c.if-is_crooked.false
    c.has.ensures c.if-has.false c.is_against.ensures c.if-is_against.false
    c.is_unsent.ensures c.if-is_unsent.true

pub returns : goal.returns
returns c =
    let a = c.args in answer-taken a.n a.faulty (call a.kind a.from a.to a.side) a.state.now
    c.is_out_of_range.ensures c.if-is_out_of_range.false c.is_crooked.ensures c.if-is_crooked.false
    c.has.ensures c.if-has.false c.is_against.ensures c.if-is_against.false
    c.is_unsent.ensures c.if-is_unsent.false
