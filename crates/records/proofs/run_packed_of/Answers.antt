-- `run_packed_of` meets its contract: too many calls are refused as 16,388 bytes are, others run as the bytes in front of the room.
use mathlib.Core.Path.{◌≡◌, sym, ◌∙◌}
use native.Mathlib.Omega.{arith}
use lib.ListN.{length, length-take}
use borrow.Author.Rules.{rules}
use Rattle.refusals.proofs.Passed.{passed_on}
use Rattle.records.proofs.Ended.{long-unsound, over-refused, held-ends}
use Rattle.records.proofs.run_packed_of.Goals as goal

pub returns-in_err-check_of : goal.returns-in_err-check_of
returns-in_err-check_of c =
    let a = c.args in rw (passed_on c.from_residual.result c.from_residual.ensures.1) (over-refused a.rows.now a.sites a.faulty a.room.now a.n a.state.now a.answers.now _ c.if-n-gt4096.true
    (sym c.check_of.ensures ∙ c.in_err-check_of.was))

pub returns-then-n-gt4096 : goal.returns-then-n-gt4096
returns-then-n-gt4096 c =
    let a = c.args in absurd (long-unsound a.sites a.faulty (length a.state.now) (length a.answers.now) (sym c.check_of.ensures ∙ c.in_ok-check_of.was))

pub slice_bounds-run_of-end : goal.slice_bounds-run_of-end
slice_bounds-run_of-end c =
    let h : length c.args.room.now ≡ 16384 = search rules in
    simp length-take (omega arith)

pub returns : goal.returns
returns c =
    let a = c.args in let e = c.run_of.ensures in held-ends a.rows.now a.sites a.faulty a.room.now a.n a.state.now a.answers.now _ _ _ c.if-n-gt4096.false e.answer e.states e.bytes
