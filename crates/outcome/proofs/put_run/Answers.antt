-- `put_run` meets its contract: three lines, the state, and the calls.
use Prim.Native.Nat.{◌+◌, ◌*◌, ◌≤◌}
use native.Mathlib.Omega.{arith}
use lib.ListN.{length}
use Rattle.lines.proofs.Chain.{three}
use Rattle.lines.proofs.Lengths.{decimal-line, mask-line}
use Rattle.state_lines.proofs.State.{length-state}
use Rattle.outcome.specs.Outcome.{end_lines}
use Rattle.text.specs.Text.{ascii}
use Rattle.outcome.proofs.put_run.Goals as goal

pub line_mask-at-requires : goal.line_mask-at-requires
line_mask-at-requires c =
    let a = c.args in omega (arith, decimal-line (ascii "sites ") a.n)

pub line_decimal-at-requires-2 : goal.line_decimal-at-requires-2
line_decimal-at-requires-2 c =
    let a = c.args in omega (arith, decimal-line (ascii "sites ") a.n, mask-line (ascii "faulty ") a.faulty)

pub put_state-at-requires : goal.put_state-at-requires
put_state-at-requires c =
    let a = c.args in record { n_in_bounds = omega (arith, decimal-line (ascii "sites ") a.n, mask-line (ascii "faulty ") a.faulty, decimal-line (ascii "passes ") a.passes); state_len = c.requires.state_len; n_bound = c.requires.n_bound }

pub put_calls-requires : goal.put_calls-requires
put_calls-requires c =
    let a = c.args in let p = c.put_state-at in let q = c.line_decimal-at-2 in let m = c.line_mask-at in let d = c.line_decimal-at in let fit : c.put_state-at.result + 131 * length a.answers.now ≤ length c.put_state-at.new.room = omega (
      arith,
      c.requires.in_bounds,
      c.put_state-at.ensures.place,
      c.put_state-at.auto.room,
      c.line_decimal-at-2.ensures.place,
      c.line_decimal-at-2.auto.room,
      c.line_mask-at.ensures.place,
      c.line_mask-at.auto.room,
      c.line_decimal-at.ensures.place,
      c.line_decimal-at.auto.room,
      decimal-line (ascii "sites ") a.n,
      mask-line (ascii "faulty ") a.faulty,
      decimal-line (ascii "passes ") a.passes,
      length-state a.n a.faulty a.whole a.state.now,
      c.requires.n_bound,
      c.requires.answers_len_bound,
    ) in record { answers_in_bounds = fit; answers_in_bounds_2 = c.requires.answers_in_bounds }

pub returns : goal.returns
unfolding end_lines
returns c =
    let a = c.args in three c.line_decimal-at.ensures c.line_mask-at.ensures
    (three c.line_decimal-at-2.ensures c.put_state-at.ensures c.put_calls.ensures
    (omega (arith, decimal-line (ascii "sites ") a.n, mask-line (ascii "faulty ") a.faulty)))
    (omega arith)
