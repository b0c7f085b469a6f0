-- `put_state` meets its contract: three lines of two masks, and the lines of the sites.
use Prim.Native.Nat.{◌+◌}
use native.Mathlib.Omega.{arith}
use lib.ListN.{get_or}
use Rattle.lines.proofs.Chain.{as-text, three}
use Rattle.lines.proofs.Lengths.{length-sides}
use Rattle.state_lines.proofs.State.{state-lines}
use Rattle.text.proofs.Written.{then}
use Rattle.text.specs.Text.{ascii}
use Rattle.state_lines.proofs.put_state.Goals as goal

pub line_sides-at-requires-2 : goal.line_sides-at-requires-2
line_sides-at-requires-2 c =
    let a = c.args in let b = c.voted-base.result in omega (arith, length-sides (ascii "voted ") (get_or a.state.now b 0) (get_or a.state.now (b + 1) 0))

pub line_sides-at-requires-3 : goal.line_sides-at-requires-3
line_sides-at-requires-3 c =
    let a = c.args in let b = c.voted-base.result in omega
    (arith, length-sides (ascii "voted ") (get_or a.state.now b 0) (get_or a.state.now (b + 1) 0), length-sides (ascii "accepted ") (get_or a.state.now (b + 2) 0) (get_or a.state.now (b + 3) 0))

pub put_sites-requires : goal.put_sites-requires
put_sites-requires c =
    let a = c.args in let b = c.voted-base.result in record {
      n_in_bounds = omega (
        arith,
        length-sides (ascii "voted ") (get_or a.state.now b 0) (get_or a.state.now (b + 1) 0),
        length-sides (ascii "accepted ") (get_or a.state.now (b + 2) 0) (get_or a.state.now (b + 3) 0),
        length-sides (ascii "confirmed ") (get_or a.state.now (b + 4) 0) (get_or a.state.now (b + 5) 0),
      );
      n_bound = omega (
        arith,
        length-sides (ascii "voted ") (get_or a.state.now b 0) (get_or a.state.now (b + 1) 0),
        length-sides (ascii "accepted ") (get_or a.state.now (b + 2) 0) (get_or a.state.now (b + 3) 0),
        length-sides (ascii "confirmed ") (get_or a.state.now (b + 4) 0) (get_or a.state.now (b + 5) 0),
      );
    }

pub returns : goal.returns
returns c =
    let a = c.args in let b = c.voted-base.result in as-text (state-lines a.n a.faulty a.whole b a.state.now c.voted-base.ensures)
    (three c.line_sides-at.ensures
    c.line_sides-at-2.ensures
    (then c.line_sides-at-3.ensures c.put_sites.ensures
    (omega (arith, length-sides (ascii "voted ") (get_or a.state.now b 0) (get_or a.state.now (b + 1) 0), length-sides (ascii "accepted ") (get_or a.state.now (b + 2) 0) (get_or a.state.now (b + 3) 0))))
    (omega arith))
