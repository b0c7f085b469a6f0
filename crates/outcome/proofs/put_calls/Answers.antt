-- `put_calls` meets its contract: after i turns the lines of the first i calls stand in the room.
-- the line of call i
use Prim.Native.Nat.{ℕ, ◌+◌, ◌*◌, ◌≤◌}
use mathlib.Core.List.{List}
use mathlib.Core.Path.{◌≡◌, refl, ap, ◌∙◌}
use native.Mathlib.Omega.{arith}
use lib.ListN.{length, get_or}
use Rattle.ground.specs.Pieces.{cat}
use Rattle.lines.proofs.Chain.{as-text}
use Rattle.outcome.proofs.Lengths.{length-call}
use Rattle.register.proofs.Rows.{no_row, row_more, length-rows}
use Rattle.outcome.specs.Outcome.{call_line, call_lines}
use Rattle.outcome.proofs.put_calls.Goals as goal

abbrev row : List ℕ → List ℕ → ℕ → List ℕ
row list answers i = call_line i (get_or answers i 0) (get_or list (4 * i) 0) (get_or list (4 * i + 1) 0) (get_or list (4 * i + 2) 0) (get_or list (4 * i + 3) 0)

long-row : (list answers : List ℕ) (i : ℕ) → length (row list answers i) ≤ 131
long-row list answers i = length-call i (get_or answers i 0) (get_or list (4 * i) 0) (get_or list (4 * i + 1) 0) (get_or list (4 * i + 2) 0) (get_or list (4 * i + 3) 0)

pub loop-i-init : goal.loop-i-init
loop-i-init c =
    let a = c.args in (refl, no_row (row a.list.now a.answers.now) a.room.now a.at (omega (arith, c.requires.answers_in_bounds)))

pub put_call-end-requires : goal.put_call-end-requires
put_call-end-requires c =
    let a = c.args in let l = c.loop-i in omega (arith, c.requires.answers_in_bounds, c.loop-i.invariant.1.place, length-rows (row a.list.now a.answers.now) 131 c.loop-i.i (long-row a.list.now a.answers.now))

pub loop-i-preserved : goal.loop-i-preserved
loop-i-preserved c =
    let l = c.loop-i in let p = c.put_call-end in (
      c.put_call-end.auto.room ∙ c.loop-i.invariant.0,
      row_more (row c.args.list.now c.args.answers.now) c.loop-i.i c.loop-i.invariant.1 c.put_call-end.ensures
          (omega (arith, c.requires.answers_in_bounds)),
    )

pub shape_of-room : goal.shape_of-room
shape_of-room c =
    c.loop-i.invariant.0

pub returns : goal.returns
unfolding call_lines
returns c =
    let l = c.loop-i in let a = c.args in let e : c.loop-i.i ≡ length a.answers.now = omega arith in
    as-text (ap (cat (row a.list.now a.answers.now)) e) c.loop-i.invariant.1
