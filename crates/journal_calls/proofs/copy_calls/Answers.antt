-- `copy_calls` meets its contract: after j turns the first j bytes stand in the room.
use Prim.Native.Nat.{◌-◌}
use mathlib.Core.Path.{sym, ap, ◌∙◌}
use native.Mathlib.Omega.{arith}
use lib.ListN.{drop, set, length-set, length-drop}
use lib.Seq.{get_or-drop}
use Rattle.journal_calls.proofs.Copying.{turn-front}
use Rattle.journal_calls.proofs.copy_calls.Goals as goal

pub loop-j-preserved : goal.loop-j-preserved
loop-j-preserved c =
    let b = c.args.b.now in let l = c.loop-j in (
      omega arith,
      simp length-set c.loop-j.invariant.1,
      ap (set c.loop-j.room c.loop-j.j) (sym (get_or-drop 4 b c.loop-j.j 0))
          ∙ turn-front c.args.room.now c.loop-j.room (drop 4 b) c.loop-j.j c.loop-j.invariant.2 (omega arith) (omega (arith, length-drop 4 b, c.requires.b_len, c.requires.room_len_bound)),
    )
