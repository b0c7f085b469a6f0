-- What goes on file is the journal of the list.
use mathlib.Core.Path.{sym}
use native.Mathlib.Omega.{arith}
use lib.Seq.{length-take-le}
use Rattle.keep_shell.proofs.Filed.{in-room, filed}
use Rattle.keep_shell.proofs.keep_list.Goals as goal

pub overflow_mul-end : goal.overflow_mul-end
overflow_mul-end c = record { fits = omega (arith, in-room c.args.list.now _ (sym c.in-Ok.ensures.answer)) }

pub slice_bounds-journal-end : goal.slice_bounds-journal-end
slice_bounds-journal-end c = omega (arith, in-room c.args.list.now _ (sym c.in-Ok.ensures.answer), c.write-kept.auto.room)

pub slice_bounds-journal-end-2 : goal.slice_bounds-journal-end-2
slice_bounds-journal-end-2 c =
    sym (length-take-le _ _ (omega (arith, in-room c.args.list.now _ (sym c.in-Ok.ensures.answer), c.write-kept.auto.room)))

pub put_on_file-requires : goal.put_on_file-requires
put_on_file-requires c = filed c.args.list.now _ (sym c.in-Ok.ensures.answer) _ _ c.in-Ok.ensures.memory
