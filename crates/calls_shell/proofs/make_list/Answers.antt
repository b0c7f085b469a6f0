-- What goes on file is the list of the text.
use lib.Seq.{length-take-le}
use mathlib.Core.Path.{sym}
use Rattle.calls_shell.proofs.Filed.{in-room, filed}
use Rattle.calls_shell.proofs.make_list.Goals as goal

pub slice_bounds-list-end : goal.slice_bounds-list-end
slice_bounds-list-end c = in-room c.args.text.now _ _ _ (sym c.in-Ok.ensures.answer) c.in-Ok.ensures.memory

pub slice_bounds-list-end-in-Ok : goal.slice_bounds-list-end-in-Ok
slice_bounds-list-end-in-Ok c =
    sym (length-take-le _ _ (in-room c.args.text.now _ _ _ (sym c.in-Ok.ensures.answer) c.in-Ok.ensures.memory))

pub put_on_file-requires : goal.put_on_file-requires
put_on_file-requires c = filed c.args.text.now _ _ _ (sym c.in-Ok.ensures.answer) c.in-Ok.ensures.memory
