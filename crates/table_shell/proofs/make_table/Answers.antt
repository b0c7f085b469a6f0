-- What goes on file is the image of the table that the text is.
use mathlib.Core.Path.{refl, sym}
use native.Mathlib.Omega.{arith}
use lib.Seq.{length-take-le}
use Rattle.table_shell.proofs.Front.{in-room, in-front, image-room, image-front}
use Rattle.table_shell.proofs.make_table.Goals as goal

pub overflow_mul-end : goal.overflow_mul-end
overflow_mul-end c = record { fits = omega (arith, in-room c.args.text.now _ (sym c.in-Ok.ensures.answer)) }

pub slice_bounds-table-end : goal.slice_bounds-table-end
slice_bounds-table-end c = omega (arith, in-room c.args.text.now _ (sym c.in-Ok.ensures.answer), c.make-answer.auto.room)

pub slice_bounds-write-end : goal.slice_bounds-write-end
slice_bounds-write-end c =
    sym (length-take-le _ _ (omega (arith, in-room c.args.text.now _ (sym c.in-Ok.ensures.answer), c.make-answer.auto.room)))

pub overflow_mul-end-2 : goal.overflow_mul-end-2
overflow_mul-end-2 c = record { fits = omega (arith, image-room _ _ (sym c.in-Ok-written.ensures.answer)) }

pub slice_bounds-image-end : goal.slice_bounds-image-end
slice_bounds-image-end c = omega (arith, image-room _ _ (sym c.in-Ok-written.ensures.answer), c.write-written.auto.room)

pub slice_bounds-put_on_file-end : goal.slice_bounds-put_on_file-end
slice_bounds-put_on_file-end c =
    sym (length-take-le _ _ (omega (arith, image-room _ _ (sym c.in-Ok-written.ensures.answer), c.write-written.auto.room)))

pub put_on_file-requires : goal.put_on_file-requires
put_on_file-requires c =
    let front = in-front c.args.text.now _ (sym c.in-Ok.ensures.answer) _ _ refl c.in-Ok.ensures.memory c.make-answer.auto.room in
    image-front _ _ (sym c.in-Ok-written.ensures.answer) c.args.text.now _ _ _ front c.in-Ok-written.ensures.memory refl
