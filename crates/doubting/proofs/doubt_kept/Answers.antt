-- The list that was read stands in the room.
use mathlib.Core.Path.{sym}
use native.Mathlib.Omega.{arith}
use lib.Seq.{length-take-le}
use Rattle.doubting.proofs.Fits.{listed-fits}
use Rattle.doubting.proofs.doubt_kept.Goals as goal

pub slice_bounds-calls-end : goal.slice_bounds-calls-end
slice_bounds-calls-end c = omega (arith, listed-fits _ _ _ (sym c.in-Ok.ensures.answer), c.list.auto.room)

pub slice_bounds-doubt-end : goal.slice_bounds-doubt-end
slice_bounds-doubt-end c = sym (length-take-le _ _ (omega (arith, listed-fits _ _ _ (sym c.in-Ok.ensures.answer), c.list.auto.room)))
