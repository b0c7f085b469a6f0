-- An image that is not refused, once its rows are loaded into a room: the room begins with the rows by which it is asked.
use Prim.Native.Nat.{ℕ, ◌*◌, ◌/◌, ◌≤◌}
use mathlib.Core.List.{List, ◌++◌}
use mathlib.Core.Path.{◌≡◌, sym, ap, ◌∙◌, subst}
use native.Mathlib.Omega.{arith}
use lib.ListN.{length, take, drop}
use lib.Seq.{take_at}
use Rattle.le.specs.Le.{Bytes}
use Rattle.sets.proofs.ThresholdRows.{as-threshold-rows}
use Rattle.sets.specs.Groups.{thresholds, Checked}
use Rattle.sets.specs.Inner.AsRows.{AsRows}
use Rattle.threshold_image.proofs.Exact.{thresholds-checked}
use Rattle.threshold_image.proofs.Rows.{length-rows}
use Rattle.threshold_image.specs.Inner.{rows_of}

module _ (image : List ℕ) (c : Checked (thresholds image)) where
  -- it is whole blocks, and the room is long enough
  pub room_fits : (length image ≡ 512 * (length image / 512)) × (length image / 512 ≤ 64 × 63 * (length image / 512) ≤ 4032)
  room_fits = let H = thresholds-checked image c in let l = H.long in let f = H.few-sites in (l, (f, omega arith))

  pub loaded-rows : Bytes image → (room after : List ℕ) → after ≡ rows_of (length image / 512) image ++ drop (63 * (length image / 512)) room
      → AsRows (thresholds image) (take (63 * (length image / 512)) after)
  loaded-rows bytes room after e =
      let n = length image / 512 in
      subst (AsRows (thresholds image))
      (sym (ap (take (63 * n)) e ∙ take_at (rows_of n image) (drop (63 * n) room) (63 * n) (length-rows n image)))
      (as-threshold-rows image bytes c)
