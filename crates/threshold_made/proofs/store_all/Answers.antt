-- After v turns the room begins with the blocks of the first v sites.
use mathlib.Core.Path.{◌≡◌, refl, ap, ◌∙◌}
use native.Mathlib.Omega.{arith}
use mathlib.Core.List.{◌++◌}
use Prim.Native.Nat.{ℕ, ◌+◌, ◌-◌, ◌*◌}
use lib.ListN.{drop}
use borrow.Rule.Slice.PartMut.{same_len_mid}
use Rattle.threshold_made.specs.Made.{image_to}
use Rattle.threshold_made.proofs.Ends.{image_holds, image-again}
use Rattle.threshold_made.proofs.store_all.Goals as goal

pub loop-v-init : goal.loop-v-init
loop-v-init c =
    (refl, image_holds _ _ _)

pub loop-v-preserved : goal.loop-v-preserved
loop-v-preserved c =
    let a = c.args in let l = c.loop-v in let d = c.store_sets in (
      same_len_mid {X = ℕ} (512 * c.loop-v.v) (512 * c.loop-v.v + 512 - 512 * c.loop-v.v) c.loop-v.room c.store_sets.new.b c.store_sets.auto.b ∙ c.loop-v.invariant.0,
      image-again a.n a.t.now c.loop-v.room a.room.now _ c.loop-v.v c.loop-v.invariant.1 c.store_sets.ensures,
    )

pub shape_of-room : goal.shape_of-room
shape_of-room c =
    c.loop-v.invariant.0

pub returns : goal.returns
returns c =
    let a = c.args in let l = c.loop-v in let e : c.loop-v.v ≡ a.n = omega arith in
    c.loop-v.invariant.1 ∙ ap (λ (j : ℕ). image_to a.n a.t.now j ++ drop (512 * j) a.room.now) e
