-- The ways out of the check of a group: one law for each.
use Rattle.std.specs.Prelude.{Ok, Err}
use Prim.Native.Nat.{ℕ, ◌≤◌, ◌<◌}
use mathlib.Core.Bool.{true, false}
use mathlib.Core.List.{List}
use mathlib.Core.Path.{◌≡◌, refl}
use borrow.Author.Tests.{lt-ltb, le-ltb}
use Rattle.group_order.specs.Joined.{known}
use Rattle.masks.specs.Mask.{has}
use Rattle.refusals.specs.declared.Refusal.TheVariants.{Slice, Order}
use Rattle.refusals.specs.declared.Refusal.TheVariants.{Count as Groups}
use Rattle.rows.specs.Site.{count}
use Rattle.table_reading.specs.Groups.{group_check}

module _ (v q : ℕ) (m : List ℕ) where
  pub group-63 : 61 < count m → group_check v q m ≡ Err (Groups v)
  unfolding group_check
  group-63 h = rw (lt-ltb 61 (count m) h) refl

  pub no-owner : count m ≤ 61 → has q v ≡ false → group_check v q m ≡ Err (Slice v)
  unfolding group_check
  no-owner h e = rw (le-ltb 61 (count m) h, e) refl

  pub group-twice : count m ≤ 61 → has q v ≡ true → known q m ≡ true → group_check v q m ≡ Err (Order v)
  unfolding group_check
  group-twice h e k = rw (le-ltb 61 (count m) h, e, k) refl

  pub group-new : count m ≤ 61 → has q v ≡ true → known q m ≡ false → group_check v q m ≡ Ok tt
  unfolding group_check
  group-new h e k = rw (le-ltb 61 (count m) h, e, k) refl
