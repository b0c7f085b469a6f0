-- A table that is loaded from an image has at each site the slices that its block names.
use Prim.Native.Nat.{ℕ, ◌<◌}
use mathlib.Core.List.{List}
use mathlib.Core.Logic.{◌↔◌}
use mathlib.Core.Path.{◌≡◌, sym, ap, ◌∙◌, subst}
use native.Mathlib.Omega.{arith}
use Rattle.ground.specs.Pieces.{part}
use Rattle.image_blocks.proofs.Load.{length-loads, loads-site}
use Rattle.image_blocks.specs.Image.{loads}
use Rattle.rows.specs.Site.{count, slice}
use Rattle.sets.specs.Groups.{lists, fbqs_in, Checked}
use Rattle.site_block.proofs.Load.{load-count, load-slice}
use Rattle.site_block.specs.Block.{count_field, slice_field}
use Rattle.table.proofs.Exact.{checked}
use Rattle.table.specs.Table.{count_of, slice_of}

module _ (n : ℕ) (image : List ℕ) (v : ℕ) (l : v < n) where
  count-on : count_of (loads n image) v ≡ count_field (part 512 v image)
  count-on = ap count (loads-site n image v l) ∙ load-count (part 512 v image)

  slice-on : (i : ℕ) → i < 62 → slice_of (loads n image) v i ≡ slice_field (part 512 v image) i
  slice-on i h = ap (λ (m : List ℕ). slice m i) (loads-site n image v l) ∙ load-slice (part 512 v image) i h

  pub slices-filed : Checked (lists (loads n image)) → (q : ℕ)
      → ((i : ℕ) × (i < count_field (part 512 v image)) × (q ≡ slice_field (part 512 v image) i)) ↔ (fbqs_in (lists (loads n image))).Slice v q
  slices-filed e q =
      let few = (checked (loads n image) e).few-slices v (omega (arith, length-loads n image)) in (
        λ x. (x.0, subst (λ (k : ℕ). x.0 < k) (sym count-on) x.1, x.2 ∙ sym (slice-on x.0 (omega (arith, x.1, count-on, few)))),
        λ x. (x.0, subst (λ (k : ℕ). x.0 < k) count-on x.1, x.2 ∙ slice-on x.0 (omega (arith, x.1, few))),
      )
