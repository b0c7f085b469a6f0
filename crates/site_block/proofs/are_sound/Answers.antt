-- `are_sound` meets its contract: the slices before k are gathered.
use Prim.Native.Nat.{◌+◌, ◌-◌, ◌*◌}
use mathlib.Core.Path.{◌≡◌, ap, ◌∙◌}
use native.Mathlib.Omega.{arith}
use borrow.Author.Rules.{rules}
use Rattle.le.specs.Le.{field}
use Rattle.rows.proofs.Row.{gathers-more, gathers-sound}
use Rattle.site_block.specs.Block.{slice_field}
use Rattle.site_block.proofs.are_sound.Goals as goal

pub loop-k-preserved : goal.loop-k-preserved
loop-k-preserved c =
    let b = c.args.b.now in let k = c.loop-k.k in let from = c.loop-k.invariant.0 in let e : 8 * k ≡ 8 + 8 * (k - 1) = omega arith in (
      search rules,
      gathers-more (slice_field b) k _ _ _ _ _ _ _ _ (c.get64-in-loop-k.ensures ∙ ap (field 8 b) e) c.get64-in-loop-k-2.ensures c.gather-g.ensures
          c.loop-k.invariant.1,
    )

pub returns : goal.returns
returns c =
    let a = c.args in let g = c.loop-k.g in gathers-sound (slice_field a.b.now) a.n a.owner a.many c.loop-k.k g.every g.some g.ascend c.is_sound.result
    c.loop-k.invariant.1 (omega arith) c.is_sound.ensures
