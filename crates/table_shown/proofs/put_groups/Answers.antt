-- `put_groups` meets its contract: one law for each way out.
use mathlib.Core.Path.{◌≡◌, refl, sym}
use native.Mathlib.Omega.{arith}
use Rattle.table_shown.specs.Show.{placed}
use Rattle.text.proofs.Written.{written-nothing}
use Rattle.lines.proofs.Chain.{as-text}
use Rattle.members.proofs.Laws.{more, cat-none}
use Rattle.table_shown.proofs.Laws.{length-placed}
use Rattle.table_shown.proofs.put_groups.Goals as goal

pub loop-k-init : goal.loop-k-init
loop-k-init c = (
  refl,
  omega arith,
  as-text (sym (cat-none (placed c.args.m.now)))
      (record { place = omega arith; memory = sym (written-nothing _ _); inside = omega arith }),
)

pub loop-k-preserved : goal.loop-k-preserved
loop-k-preserved c =
    let p = c.put_placed-end in let l = c.loop-k in let m = c.args.m.now in (
      omega arith,
      omega (arith, c.put_placed-end.ensures.place, length-placed m c.loop-k.k),
      more (placed m) c.loop-k.k c.loop-k.invariant.2 c.put_placed-end.ensures (omega arith),
    )

pub returns : goal.returns
returns c =
    let l = c.loop-k in let e : c.loop-k.k ≡ c.args.many = omega arith in
    rw e at c.loop-k.invariant.2
