-- `put_members` meets its contract: the members below u are written.
use mathlib.Core.Path.{◌≡◌, refl, sym}
use native.Mathlib.Omega.{arith}
use Rattle.lines.proofs.Chain.{as-text}
use Rattle.members.specs.Members.{site_shown, members}
use Rattle.text.proofs.Written.{written-nothing}
use Rattle.members.proofs.Laws.{more, cat-none, length-member}
use Rattle.members.proofs.put_members.Goals as goal

pub loop-u-init : goal.loop-u-init
loop-u-init c = (
  refl,
  omega arith,
  as-text (sym (cat-none (site_shown c.args.set)))
      (record { place = omega arith; memory = sym (written-nothing _ _); inside = omega arith }),
)

pub loop-u-preserved : goal.loop-u-preserved
loop-u-preserved c =
    let p = c.put_member-end in let l = c.loop-u in let a = c.args in (
      omega arith,
      omega (arith, c.put_member-end.ensures.place, length-member a.set c.loop-u.u c.loop-u-test.true),
      more (site_shown a.set) c.loop-u.u c.loop-u.invariant.2 c.put_member-end.ensures (omega arith),
    )

pub returns : goal.returns
unfolding members
returns c =
    let l = c.loop-u in let e : c.loop-u.u ≡ 64 = omega arith in
    rw e at c.loop-u.invariant.2
