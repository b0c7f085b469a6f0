-- `put_member` meets its contract: a blank and the number, or nothing.
use mathlib.Core.Path.{sym}
use native.Mathlib.Omega.{arith}
use Rattle.members.specs.Members.{site_shown}
use Rattle.text.proofs.Written.{then, written-nothing}
use Rattle.members.proofs.put_member.Goals as goal

pub returns-then-has : goal.returns-then-has
unfolding site_shown
returns-then-has c =
    rw (← c.has.ensures, c.if-has.true)
    (then c.put-at.ensures c.put_decimal.ensures (omega arith))

pub returns : goal.returns
unfolding site_shown
returns c =
    rw (← c.has.ensures, c.if-has.false) (record { place = omega arith; memory = sym (written-nothing _ _); inside = omega arith })
