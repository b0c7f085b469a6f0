-- `without` meets its contract: each number has a bit for every set without the site.
use mathlib.Core.Path.{◌≡◌}
use native.Mathlib.Omega.{arith}
use Rattle.set_words.proofs.WordLaws.{without-0, without-1, without-2, without-3, without-4, without-5}
use Rattle.set_words.proofs.without.Goals as goal

pub returns-in-0 : goal.returns-in-0
returns-in-0 c = rw c.in-0.is without-0

pub returns-in-1 : goal.returns-in-1
returns-in-1 c = rw c.in-1.is without-1

pub returns-in-2 : goal.returns-in-2
returns-in-2 c = rw c.in-2.is without-2

pub returns-in-3 : goal.returns-in-3
returns-in-3 c = rw c.in-3.is without-3

pub returns-in-4 : goal.returns-in-4
returns-in-4 c = rw c.in-4.is without-4

pub returns-in_default : goal.returns-in_default
returns-in_default c =
    let e : c.args.x ≡ 5 = omega arith in rw e without-5
