-- `put_pair` meets its contract: the word, the first quorum, a bar, the second; or nothing.
use Rattle.std.specs.Prelude.{Option, Ok}
use mathlib.Core.Path.{sym, ap}
use native.Mathlib.Omega.{arith}
use Rattle.lines.proofs.Chain.{as-text, five}
use Rattle.lines.specs.Lines.{line}
use Rattle.members.proofs.Laws.{length-members}
use Rattle.questions.specs.declared.Pair.{Pair}
use Rattle.verdict_sites.specs.Sites.{parted}
use Rattle.verdict_sites.proofs.Ways.{nothing}
use Rattle.verdict_sites.proofs.put_pair.Goals as goal

pub put-at-requires-in-Some : goal.put-at-requires-in-Some
put-at-requires-in-Some c =
    omega (arith, length-members c.in-Some.pair.first)

pub put_members-at-requires-in-Some : goal.put_members-at-requires-in-Some
put_members-at-requires-in-Some c =
    omega (arith, length-members c.in-Some.pair.first)

pub put-requires : goal.put-requires
put-requires c =
    omega (arith, length-members c.in-Some.pair.first, length-members c.in-Some.pair.second)

pub returns-in-None : goal.returns-in-None
returns-in-None c =
    as-text (ap (λ (p : Option Pair). parted (Ok p)) (sym c.in-None.is)) (nothing _ _ (omega arith))

pub returns-in-Some : goal.returns-in-Some
unfolding line
returns-in-Some c =
    as-text (ap (λ (p : Option Pair). parted (Ok p)) (sym c.in-Some.is))
    (five c.put-at.ensures c.put_members-at.ensures c.put-at-in-Some.ensures c.put_members-at-in-Some.ensures c.put.ensures (omega arith))
