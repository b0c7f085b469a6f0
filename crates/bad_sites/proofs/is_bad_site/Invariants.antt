-- `is_bad_site` meets its contract: who has nothing of either side is not bad; else no side before is bad.
use mathlib.Core.Bool.{false}
use mathlib.Core.Path.{◌≡◌}
use Rattle.asking.specs.Inner.{Asked}
use Rattle.ground.specs.Search.{some}
use Rattle.rules.specs.Sound.{bad_side}
use Rattle.sets.specs.Inner.Rows.{row_questions}
use Rattle.bad_sites.proofs.is_bad_site.Given as goal

abbrev pub invariant-loop-side : goal.invariant-loop-side
invariant-loop-side l =
    (some l.side (bad_side (row_questions l.table l.n) l.n l.faulty l.state l.v) ≡ false) × Asked (row_questions l.table l.n) l.n l.asked
