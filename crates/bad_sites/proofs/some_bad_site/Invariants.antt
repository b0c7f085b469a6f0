-- `some_bad_site` meets its contract: no site before v is bad, and what is kept from one question to the next is known.
use mathlib.Core.Bool.{false}
use mathlib.Core.Path.{◌≡◌}
use Rattle.asking.specs.Inner.{Asked}
use Rattle.ground.specs.Search.{some}
use Rattle.rules.specs.Sound.{bad_site}
use Rattle.sets.specs.Inner.Rows.{row_questions}
use Rattle.bad_sites.proofs.some_bad_site.Given as goal

abbrev pub invariant-loop-v : goal.invariant-loop-v
invariant-loop-v l =
    (some l.v (bad_site (row_questions l.table l.n) l.n l.faulty l.state) ≡ false) × Asked (row_questions l.table l.n) l.n l.asked
