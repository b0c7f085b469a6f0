-- `check_sites` meets its contract: the sites before v are sound, and a refusal is the first.
use Rattle.std.specs.Prelude.{Ok}
use Prim.Native.Nat.{◌≤◌}
use mathlib.Core.Path.{◌≡◌}
use Rattle.refusals.specs.First.{first}
use Rattle.rows.specs.Site.{site_check}
use Rattle.table.specs.Table.{site_of}
use Rattle.table.proofs.check_sites.Given as goal

abbrev pub invariant-loop-v : goal.invariant-loop-v
invariant-loop-v l =
    (l.v ≤ l.n) × (first (λ w. site_check l.n w w (site_of l.table w)) l.v ≡ Ok tt)
