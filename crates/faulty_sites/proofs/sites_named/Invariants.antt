-- `sites_named` meets its contract: what is still to be read gives, from here, what the whole word gives.
use Prim.Native.Nat.{◌<◌}
use mathlib.Core.Path.{◌≡◌}
use lib.ListN.{drop}
use Rattle.std.proofs.Common.{IfSome}
use Rattle.faulty_sites.specs.Faulty.{so_far, sites_typed}
use Rattle.faulty_sites.proofs.sites_named.Given as goal

abbrev pub invariant-loop-b : goal.invariant-loop-b
invariant-loop-b l =
    IfSome l.site (λ x. x < 64) × (sites_typed l.m (so_far l.site) (drop l.b-index l.word) ≡ sites_typed 0 64 l.word)
