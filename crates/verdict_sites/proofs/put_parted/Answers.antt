-- `put_parted` meets its contract: the pair, or nothing.
use mathlib.Core.Path.{sym, ap}
use native.Mathlib.Omega.{arith}
use Rattle.lines.proofs.Chain.{as-text}
use Rattle.verdict_sites.specs.Sites.{parted}
use Rattle.verdict_sites.proofs.Ways.{nothing}
use Rattle.verdict_sites.proofs.put_parted.Goals as goal

pub returns-in-Ok : goal.returns-in-Ok
returns-in-Ok c =
    as-text (ap parted (sym c.in-Ok.is)) c.put_pair.ensures

pub returns-in-Err : goal.returns-in-Err
returns-in-Err c =
    as-text (ap parted (sym c.in-Err.is)) (nothing _ _ (omega arith))
