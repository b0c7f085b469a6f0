-- `are_sound` meets its contract: the slices before k are gathered.
use Prim.Native.Nat.{ℕ, ◌+◌, ◌-◌}
use mathlib.Core.Path.{◌≡◌, refl, ap}
use native.Mathlib.Omega.{arith}
use lib.ListN.{get_or}
use borrow.Author.Rules.{rules}
use Rattle.rows.specs.Site.{slice}
use Rattle.rows.proofs.Row.{gathers-first, gathers-more, gathers-sound}
use Rattle.rows.proofs.are_sound.Goals as goal

pub loop-k-init : goal.loop-k-init
loop-k-init c =
    let e = c.gather_first-g.ensures in (search rules, gathers-first (slice c.args.m.now) _ _ _ e.0 e.1)

pub loop-k-preserved : goal.loop-k-preserved
loop-k-preserved c =
    let m = c.args.m.now in let k = c.loop-k.k in let from = c.loop-k.invariant.0 in let e : k ≡ 1 + (k - 1) = omega arith in
    (search rules, gathers-more (slice m) k _ _ _ _ _ _ _ _ (ap (λ (i : ℕ). get_or m i 0) e) refl c.gather-g.ensures c.loop-k.invariant.1)

pub returns : goal.returns
returns c =
    let a = c.args in let g = c.loop-k.g in gathers-sound (slice a.m.now) a.n a.owner a.many c.loop-k.k g.every g.some g.ascend c.is_sound.result c.loop-k.invariant.1
    (omega arith) c.is_sound.ensures
