-- `is_unfilled` meets its contract: one of the unused places before j is not zero just if all of them together are not.
use Prim.Native.Nat.{ℕ, ◌+◌, ◌-◌}
use mathlib.Core.Bool.{not}
use mathlib.Core.Path.{◌≡◌, sym, ap, ◌∙◌}
use native.Mathlib.Omega.{arith}
use lib.Dec.{eqb}
use borrow.Author.Rules.{rules}
use Rattle.ground.proofs.Some.{some-none}
use Rattle.ground.specs.Search.{some}
use Rattle.rows.specs.Site.{count, slice, row_unfilled}
use Rattle.rows.proofs.Site.{unfilled-more}
use Rattle.rows.proofs.is_unfilled.Goals as goal

pub loop-j-init : goal.loop-j-init
loop-j-init c =
    (search rules, sym (some-none _))

pub loop-j-preserved : goal.loop-j-preserved
loop-j-preserved c =
    let m = c.args.m.now in let l = c.loop-j in (search rules, unfilled-more (slice m) (count m) c.loop-j.j c.loop-j.any c.loop-j.invariant.1)

pub returns : goal.returns
unfolding row_unfilled
returns c =
    let m = c.args.m.now in let l = c.loop-j in let e : c.loop-j.j ≡ 62 - count m = omega arith in
    c.loop-j.invariant.1 ∙ ap (λ (k : ℕ). some k (λ j. not (eqb (slice m (count m + j)) 0))) e
