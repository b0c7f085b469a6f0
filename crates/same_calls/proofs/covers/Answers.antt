-- `covers` meets its contract: every call so far is one of the second list.
use Prim.Native.Nat.{◌/◌}
use mathlib.Core.Path.{◌≡◌, sym, ◌∙◌}
use native.Mathlib.Omega.{arith}
use lib.ListN.{length}
use Rattle.ground.proofs.Every.{every-none, every_more, every-not}
use Rattle.same_calls.specs.Same.{has_that, covers}
use Rattle.same_calls.proofs.covers.Goals as goal

pub loop-i-init : goal.loop-i-init
loop-i-init c =
    every-none _

pub returns-then-not-has_call : goal.returns-then-not-has_call
unfolding has_that covers
returns-then-not-has_call c =
    let x = c.args in sym (every-not (length x.a.now / 4) (has_that (length x.b.now / 4) x.b.now x.a.now) c.loop-i-test.true (sym c.has_call.ensures ∙ c.if-not-has_call.true))

pub loop-i-preserved : goal.loop-i-preserved
unfolding has_that
loop-i-preserved c =
    every_more c.loop-i.i _ c.loop-i.invariant (sym c.has_call.ensures ∙ c.if-not-has_call.false)

pub returns : goal.returns
unfolding covers
returns c =
    let e : c.loop-i.i ≡ length c.args.a.now / 4 = omega arith in
    sym (rw e at c.loop-i.invariant)
