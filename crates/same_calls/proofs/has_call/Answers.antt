-- `has_call` meets its contract: none of the calls so far is this one.
use mathlib.Core.Path.{◌≡◌, sym, ◌∙◌}
use native.Mathlib.Omega.{arith}
use Rattle.ground.proofs.Some.{some_of, some-none, some_more}
use Rattle.same_calls.specs.Same.{is_call, has_call}
use Rattle.same_calls.proofs.has_call.Goals as goal

pub loop-i-init : goal.loop-i-init
loop-i-init c =
    some-none _

pub returns-then-is_call : goal.returns-then-is_call
unfolding has_call
returns-then-is_call c =
    let a = c.args in sym (some_of a.n (λ j. is_call a.list.now j a.kind a.from a.to a.side) c.loop-i-test.true (sym c.is_call.ensures ∙ c.if-is_call.true))

pub loop-i-preserved : goal.loop-i-preserved
loop-i-preserved c =
    some_more c.loop-i.i _ c.loop-i.invariant (sym c.is_call.ensures ∙ c.if-is_call.false)

pub returns : goal.returns
unfolding has_call
returns c =
    let e : c.loop-i.i ≡ c.args.n = omega arith in
    sym (rw e at c.loop-i.invariant)
