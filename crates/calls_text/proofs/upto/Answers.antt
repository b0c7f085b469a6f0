-- `upto` meets its contract: no byte so far stops.
use mathlib.Core.Path.{refl, sym, ◌∙◌}
use native.Mathlib.Omega.{arith}
use Rattle.calls_text.specs.Pieces.{stops}
use Rattle.calls_text.proofs.Cuts.{stop-here, stop-later, stop-end}
use Rattle.calls_text.proofs.upto.Goals as goal

pub loop-i-init : goal.loop-i-init
loop-i-init c =
    refl

pub returns-then-stops : goal.returns-then-stops
returns-then-stops c =
    let l = c.loop-i in let a = c.args in let z = stop-here (stops a.kind) a.text.now c.loop-i.i c.loop-i-test.true (sym c.stops.ensures ∙ c.if-stops.true) in
    omega arith

pub loop-i-preserved : goal.loop-i-preserved
loop-i-preserved c =
    let l = c.loop-i in let a = c.args in let z = stop-later (stops a.kind) a.text.now c.loop-i.i c.loop-i-test.true (sym c.stops.ensures ∙ c.if-stops.false) in
    omega arith

pub returns : goal.returns
returns c =
    let l = c.loop-i in let a = c.args in let z = stop-end (stops a.kind) a.text.now c.loop-i.i c.loop-i-test.false in
    omega arith
