-- What is left to read gives what the whole text gives.
use mathlib.Core.Path.{refl, ap}
use native.Mathlib.Omega.{arith}
use Rattle.table_reading.proofs.Steps.{sane-eq, heard-after, walk_step, walk_end}
use Rattle.table_grammar.specs.declared.Spot.{Spot}
use Rattle.table_reading.proofs.walk.Goals as goal

pub loop-b-init : goal.loop-b-init
loop-b-init c =
    (refl, omega arith, (omega arith, omega arith), refl)

pub loop-b-preserved : goal.loop-b-preserved
loop-b-preserved c =
    let l = c.loop-b in let a = c.args in let h = c.hear-s in let g = c.sign_of-c in let z = heard-after c.sign_of-c.result c.loop-b.w c.loop-b.s c.loop-b.t c.loop-b.invariant.2 in
    let n = ap (λ (x : Spot). x.line) c.hear-s.ensures.0 in (
      omega arith,
      omega (arith, z.1),
      sane-eq c.hear-s.ensures.0 z.0,
      walk_step c.loop-b.w _ c.loop-b.s _ c.loop-b.t _ a.text.now c.loop-b.b-index _ c.sign_of-c.result _ c.loop-b-test.true c.loop-b.invariant.3 refl c.sign_of-c.ensures c.hear-s.ensures.0 c.hear-s.ensures.1
          c.turn-w.ensures,
    )

pub returns : goal.returns
returns c =
    let l = c.loop-b in let a = c.args in let f = c.hear in walk_end c.loop-b.w _ _ c.loop-b.s _ c.loop-b.t a.t.now _ a.text.now c.loop-b.b-index (omega arith) c.loop-b.invariant.3 c.closing.ensures
    c.stopped.ensures c.hear.ensures.0 c.hear.ensures.1
