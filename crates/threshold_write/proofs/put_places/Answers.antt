-- After i turns the first i sets stand behind byte 7.
use mathlib.Core.Path.{◌≡◌, sym, ◌∙◌}
use native.Mathlib.Omega.{arith}
use Rattle.threshold_reading.specs.Lines.{sets_heard}
use Rattle.threshold_write.proofs.Store.{places-holds, places-again}
use Rattle.threshold_write.proofs.put_places.Goals as goal

pub loop-i-init : goal.loop-i-init
loop-i-init c =
    (c.requires.b_len, places-holds _ _)

pub loop-i-preserved : goal.loop-i-preserved
loop-i-preserved c =
    let l = c.loop-i in (
      c.put_set.auto.b ∙ c.loop-i.invariant.0,
      c.put_set.ensures
          ∙ places-again c.loop-i.b c.args.b.now (sets_heard c.args.t.now c.args.u) c.loop-i.i c.requires.b_len c.loop-i-test.true c.loop-i.invariant.1,
    )

pub shape_of-b : goal.shape_of-b
shape_of-b c =
    c.loop-i.invariant.0 ∙ sym c.requires.b_len

pub returns : goal.returns
returns c =
    let l = c.loop-i in let e : c.loop-i.i ≡ 49 = omega arith in
    rw e at c.loop-i.invariant.1
