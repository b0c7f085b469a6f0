-- `put_places` meets its contract: after k turns the first k places stand behind byte 7.
use mathlib.Core.Path.{◌≡◌, ◌∙◌}
use native.Mathlib.Omega.{arith}
use Rattle.site_write.proofs.Store.{places-holds, places-again}
use Rattle.site_write.proofs.put_places.Goals as goal

pub loop-j-init : goal.loop-j-init
loop-j-init c =
    (omega arith, c.requires.b_len, places-holds _ _)

pub loop-j-preserved : goal.loop-j-preserved
loop-j-preserved c =
    let l = c.loop-j in (
      omega arith,
      c.put64.auto.b ∙ c.loop-j.invariant.1,
      c.put64.ensures
          ∙ places-again c.loop-j.b c.args.b.now c.args.m.now c.loop-j.j c.requires.b_len c.loop-j-test.true c.loop-j.invariant.2,
    )

pub returns : goal.returns
returns c =
    let l = c.loop-j in let e : c.loop-j.j ≡ 62 = omega arith in
    rw e at c.loop-j.invariant.2
