-- `over_all` meets its contract: after i calls the loop has the first i calls of the pass behind it.
use mathlib.Core.Path.{refl}
use native.Mathlib.Omega.{arith}
use Rattle.pass.proofs.Lawful.{rows-vote}
use Rattle.pass.proofs.Turns.{after_none, after_more, after-all}
use Rattle.pass.proofs.over_all.Goals as goal

pub loop-i-init : goal.loop-i-init
loop-i-init c =
    let a = c.args in (after_none (rows-vote c.requires.rows a.faulty) a.list.now a.state.now a.answers.now c.requires.list_len c.requires.fact, c.requires.known)

pub work_at-worked-requires : goal.work_at-worked-requires
work_at-worked-requires c =
    let A = c.loop-i.invariant.0 in let p = c.requires in record { rows = p.rows; fact = A.sound; i_in_bounds = omega (arith, p.list_len, A.long, c.loop-i-test.true); known = c.loop-i.invariant.1 }

pub bounds-answers-i : goal.bounds-answers-i
bounds-answers-i c =
    omega (arith, c.loop-i.invariant.0.long, c.loop-i-test.true)

pub loop-i-preserved : goal.loop-i-preserved
loop-i-preserved c =
    let a = c.args in let L = c.loop-i in let r = c.work_at-worked.ensures in (
      after_more (rows-vote c.requires.rows a.faulty) a.list.now a.state.now a.answers.now c.requires.list_len c.loop-i.i c.code.result _
          c.loop-i.state c.loop-i.answers c.loop-i.invariant.0 (omega (arith, c.loop-i-test.true, c.loop-i.invariant.0.long)) r.works c.code.ensures refl,
      r.known_2,
    )

pub shape_of-state : goal.shape_of-state
shape_of-state c =
    omega (arith, c.loop-i.invariant.0.sound.long, c.requires.fact.long)

pub shape_of-answers : goal.shape_of-answers
shape_of-answers c =
    omega (arith, c.loop-i.invariant.0.long)

pub returns : goal.returns
returns c =
    let a = c.args in let L = c.loop-i in record {
      passed = after-all (rows-vote c.requires.rows a.faulty) a.list.now a.state.now a.answers.now c.requires.list_len c.loop-i.i c.loop-i.state c.loop-i.answers c.loop-i.invariant.0
          (omega (arith, c.loop-i-test.false, c.loop-i.invariant.0.long));
      known_2 = c.loop-i.invariant.1;
    }
