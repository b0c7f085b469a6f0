-- `over_waiting` meets its contract: after k turns the first k of the calls that wait are worked on again.
use Prim.Native.Nat.{ℕ}
use mathlib.Core.Path.{refl, ap, ◌∙◌}
use native.Mathlib.Omega.{arith}
use lib.ListN.{get_or}
use Rattle.pass.proofs.Lawful.{rows-vote}
use Rattle.pass_again.proofs.Rounds.{amid-none, amid-below, amid-waits, amid-waited, amid-more, amid-all}
use Rattle.pass_again.proofs.over_waiting.Goals as goal

pub loop-k-init : goal.loop-k-init
loop-k-init c =
    let a = c.args in (amid-none (rows-vote c.requires.rows a.faulty) a.list.now a.state.now a.answers.now a.waiting.now a.count c.requires.waiting, refl, c.requires.known)

pub bounds-waiting-k : goal.bounds-waiting-k
bounds-waiting-k c =
    omega (arith, c.loop-k-test.true, c.loop-k.invariant.1, c.requires.waiting.few)

pub work_again-turn-requires : goal.work_again-turn-requires
work_again-turn-requires c =
    let a = c.args in let p = c.requires in let L = c.loop-k in let h = c.loop-k-test.true in let law = rows-vote p.rows a.faulty in
    let e = c.place-i.ensures in let b = amid-below law a.list.now a.state.now a.answers.now a.waiting.now a.count p.waiting c.loop-k.invariant.0 h in
    let q = amid-waits law a.list.now a.state.now a.answers.now a.waiting.now a.count p.waiting c.loop-k.invariant.0 h in
    let w = amid-waited law a.list.now a.state.now a.answers.now a.waiting.now a.count p.waiting c.loop-k.invariant.0 h c.place-i.ensures in record {
      rows = p.rows;
      fact = c.loop-k.invariant.0.after.sound;
      i_in_bounds = omega (arith, c.place-i.ensures, b, p.waiting.fits);
      i_in_bounds_2 = omega
          (arith, c.place-i.ensures, b, c.loop-k.invariant.0.after.long);
      i_value = ap (λ (k : ℕ). get_or c.loop-k.answers k 0) c.place-i.ensures ∙ q;
      waited = w;
      known = c.loop-k.invariant.2;
    }

pub keep-left-requires : goal.keep-left-requires
keep-left-requires c =
    let a = c.args in let p = c.requires in let L = c.loop-k in let h = c.loop-k-test.true in let b = amid-below (rows-vote p.rows a.faulty) a.list.now a.state.now a.answers.now a.waiting.now a.count
    p.waiting c.loop-k.invariant.0 h in record
    { count_in_bounds = omega (arith, h, c.loop-k.invariant.0.few, c.loop-k.invariant.1, p.waiting.few); i_bound = omega (arith, c.place-i.ensures, b, p.waiting.short) }

pub loop-k-preserved : goal.loop-k-preserved
loop-k-preserved c =
    let a = c.args in let p = c.requires in let L = c.loop-k in let h = c.loop-k-test.true in (
      amid-more (rows-vote p.rows a.faulty) a.list.now a.state.now a.answers.now a.waiting.now a.count p.waiting c.loop-k.invariant.0 h
          c.place-i.result c.keep-left.result _ c.work_again-turn.result.waits _ (omega (arith, h, c.loop-k.invariant.1, p.waiting.few)) c.place-i.ensures
          c.work_again-turn.ensures.again refl c.keep-left.ensures.many c.keep-left.ensures.memory,
      c.keep-left.auto.waiting ∙ c.loop-k.invariant.1,
      c.work_again-turn.ensures.known_2,
    )

pub shape_of-state : goal.shape_of-state
shape_of-state c =
    omega (arith, c.loop-k.invariant.0.after.sound.long, c.requires.waiting.sound.long)

pub shape_of-answers : goal.shape_of-answers
shape_of-answers c =
    omega (arith, c.loop-k.invariant.0.after.long)

pub shape_of-waiting : goal.shape_of-waiting
shape_of-waiting c =
    c.loop-k.invariant.1

pub returns : goal.returns
returns c =
    let a = c.args in record {
      passed_again = amid-all (rows-vote c.requires.rows a.faulty) a.list.now a.state.now a.answers.now a.waiting.now a.count c.requires.waiting c.loop-k.invariant.0
          (omega (arith, c.loop-k-test.false));
      known_2 = c.loop-k.invariant.2;
    }
