-- `run_on` meets its contract: so many passes changed something, and the last one nothing.
use mathlib.Core.Path.{refl, ◌∙◌}
use native.Mathlib.Omega.{arith}
use borrow.Author.Tests.{not-true, not-false}
use Rattle.pass.proofs.Lawful.{rows-vote}
use Rattle.passes.proofs.Going.{begun-between, between-few, between_more, between_done}
use Rattle.passes.proofs.run_on.Goals as goal

pub gather-count-requires : goal.gather-count-requires
gather-count-requires c =
    let p = c.requires.begun in record { answers_in_bounds = p.room; answers_len_bound = p.short }

pub loop-round-init : goal.loop-round-init
loop-round-init c =
    let G = c.gather-count in (
      begun-between (rows-vote c.requires.rows c.args.faulty) c.args.list.now c.requires.begun c.gather-count.ensures.places c.gather-count.ensures.few
          c.gather-count.auto.waiting,
      refl,
      refl,
      refl,
      c.requires.known,
    )

pub over_waiting-round-requires : goal.over_waiting-round-requires
over_waiting-round-requires c =
    record { rows = c.requires.rows; known = c.loop-round.invariant.4; waiting = c.loop-round.invariant.0.waiting }

pub overflow_add-passes : goal.overflow_add-passes
overflow_add-passes c =
    let I = c.loop-round.invariant in omega (arith, between-few (rows-vote c.requires.rows c.args.faulty) c.args.list.now c.loop-round.passes I.0, I.0.waiting.short)

pub shape_of-state-then-not-round : goal.shape_of-state-then-not-round
shape_of-state-then-not-round c =
    c.over_waiting-round.auto.state ∙ c.loop-round.invariant.1

pub shape_of-answers-then-not-round : goal.shape_of-answers-then-not-round
shape_of-answers-then-not-round c =
    c.over_waiting-round.auto.answers ∙ c.loop-round.invariant.2

pub shape_of-waiting-then-not-round : goal.shape_of-waiting-then-not-round
shape_of-waiting-then-not-round c =
    c.over_waiting-round.auto.waiting ∙ c.loop-round.invariant.3 ∙ c.gather-count.auto.waiting

pub returns-then-not-round : goal.returns-then-not-round
returns-then-not-round c =
    between_done (rows-vote c.requires.rows c.args.faulty) c.args.list.now c.loop-round.passes c.loop-round.invariant.0 c.over_waiting-round.ensures.passed_again
    (not-true _ c.if-not-round.true)

pub loop-round-smaller : goal.loop-round-smaller
loop-round-smaller c =
    omega (arith, between-few (rows-vote c.requires.rows c.args.faulty) c.args.list.now c.loop-round.passes c.loop-round.invariant.0, c.loop-round.invariant.2)

pub loop-round-preserved : goal.loop-round-preserved
loop-round-preserved c =
    let I = c.loop-round.invariant in let K = c.over_waiting-round.auto in (
      between_more (rows-vote c.requires.rows c.args.faulty) c.args.list.now c.loop-round.passes I.0 c.over_waiting-round.ensures.passed_again K.answers K.waiting
          (not-false _ c.if-not-round.false),
      K.state ∙ I.1,
      K.answers ∙ I.2,
      K.waiting ∙ I.3,
      c.over_waiting-round.ensures.known_2,
    )
