-- `gather` meets its contract: the places before i are gathered.
use mathlib.Core.Path.{refl, ◌∙◌}
use native.Mathlib.Omega.{arith}
use lib.Dec.{eqb}
use lib.ListN.{get_or}
use Rattle.waiting.proofs.Places.{listed-turn, kept-few}
use Rattle.waiting.proofs.gather.Goals as goal

pub loop-i-preserved : goal.loop-i-preserved
loop-i-preserved c =
    let I = c.loop-i.invariant in let K = c.keep-count in let b = eqb (get_or c.args.answers.now c.loop-i.i 0) 15 in (
      listed-turn b I.0 (omega (arith, I.1, I.2, c.requires.answers_in_bounds)) refl K.ensures.many K.ensures.memory,
      kept-few b K.ensures.many I.1,
      K.auto.waiting ∙ I.2,
    )
