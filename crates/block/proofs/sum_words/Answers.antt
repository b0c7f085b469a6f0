-- `sum_words` meets its contract: after so many turns of six words the sums are those of these words modulo 2^32.
use Rattle.std.proofs.Common.{◌≡◌, ◌*◌, arith, rules}
use Rattle.block.specs.Block.{sum_s, sum_t, check_s, check_t}
use Rattle.block.proofs.Laws.{as-many-s, as-many-t}
use Rattle.block.proofs.sum_words.Goals as goal

pub loop-turn-init : goal.loop-turn-init
unfolding sum_s sum_t
loop-turn-init c =
    search rules

pub returns : goal.returns
unfolding check_s check_t
returns c =
    let l = c.loop-turn in let e : 6 * c.loop-turn.turn ≡ 126 = omega (arith, c.loop-turn.invariant.0) in
    let b = c.args.b.now in (as-many-s b _ e c.loop-turn.invariant.1, as-many-t b _ e c.loop-turn.invariant.2)
