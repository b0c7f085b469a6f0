-- `sum_words` meets its contract: after so many turns of six words the sums are those of these words modulo 2^32.
use Rattle.std.proofs.Common.{◌≡◌, ◌*◌, ◌%◌, ◌^◌, ◌≤◌}
use Rattle.block.specs.Block.{sum_s, sum_t}
use Rattle.block.proofs.sum_words.Given as goal

abbrev pub invariant-loop-turn : goal.invariant-loop-turn
invariant-loop-turn l =
    (l.turn ≤ 21) × (l.sums.s ≡ sum_s l.b (6 * l.turn) % 2 ^ 32) × (l.sums.t ≡ sum_t l.b (6 * l.turn) % 2 ^ 32)
