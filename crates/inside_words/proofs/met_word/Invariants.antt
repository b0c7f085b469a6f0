-- `met_word` meets its contract: the sets before j are asked.
use Prim.Native.Nat.{◌+◌, ◌*◌}
use mathlib.Core.Path.{◌≡◌}
use Rattle.masks.specs.Mask.{gather}
use Rattle.sets.specs.Inner.Rows.{rules_of}
use Rattle.inside_words.proofs.met_word.Given as goal

abbrev pub invariant-loop-j : goal.invariant-loop-j
invariant-loop-j l =
    (l.word ≡ gather l.j (λ k. (rules_of l.table).inside l.v (l.w * 64 + k)))
