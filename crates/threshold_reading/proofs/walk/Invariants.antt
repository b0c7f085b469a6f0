-- What is left to read gives what the whole text gives.
use mathlib.Core.Path.{◌≡◌}
use Prim.Native.Nat.{◌+◌, ◌≤◌}
use lib.ListN.{length, drop, replicate}
use Rattle.threshold_words.specs.declared.Begun.TheVariants.{Fresh}
use Rattle.threshold_grammar.specs.Grammar.{ThresholdSane}
use Rattle.threshold_reading.specs.Inner.{Few}
use Rattle.threshold_reading.specs.Reading.{threshold_here, threshold_read_on, threshold_start}
use Rattle.threshold_reading.proofs.walk.Given as goal

abbrev pub invariant-loop-b : goal.invariant-loop-b
invariant-loop-b l =
    (length l.t ≡ length l.initial.t) × (l.s.line ≤ l.b-index + 1) × (ThresholdSane l.s) × (Few (l.b-index + 1) l.t)
    × (threshold_read_on (threshold_here l.w l.s l.t) (drop l.b-index l.text) ≡ threshold_read_on (threshold_here Fresh threshold_start (replicate 9472 0)) l.text)
