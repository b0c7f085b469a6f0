-- What is left to read gives what the whole text gives.
use mathlib.Core.Path.{◌≡◌}
use Prim.Native.Nat.{◌+◌, ◌≤◌}
use lib.ListN.{length, drop}
use Rattle.table_words.specs.declared.Begun.TheVariants.{Fresh}
use Rattle.table_grammar.specs.Grammar.{Sane}
use Rattle.table_reading.specs.Reading.{here, read_on, start}
use Rattle.table_reading.proofs.walk.Given as goal

abbrev pub invariant-loop-b : goal.invariant-loop-b
invariant-loop-b l =
    (length l.t ≡ length l.initial.t) × (l.s.line ≤ l.b-index + 1) × (Sane l.s) × (read_on (here l.w l.s l.t) (drop l.b-index l.text) ≡ read_on (here Fresh start l.initial.t) l.text)
