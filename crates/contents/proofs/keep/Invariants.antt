-- `keep` meets its contract: the words below w of site v are kept.
use Rattle.sets.specs.Inner.Rows.{rules_of}
use Rattle.contents.specs.Inner.{Kept, Contents}
use Rattle.contents.proofs.keep.Given as goal

abbrev pub invariant-loop-w : goal.invariant-loop-w
invariant-loop-w l =
    Contents (rules_of l.table) l.b l.v l.kept × Kept (rules_of l.table) l.v l.w l.kept
