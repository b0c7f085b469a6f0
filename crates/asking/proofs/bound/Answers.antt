-- `bound` meets its contract: the largest quorum inside the larger set bounds the sets inside it, and whatever bounds the empty set.
use mathlib.Core.Path.{sym, subst}
use Rattle.asking.specs.Inner.{Bounds}
use Rattle.asking.proofs.AskedLaws.{bounded-now, unbounded-now}
use Rattle.asking.proofs.BoundLaws.{bounds-largest}
use Rattle.sets.specs.Inner.Rows.{row_questions}
use Rattle.asking.proofs.bound.Goals as goal

pub returns-then-l-larger : goal.returns-then-l-larger
returns-then-l-larger c =
    let a = c.args in let e = c.largest_set-l.ensures in unbounded-now (bounded-now c.requires.asked _ (subst (Bounds (row_questions a.table.now a.n) _) (sym c.largest_set-l.ensures) (bounds-largest c.requires.rows _)))

pub returns-else-l-larger : goal.returns-else-l-larger
returns-else-l-larger c =
    let a = c.args in let e = c.largest_set-l.ensures in bounded-now c.requires.asked _ (subst (Bounds (row_questions a.table.now a.n) _) (sym c.largest_set-l.ensures) (bounds-largest c.requires.rows _))
