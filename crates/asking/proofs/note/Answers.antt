-- `note` meets its contract: the bound stays, or is the largest quorum inside all that was asked in vain.
use mathlib.Core.Path.{sym, subst}
use native.Mathlib.Omega.{arith}
use Rattle.asking.specs.Inner.{Bounds}
use Rattle.asking.proofs.BoundLaws.{bounds-largest}
use Rattle.asking.proofs.KnownLaws.{known_kept, known-now}
use Rattle.sets.specs.Inner.Rows.{row_questions}
use Rattle.asking.proofs.note.Goals as goal

pub returns-then-count-lt64 : goal.returns-then-count-lt64
returns-then-count-lt64 c =
    known_kept (known_kept c.requires.known 2 _ (λ z. omega arith) (λ z. omega arith)) 3 _ (λ z. omega arith) (λ z. omega arith)

pub returns : goal.returns
returns c =
    let a = c.args in let kept = known_kept (known_kept c.requires.known 2 _ (λ z. omega arith) (λ z. omega arith)) 3 0 (λ z. omega arith) (λ z. omega arith) in
    known-now kept _ _ (subst (Bounds (row_questions a.table.now a.n) _) (sym c.largest_set-l.ensures) (bounds-largest c.requires.rows _))
