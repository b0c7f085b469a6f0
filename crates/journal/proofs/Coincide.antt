-- Two results that meet a contract of this crate coincide: the answers, and the lent room at exit.
use Prim.Native.Nat.{ℕ}
use mathlib.Core.List.{List}
use mathlib.Core.Path.{sym, ap, ◌∙◌}
use Rattle.ground.specs.Coincide.{All, Answers}
use Rattle.journal.specs.Journal.{list_into}
use Rattle.journal.proofs.check.Kinds as check-kinds
use Rattle.journal.proofs.check.Reads as check-reads
use Rattle.journal.proofs.list.Kinds as list-kinds
use Rattle.journal.proofs.list.Reads as list-reads

pub check-coincide : Answers check-kinds.ps check-kinds.r check-reads.Post
check-coincide κs a x y s t p q = p ∙ sym q

pub list-coincide : All list-kinds.ps list-kinds.r (List ℕ) (λ κs s. s.1.0.now) list-reads.Post
list-coincide κs a x y s t p q =
    let e = p.0 ∙ sym q.0 in
    (e, p.1 ∙ ap (λ r. list_into r a.0.now a.1.0.now) e ∙ sym q.1)
