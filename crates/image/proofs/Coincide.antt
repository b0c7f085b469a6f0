-- Two results that meet a contract of this crate coincide: the answers, and the lent room at exit.
use Prim.Native.Nat.{ℕ}
use mathlib.Core.List.{List}
use mathlib.Core.Path.{sym, ap, ◌∙◌}
use Rattle.ground.specs.Coincide.{All}
use Rattle.image.specs.Read.{read_into}
use Rattle.image.proofs.read.Kinds as read-kinds
use Rattle.image.proofs.read.Reads as read-reads

pub read-coincide : All read-kinds.ps read-kinds.r (List ℕ) (λ κs s. s.1.0.now) read-reads.Post
read-coincide κs a x y s t p q =
    let e = p.0 ∙ sym q.0 in
    (e, p.1 ∙ ap (λ r. read_into r a.0.now a.1.0.now) e ∙ sym q.1)
