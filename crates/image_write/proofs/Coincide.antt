-- Two results that meet a contract of this crate coincide: the answers, and the lent room at exit.
use Prim.Native.Nat.{ℕ}
use mathlib.Core.List.{List}
use mathlib.Core.Path.{sym, ap, ◌∙◌}
use Rattle.ground.specs.Coincide.{All}
use Rattle.image_write.specs.Write.{write_into}
use Rattle.image_write.proofs.write.Kinds as write-kinds
use Rattle.image_write.proofs.write.Reads as write-reads

pub write-coincide : All write-kinds.ps write-kinds.r (List ℕ) (λ κs s. s.1.0.now) write-reads.Post
write-coincide κs a x y s t p q =
    let e = p.0 ∙ sym q.0 in
    (e, p.1 ∙ ap (λ r. write_into r a.0.now a.1.0.now) e ∙ sym q.1)
