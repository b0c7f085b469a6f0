-- Two results that meet a contract of this crate coincide: the number answered, and the four cells of `out`.
use Prim.Native.Nat.{ℕ}
use mathlib.Core.List.{List}
use mathlib.Core.Path.{sym, ◌∙◌}
use Rattle.ground.specs.Coincide.{All}
use Rattle.said_journal.proofs.checked.Kinds as checked-kinds
use Rattle.said_journal.proofs.checked.Reads as checked-reads
use Rattle.said_journal.proofs.taken.Kinds as taken-kinds
use Rattle.said_journal.proofs.taken.Reads as taken-reads

pub checked-coincide : All checked-kinds.ps checked-kinds.r (List ℕ) (λ κs s. s.1.0.now) checked-reads.Post
checked-coincide κs a x y s t p q = (p.0 ∙ sym q.0, p.1 ∙ sym q.1)

pub taken-coincide : All taken-kinds.ps taken-kinds.r (List ℕ) (λ κs s. s.1.1.0.now) taken-reads.Post
taken-coincide κs a x y s t p q = (p.0 ∙ sym q.0, p.1 ∙ sym q.1)
