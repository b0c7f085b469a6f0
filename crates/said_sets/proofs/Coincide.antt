-- Two results that meet a contract of this crate coincide: the number answered, and the four cells of `out`.
use Prim.Native.Nat.{ℕ}
use mathlib.Core.List.{List}
use mathlib.Core.Path.{sym, ◌∙◌}
use Rattle.ground.specs.Coincide.{All}
use Rattle.said_sets.proofs.holds.Kinds as holds-kinds
use Rattle.said_sets.proofs.holds.Reads as holds-reads
use Rattle.said_sets.proofs.greatest.Kinds as greatest-kinds
use Rattle.said_sets.proofs.greatest.Reads as greatest-reads
use Rattle.said_sets.proofs.sharing.Kinds as sharing-kinds
use Rattle.said_sets.proofs.sharing.Reads as sharing-reads

pub holds-coincide : All holds-kinds.ps holds-kinds.r (List ℕ) (λ κs s. s.1.0.now) holds-reads.Post
holds-coincide κs a x y s t p q = (p.0 ∙ sym q.0, p.1 ∙ sym q.1)

pub greatest-coincide : All greatest-kinds.ps greatest-kinds.r (List ℕ) (λ κs s. s.1.0.now) greatest-reads.Post
greatest-coincide κs a x y s t p q = (p.0 ∙ sym q.0, p.1 ∙ sym q.1)

pub sharing-coincide : All sharing-kinds.ps sharing-kinds.r (List ℕ) (λ κs s. s.1.0.now) sharing-reads.Post
sharing-coincide κs a x y s t p q = (p.0 ∙ sym q.0, p.1 ∙ sym q.1)
