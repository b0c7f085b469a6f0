-- Two results that meet a contract of this crate coincide: the number read, and the bytes after a write.
use Prim.Native.Nat.{ℕ}
use mathlib.Core.List.{List}
use mathlib.Core.Path.{refl, sym, ◌∙◌}
use Rattle.ground.specs.Coincide.{Answers, All}
use Rattle.le.proofs.get16.Kinds as get16-kinds
use Rattle.le.proofs.get16.Reads as get16-reads
use Rattle.le.proofs.get32.Kinds as get32-kinds
use Rattle.le.proofs.get32.Reads as get32-reads
use Rattle.le.proofs.get64.Kinds as get64-kinds
use Rattle.le.proofs.get64.Reads as get64-reads
use Rattle.le.proofs.put16.Kinds as put16-kinds
use Rattle.le.proofs.put16.Reads as put16-reads
use Rattle.le.proofs.put32.Kinds as put32-kinds
use Rattle.le.proofs.put32.Reads as put32-reads
use Rattle.le.proofs.put64.Kinds as put64-kinds
use Rattle.le.proofs.put64.Reads as put64-reads

pub get16-coincide : Answers get16-kinds.ps get16-kinds.r get16-reads.Post
get16-coincide κs a x y s t p q = p ∙ sym q

pub get32-coincide : Answers get32-kinds.ps get32-kinds.r get32-reads.Post
get32-coincide κs a x y s t p q = p ∙ sym q

pub get64-coincide : Answers get64-kinds.ps get64-kinds.r get64-reads.Post
get64-coincide κs a x y s t p q = p ∙ sym q

pub put16-coincide : All put16-kinds.ps put16-kinds.r (List ℕ) (λ κs s. s.0.now) put16-reads.Post
put16-coincide κs a x y s t p q = (refl, p ∙ sym q)

pub put32-coincide : All put32-kinds.ps put32-kinds.r (List ℕ) (λ κs s. s.0.now) put32-reads.Post
put32-coincide κs a x y s t p q = (refl, p ∙ sym q)

pub put64-coincide : All put64-kinds.ps put64-kinds.r (List ℕ) (λ κs s. s.0.now) put64-reads.Post
put64-coincide κs a x y s t p q = (refl, p ∙ sym q)
