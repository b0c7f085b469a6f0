-- Two results that meet a contract of this crate coincide: the answers, and the lent room at exit.
use Prim.Native.Nat.{ℕ}
use mathlib.Core.List.{List}
use mathlib.Core.Path.{sym, ◌∙◌}
use Rattle.ground.specs.Coincide.{Answers, All}
use Rattle.text.proofs.Written.{once}
use Rattle.text.proofs.put.Kinds as put-kinds
use Rattle.text.proofs.put.Reads as put_reads
use Rattle.text.proofs.put_decimal.Kinds as put-decimal-kinds
use Rattle.text.proofs.put_decimal.Reads as put-decimal-reads
use Rattle.text.proofs.put_mask.Kinds as put-mask-kinds
use Rattle.text.proofs.put_mask.Reads as put-mask-reads
use Rattle.text.proofs.mask_typed.Kinds as mask-typed-kinds
use Rattle.text.proofs.mask_typed.Reads as mask-typed-reads

pub put-coincide : All put-kinds.ps put-kinds.r (List ℕ) (λ κs s. s.0.now) put_reads.Post
put-coincide κs a x y s t p q = once p q

pub put-decimal-coincide : All put-decimal-kinds.ps put-decimal-kinds.r (List ℕ) (λ κs s. s.0.now) put-decimal-reads.Post
put-decimal-coincide κs a x y s t p q = once p q

pub put-mask-coincide : All put-mask-kinds.ps put-mask-kinds.r (List ℕ) (λ κs s. s.0.now) put-mask-reads.Post
put-mask-coincide κs a x y s t p q = once p q

pub mask-typed-coincide : Answers mask-typed-kinds.ps mask-typed-kinds.r mask-typed-reads.Post
mask-typed-coincide κs a x y s t p q = p ∙ sym q
