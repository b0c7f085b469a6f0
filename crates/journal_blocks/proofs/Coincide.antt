-- Two results that meet a contract of this crate coincide: the answer, or what the lent room holds at exit.
use Prim.Native.Nat.{ℕ}
use mathlib.Core.List.{List}
use mathlib.Core.Path.{refl, sym, ◌∙◌}
use Rattle.ground.specs.Coincide.{All, Answers}
use Rattle.journal_blocks.proofs.check_blocks.Kinds as check-blocks-kinds
use Rattle.journal_blocks.proofs.check_blocks.Reads as check-blocks-reads
use Rattle.journal_blocks.proofs.list_blocks.Kinds as list-blocks-kinds
use Rattle.journal_blocks.proofs.list_blocks.Reads as list-blocks-reads
use Rattle.journal_blocks.proofs.store_blocks.Kinds as store-blocks-kinds
use Rattle.journal_blocks.proofs.store_blocks.Reads as store-blocks-reads

pub check-blocks-coincide : Answers check-blocks-kinds.ps check-blocks-kinds.r check-blocks-reads.Post
check-blocks-coincide κs a x y s t p q = p ∙ sym q

pub list-blocks-coincide : All list-blocks-kinds.ps list-blocks-kinds.r (List ℕ) (λ κs s. s.1.1.0.now) list-blocks-reads.Post
list-blocks-coincide κs a x y s t p q = (refl, p ∙ sym q)

pub store-blocks-coincide : All store-blocks-kinds.ps store-blocks-kinds.r (List ℕ) (λ κs s. s.1.1.0.now) store-blocks-reads.Post
store-blocks-coincide κs a x y s t p q = (refl, p ∙ sym q)
