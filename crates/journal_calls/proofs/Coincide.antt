-- Two results that meet a contract of this crate coincide: what the lent memory holds at exit.
use Prim.Native.Nat.{ℕ}
use mathlib.Core.List.{List}
use mathlib.Core.Path.{refl, sym, ◌∙◌}
use Rattle.ground.specs.Coincide.{All}
use Rattle.journal_calls.proofs.copy_calls.Kinds as copy-calls-kinds
use Rattle.journal_calls.proofs.copy_calls.Reads as copy-calls-reads
use Rattle.journal_calls.proofs.store_block.Kinds as store-block-kinds
use Rattle.journal_calls.proofs.store_block.Reads as store-block-reads

pub copy-calls-coincide : All copy-calls-kinds.ps copy-calls-kinds.r (List ℕ) (λ κs s. s.1.0.now) copy-calls-reads.Post
copy-calls-coincide κs a x y s t p q = (refl, p ∙ sym q)

pub store-block-coincide : All store-block-kinds.ps store-block-kinds.r (List ℕ) (λ κs s. s.1.1.0.now) store-block-reads.Post
store-block-coincide κs a x y s t p q = (refl, p ∙ sym q)
