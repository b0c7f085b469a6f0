-- Two answers that meet a contract of this crate coincide.
use Prim.Native.Nat.{ℕ, ◌≤◌, ◌<◌}
use mathlib.Core.Bool.{Bool, true, false}
use mathlib.Core.Path.{◌≡◌, sym, ◌∙◌}
use native.Mathlib.Nat.{lt_of_lt_of_le}
use native.Mathlib.Omega.{arith}
use Rattle.ground.proofs.Logic.{clash}
use Rattle.ground.specs.Coincide.{Answers}
use Rattle.sets.proofs.blocks.Kinds as blocks-kinds
use Rattle.sets.proofs.blocks.Reads as blocks-reads
use Rattle.sets.proofs.check_set.Kinds as check-set-kinds
use Rattle.sets.proofs.check_set.Reads as check-set-reads
use Rattle.sets.proofs.has_slice.Kinds as has-slice-kinds
use Rattle.sets.proofs.has_slice.Reads as has-slice-reads
use Rattle.sets.proofs.is_quorum.Kinds as is-quorum-kinds
use Rattle.sets.proofs.is_quorum.Reads as is-quorum-reads
use Rattle.sets.proofs.next_inside.Kinds as next-inside-kinds
use Rattle.sets.proofs.next_inside.Reads as next-inside-reads

-- of two answers that each hold at their place and pass what is before it, the first is not below the second
not-below : (count start : ℕ) (inside : ℕ → Bool) (x y : ℕ) → (x < count → inside x ≡ true) → (x < count → start ≤ x) → y ≤ count
    → ((i : ℕ) → start ≤ i → i < y → inside i ≡ false) → x < y → ⊥
not-below count start inside x y holds from most passed l = let h = lt_of_lt_of_le l most in clash (holds h) (passed x (from h) l)

pub has-slice-coincide : Answers has-slice-kinds.ps has-slice-kinds.r has-slice-reads.Post
has-slice-coincide κs a x y s t p q = p ∙ sym q

pub next-inside-coincide : Answers next-inside-kinds.ps next-inside-kinds.r next-inside-reads.Post
next-inside-coincide κs a x y s t p q =
    let low = not-below _ _ _ x y p.1.0 p.1.1.1 q.0 q.1.1.0 in
    let high = not-below _ _ _ y x q.1.0 q.1.1.1 p.0 p.1.1.0 in
    omega arith

pub is-quorum-coincide : Answers is-quorum-kinds.ps is-quorum-kinds.r is-quorum-reads.Post
is-quorum-coincide κs a x y s t p q = p ∙ sym q

pub blocks-coincide : Answers blocks-kinds.ps blocks-kinds.r blocks-reads.Post
blocks-coincide κs a x y s t p q = p ∙ sym q

pub check-set-coincide : Answers check-set-kinds.ps check-set-kinds.r check-set-reads.Post
check-set-coincide κs a x y s t p q = p ∙ sym q
