-- Two results that meet a contract of this crate coincide: the number answered, the four cells of `out`, and the rooms at exit.
use Prim.Native.Nat.{ℕ}
use mathlib.Core.List.{List}
use mathlib.Core.Path.{◌≡◌, sym, ◌∙◌}
use base.Logic.{SProp, ent, sep, id⊢}
use contract.Lifetimes.{Lfts}
use contract.Monad.{Fun, fact}
use denote.Triple.Clauses.{AtExit}
use denote.Triple.Entry.{Args, Res}
use types.Logic.{Logic}
use seplogic.Ra.Ura.{Ura}
use prog.Memory.{Memory}
use prog.Routine.{Routine}
use Rattle.ground.specs.Coincide.{All}
use Rattle.packing.proofs.Facts.{both}
use Rattle.capi.proofs.siren_blocks.Kinds as siren-blocks-kinds
use Rattle.capi.proofs.siren_blocks.Reads as siren-blocks-reads
use Rattle.capi.proofs.siren_image_read.Kinds as siren-image-read-kinds
use Rattle.capi.proofs.siren_image_read.Reads as siren-image-read-reads
use Rattle.capi.proofs.siren_image_write.Kinds as siren-image-write-kinds
use Rattle.capi.proofs.siren_image_write.Reads as siren-image-write-reads
use Rattle.capi.proofs.siren_intact.Kinds as siren-intact-kinds
use Rattle.capi.proofs.siren_intact.Reads as siren-intact-reads
use Rattle.capi.proofs.siren_journal_check.Kinds as siren-journal-check-kinds
use Rattle.capi.proofs.siren_journal_check.Reads as siren-journal-check-reads
use Rattle.capi.proofs.siren_journal_list.Kinds as siren-journal-list-kinds
use Rattle.capi.proofs.siren_journal_list.Reads as siren-journal-list-reads
use Rattle.capi.proofs.siren_journal_next.Kinds as siren-journal-next-kinds
use Rattle.capi.proofs.siren_journal_next.Reads as siren-journal-next-reads
use Rattle.capi.proofs.siren_journal_write.Kinds as siren-journal-write-kinds
use Rattle.capi.proofs.siren_journal_write.Reads as siren-journal-write-reads
use Rattle.capi.proofs.siren_largest.Kinds as siren-largest-kinds
use Rattle.capi.proofs.siren_largest.Reads as siren-largest-reads
use Rattle.capi.proofs.siren_quorum.Kinds as siren-quorum-kinds
use Rattle.capi.proofs.siren_quorum.Reads as siren-quorum-reads
use Rattle.capi.proofs.siren_run.Kinds as siren-run-kinds
use Rattle.capi.proofs.siren_run.Reads as siren-run-reads
use Rattle.capi.specs.contracts.siren_run_records as siren-run-records
use Rattle.capi.proofs.siren_shared.Kinds as siren-shared-kinds
use Rattle.capi.proofs.siren_shared.Reads as siren-shared-reads
use Rattle.capi.proofs.siren_sound.Kinds as siren-sound-kinds
use Rattle.capi.proofs.siren_sound.Reads as siren-sound-reads
use Rattle.capi.proofs.siren_step.Kinds as siren-step-kinds
use Rattle.capi.proofs.siren_step.Reads as siren-step-reads
use Rattle.capi.proofs.siren_table_check.Kinds as siren-table-check-kinds
use Rattle.capi.proofs.siren_table_check.Reads as siren-table-check-reads

pub siren-table-check-coincide : All siren-table-check-kinds.ps siren-table-check-kinds.r (List ℕ) (λ κs s. s.1.0.now) siren-table-check-reads.Post
siren-table-check-coincide κs a x y s t p q = (p.0 ∙ sym q.0, p.1 ∙ sym q.1)

pub siren-image-read-coincide : All siren-image-read-kinds.ps siren-image-read-kinds.r (List ℕ × List ℕ) (λ κs s. (s.1.1.0.now, s.1.0.now)) siren-image-read-reads.Post
siren-image-read-coincide κs a x y s t p q = (p.0 ∙ sym q.0, λ i. ((p.1.0 ∙ sym q.1.0) i, (p.1.1 ∙ sym q.1.1) i))

pub siren-image-write-coincide : All siren-image-write-kinds.ps siren-image-write-kinds.r (List ℕ × List ℕ) (λ κs s. (s.1.1.0.now, s.1.0.now)) siren-image-write-reads.Post
siren-image-write-coincide κs a x y s t p q = (p.0 ∙ sym q.0, λ i. ((p.1.0 ∙ sym q.1.0) i, (p.1.1 ∙ sym q.1.1) i))

pub siren-quorum-coincide : All siren-quorum-kinds.ps siren-quorum-kinds.r (List ℕ) (λ κs s. s.1.1.0.now) siren-quorum-reads.Post
siren-quorum-coincide κs a x y s t p q = (p.0 ∙ sym q.0, p.1 ∙ sym q.1)

pub siren-largest-coincide : All siren-largest-kinds.ps siren-largest-kinds.r (List ℕ) (λ κs s. s.1.1.0.now) siren-largest-reads.Post
siren-largest-coincide κs a x y s t p q = (p.0 ∙ sym q.0, p.1 ∙ sym q.1)

pub siren-blocks-coincide : All siren-blocks-kinds.ps siren-blocks-kinds.r (List ℕ) (λ κs s. s.1.1.1.0.now) siren-blocks-reads.Post
siren-blocks-coincide κs a x y s t p q = (p.0 ∙ sym q.0, p.1 ∙ sym q.1)

pub siren-shared-coincide : All siren-shared-kinds.ps siren-shared-kinds.r (List ℕ) (λ κs s. s.1.0.now) siren-shared-reads.Post
siren-shared-coincide κs a x y s t p q = (p.0 ∙ sym q.0, p.1 ∙ sym q.1)

pub siren-intact-coincide : All siren-intact-kinds.ps siren-intact-kinds.r (List ℕ) (λ κs s. s.1.1.0.now) siren-intact-reads.Post
siren-intact-coincide κs a x y s t p q = (p.0 ∙ sym q.0, p.1 ∙ sym q.1)

pub siren-sound-coincide : All siren-sound-kinds.ps siren-sound-kinds.r (List ℕ) (λ κs s. s.1.1.1.0.now) siren-sound-reads.Post
siren-sound-coincide κs a x y s t p q = (p.0 ∙ sym q.0, p.1 ∙ sym q.1)

pub siren-step-coincide : All siren-step-kinds.ps siren-step-kinds.r (List ℕ × List ℕ) (λ κs s. (s.1.1.1.1.1.1.1.0.now, s.1.1.0.now)) siren-step-reads.Post
siren-step-coincide κs a x y s t p q = (p.0 ∙ sym q.0, λ i. ((p.1.0 ∙ sym q.1.0) i, (p.1.1 ∙ sym q.1.1) i))

pub siren-run-coincide : All siren-run-kinds.ps siren-run-kinds.r (List ℕ × (List ℕ × List ℕ)) (λ κs s. (s.1.1.1.1.1.0.now, (s.1.1.1.0.now, s.1.1.1.1.0.now))) siren-run-reads.Post
siren-run-coincide κs a x y s t p q = (p.0 ∙ sym q.0, λ i. ((p.1.0 ∙ sym q.1.0) i, ((p.1.1.0 ∙ sym q.1.1.0) i, (p.1.1.1 ∙ sym q.1.1.1) i)))

pub siren-journal-check-coincide : All siren-journal-check-kinds.ps siren-journal-check-kinds.r (List ℕ) (λ κs s. s.1.0.now) siren-journal-check-reads.Post
siren-journal-check-coincide κs a x y s t p q = (p.0 ∙ sym q.0, p.1 ∙ sym q.1)

pub siren-journal-next-coincide : All siren-journal-next-kinds.ps siren-journal-next-kinds.r (List ℕ) (λ κs s. s.1.1.0.now) siren-journal-next-reads.Post
siren-journal-next-coincide κs a x y s t p q = (p.0 ∙ sym q.0, p.1 ∙ sym q.1)

pub siren-journal-list-coincide : All siren-journal-list-kinds.ps siren-journal-list-kinds.r (List ℕ × List ℕ) (λ κs s. (s.1.1.0.now, s.1.0.now)) siren-journal-list-reads.Post
siren-journal-list-coincide κs a x y s t p q = (p.0 ∙ sym q.0, λ i. ((p.1.0 ∙ sym q.1.0) i, (p.1.1 ∙ sym q.1.1) i))

pub siren-journal-write-coincide : All siren-journal-write-kinds.ps siren-journal-write-kinds.r (List ℕ × List ℕ) (λ κs s. (s.1.1.0.now, s.1.0.now)) siren-journal-write-reads.Post
siren-journal-write-coincide κs a x y s t p q = (p.0 ∙ sym q.0, λ i. ((p.1.0 ∙ sym q.1.0) i, (p.1.1 ∙ sym q.1.1) i))

-- of `siren_run_records` the claims are the clauses of the contract, as assertions: two of them together entail that the results are equal
module _ {M : Type 1} (𝓤 : Ura M) where
  -- four clauses as one fact
  all : {φ ψ χ ω : Type 0} → ent 𝓤 (sep 𝓤 (fact 𝓤 φ) (sep 𝓤 (fact 𝓤 ψ) (sep 𝓤 (fact 𝓤 χ) (fact 𝓤 ω)))) (fact 𝓤 (φ × (ψ × (χ × ω))))
  all {φ} {ψ} {χ} {ω} =
      both 𝓤 (id⊢ 𝓤 (fact 𝓤 φ)) (both 𝓤 (id⊢ 𝓤 (fact 𝓤 ψ)) (both 𝓤 (id⊢ 𝓤 (fact 𝓤 χ)) (id⊢ 𝓤 (fact 𝓤 ω)) (λ z w. (z, w))) (λ y zw. (y, zw))) (λ x yzw. (x, yzw))

module _ {M : Type 1} {𝓤 : Ura M} (𝓛 : Logic 𝓤) (mem : Memory → SProp 𝓤) (run : Routine → Fun 𝓤) where
  module _ (κs : Lfts 5) (a : Args siren-run-records.signature κs) where
    abbrev RunClaim : Res siren-run-records.signature κs → AtExit siren-run-records.ended κs → SProp 𝓤
    RunClaim x s = (siren-run-records.clauses 𝓛 mem run κs a).ensures tt x s

    pub siren-run-records-coincide : (x y : Res siren-run-records.signature κs) (s t : AtExit siren-run-records.ended κs) →
        ent 𝓤 (sep 𝓤 (RunClaim x s) (RunClaim y t))
        (fact 𝓤 ((x ≡ y) × ((s.1.1.1.1.1.0.now ≡ t.1.1.1.1.1.0.now) ×
        ((s.1.1.1.0.now ≡ t.1.1.1.0.now) × (s.1.1.1.1.0.now ≡ t.1.1.1.1.0.now)))))
    siren-run-records-coincide x y s t = both 𝓤 (all 𝓤) (all 𝓤) (λ p q.
        (p.0 ∙ sym q.0, (p.1.0 ∙ sym q.1.0, (p.1.1.0 ∙ sym q.1.1.0, p.1.1.1 ∙ sym q.1.1.1))))
