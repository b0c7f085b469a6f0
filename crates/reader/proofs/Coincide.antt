-- Two results that meet a contract of this crate coincide: the list behind the slice, what a reader holds, and the answer.
use mathlib.Core.Path.{◌≡◌, sym, ◌∙◌}
use base.Logic.{SProp, ent, sep, fst∗, snd∗}
use borrow.Fn.Kinds.{Dens, res_t, ended_of}
use contract.Lifetimes.{Lfts}
use contract.Monad.{Fun, fact, fact_i, fact_use}
use denote.Triple.Clauses.{AtExit}
use denote.Triple.Entry.{Args, Res}
use types.Logic.{Logic}
use seplogic.Ra.Ura.{Ura}
use prog.Memory.{Memory}
use prog.Routine.{Routine}
use Rattle.reader.specs.contracts.moved as moved
use Rattle.reader.specs.contracts.next as next
use Rattle.reader.specs.contracts.open as opened
use Rattle.reader.proofs.sound_part.Kinds as sound-part-kinds
use Rattle.reader.proofs.sound_part.Reads as sound-part-reads

-- a slice of the journal: the list behind it
pub sound-part-coincide : (κs : Lfts 1) (a : Dens κs sound-part-kinds.ps) (x y : (res_t sound-part-kinds.r κs).Denot)
    (s t : AtExit (ended_of 1 sound-part-kinds.ps sound-part-kinds.r) κs) → sound-part-reads.Post κs a x s → sound-part-reads.Post κs a y t → x.now ≡ y.now
sound-part-coincide κs a x y s t p q = p ∙ sym q

-- of the functions over a reader the claims are the clauses of the contract, as assertions: two of them together entail that the results are equal
module _ {M : Type 1} (𝓤 : Ura M) where
  both : {φ ψ χ : Type 0} → (φ → ψ → χ) → ent 𝓤 (sep 𝓤 (fact 𝓤 φ) (fact 𝓤 ψ)) (fact 𝓤 χ)
  both {φ} {ψ} {χ} f =
      fact_use 𝓤 φ (fst∗ 𝓤 (fact 𝓤 φ) (fact 𝓤 ψ)) (λ x. fact_use 𝓤 ψ (snd∗ 𝓤 (fact 𝓤 φ) (fact 𝓤 ψ)) (λ y. fact_i 𝓤 χ (sep 𝓤 (fact 𝓤 φ) (fact 𝓤 ψ)) (f x y)))

module _ {M : Type 1} {𝓤 : Ura M} (𝓛 : Logic 𝓤) (mem : Memory → SProp 𝓤) (run : Routine → Fun 𝓤) (κs : Lfts 1) where
  module _ (a : Args opened.signature κs) where
    abbrev OpenClaim : Res opened.signature κs → AtExit opened.ended κs → SProp 𝓤
    OpenClaim x s = (opened.clauses 𝓛 mem run κs a).ensures tt x s

    -- the list behind the slice, and the place
    pub open-coincide : (x y : Res opened.signature κs) (s t : AtExit opened.ended κs) →
        ent 𝓤 (sep 𝓤 (OpenClaim x s) (OpenClaim y t)) (fact 𝓤 ((x.src.now ≡ y.src.now) × (x.at ≡ y.at)))
    open-coincide x y s t = both 𝓤 (λ p q. (p.0 ∙ sym q.0, p.1 ∙ sym q.1))

  module _ (a : Args next.signature κs) where
    abbrev NextClaim : Res next.signature κs → AtExit next.ended κs → SProp 𝓤
    NextClaim x s = (next.clauses 𝓛 mem run κs a).ensures tt x s

    pub next-coincide : (x y : Res next.signature κs) (s t : AtExit next.ended κs) → ent 𝓤 (sep 𝓤 (NextClaim x s) (NextClaim y t)) (fact 𝓤 (x ≡ y))
    next-coincide x y s t = both 𝓤 (λ p q. p ∙ sym q)

  module _ (a : Args moved.signature κs) where
    abbrev MovedClaim : Res moved.signature κs → AtExit moved.ended κs → SProp 𝓤
    MovedClaim x s = (moved.clauses 𝓛 mem run κs a).ensures tt x s

    pub moved-coincide : (x y : Res moved.signature κs) (s t : AtExit moved.ended κs) → ent 𝓤 (sep 𝓤 (MovedClaim x s) (MovedClaim y t)) (fact 𝓤 (x ≡ y))
    moved-coincide x y s t = both 𝓤 (λ p q i. record { src = (p.0 ∙ sym q.0) i; at = (p.1 ∙ sym q.1) i })
