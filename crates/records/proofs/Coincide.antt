-- Two results that meet the contract of `run_records` coincide: the answer, and both rooms at exit. The claims are the clauses of the contract, as
-- assertions: two of them together entail that the results are equal.
use Prim.Native.Nat.{ℕ}
use Rattle.refusals.specs.Check.{Answer}
use mathlib.Core.Path.{◌≡◌, sym, ap, ◌∙◌}
use base.Logic.{SProp, ent, sep, id⊢}
use contract.Lifetimes.{Lfts}
use contract.Monad.{Fun, fact}
use denote.Triple.Clauses.{AtExit}
use denote.Triple.Entry.{Args, Res}
use types.Logic.{Logic}
use seplogic.Ra.Ura.{Ura}
use prog.Memory.{Memory}
use prog.Routine.{Routine}
use Rattle.packing.proofs.Facts.{both}
use Rattle.records.specs.contracts.run_records as run-records
use Rattle.packing.specs.Pack.{bytes_of}
use Rattle.run.specs.Run.{state_into, answers_into}
use Rattle.sets.specs.Groups.{lists}

module _ {M : Type 1} (𝓤 : Ura M) where
  -- three clauses as one fact
  all : {φ ψ χ : Type 0} → ent 𝓤 (sep 𝓤 (fact 𝓤 φ) (sep 𝓤 (fact 𝓤 ψ) (fact 𝓤 χ))) (fact 𝓤 (φ × (ψ × χ)))
  all {φ} {ψ} {χ} = both 𝓤 (id⊢ 𝓤 (fact 𝓤 φ)) (both 𝓤 (id⊢ 𝓤 (fact 𝓤 ψ)) (id⊢ 𝓤 (fact 𝓤 χ)) (λ y z. (y, z))) (λ x yz. (x, yz))

module _ {M : Type 1} {𝓤 : Ura M} (𝓛 : Logic 𝓤) (mem : Memory → SProp 𝓤) (run : Routine → Fun 𝓤) where
  module _ (κs : Lfts 4) (a : Args run-records.signature κs) where
    abbrev RunClaim : Res run-records.signature κs → AtExit run-records.ended κs → SProp 𝓤
    RunClaim x s = (run-records.clauses 𝓛 mem run κs a).ensures tt x s

    pub run-records-coincide : (x y : Res run-records.signature κs) (s t : AtExit run-records.ended κs) →
        ent 𝓤 (sep 𝓤 (RunClaim x s) (RunClaim y t)) (fact 𝓤 ((x ≡ y) × ((s.1.1.1.0.now ≡ t.1.1.1.0.now) × (s.1.1.1.1.0.now ≡ t.1.1.1.1.0.now))))
    run-records-coincide x y s t = both 𝓤 (all 𝓤) (all 𝓤) (λ p q.
        let e = p.0 ∙ sym q.0 in (
          e,
          (
            p.1.0 ∙ ap (λ (r : Answer ℕ). state_into r (lists a.0.now) a.1.0 (bytes_of a.1.1.0.now) a.1.1.1.0.now) e ∙ sym q.1.0,
            p.1.1 ∙ ap (λ (r : Answer ℕ). answers_into r (lists a.0.now) a.1.0 (bytes_of a.1.1.0.now) a.1.1.1.1.0.now) e ∙ sym q.1.1,
          ),
        ))
