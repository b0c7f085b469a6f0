-- Two results that meet the contract of `pack` coincide: the room at exit. The claims are the clauses of the contract, as assertions: two of them together
-- entail that the rooms are equal.
use mathlib.Core.Path.{◌≡◌, refl, sym, ◌∙◌}
use base.Logic.{SProp, ent, sep, id⊢}
use contract.Lifetimes.{Lfts}
use contract.Monad.{Fun, fact}
use denote.Triple.Clauses.{AtExit}
use denote.Triple.Entry.{Args, Res}
use types.Logic.{Logic}
use seplogic.Ra.Ura.{Ura}
use prog.Memory.{Memory}
use prog.Routine.{Routine}
use Rattle.packing.proofs.Facts.{both}
use Rattle.packing.specs.contracts.pack as pack

module _ {M : Type 1} {𝓤 : Ura M} (𝓛 : Logic 𝓤) (mem : Memory → SProp 𝓤) (run : Routine → Fun 𝓤) where
  module _ (κs : Lfts 2) (a : Args pack.signature κs) where
    abbrev PackClaim : Res pack.signature κs → AtExit pack.ended κs → SProp 𝓤
    PackClaim x s = (pack.clauses 𝓛 mem run κs a).ensures tt x s

    pub pack-coincide : (x y : Res pack.signature κs) (s t : AtExit pack.ended κs) →
        ent 𝓤 (sep 𝓤 (PackClaim x s) (PackClaim y t)) (fact 𝓤 ((x ≡ y) × (s.1.0.now ≡ t.1.0.now)))
    pack-coincide x y s t = both 𝓤 (id⊢ 𝓤 (PackClaim x s)) (id⊢ 𝓤 (PackClaim y t)) (λ p q. (refl, p ∙ sym q))
