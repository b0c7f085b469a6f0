-- Facts as assertions, for proofs by hand: the clauses of a contract are facts side by side.
use base.Logic.{SProp, ent, sep, emp, via, comm∗, mono_l, emp∗, fst∗, snd∗}
use contract.Monad.{fact, fact_i, fact_use}
use seplogic.Ra.Ura.{Ura}

module _ {M : Type 1} (𝓤 : Ura M) where
  -- a fact that is shown
  pub shown : {φ : Type 0} → φ → ent 𝓤 (emp 𝓤) (fact 𝓤 φ)
  shown {φ} x = fact_i 𝓤 φ (emp 𝓤) x

  -- a fact that is shown, put in front of what is shown
  and-shown : {φ : Type 0} {Q : SProp 𝓤} → φ → ent 𝓤 (emp 𝓤) Q → ent 𝓤 (emp 𝓤) (sep 𝓤 (fact 𝓤 φ) Q)
  and-shown {φ} {Q} x q = via 𝓤 Q q (via 𝓤 (sep 𝓤 (emp 𝓤) Q) (emp∗ 𝓤 Q) (mono_l 𝓤 Q (shown x)))

  -- what is shown stands beside anything
  pub beside : {P Q : SProp 𝓤} → ent 𝓤 (emp 𝓤) Q → ent 𝓤 P (sep 𝓤 P Q)
  beside {P} {Q} q = via 𝓤 (sep 𝓤 (emp 𝓤) P) (emp∗ 𝓤 P) (via 𝓤 (sep 𝓤 Q P) (mono_l 𝓤 P q) (comm∗ 𝓤 Q P))

  -- what two claims of a fact each say together
  pub both : {P Q : SProp 𝓤} {φ ψ χ : Type 0} → ent 𝓤 P (fact 𝓤 φ) → ent 𝓤 Q (fact 𝓤 ψ) → (φ → ψ → χ) → ent 𝓤 (sep 𝓤 P Q) (fact 𝓤 χ)
  both {P} {Q} {φ} {ψ} {χ} p q f =
      fact_use 𝓤 φ (via 𝓤 P (fst∗ 𝓤 P Q) p) (λ x. fact_use 𝓤 ψ (via 𝓤 Q (snd∗ 𝓤 P Q) q) (λ y. fact_i 𝓤 χ (sep 𝓤 P Q) (f x y)))
