-- Laws of the pair that is answered: one for each way out of `two_apart`.
use Prim.Native.Nat.{ℕ, ◌^◌, ◌≤◌, ◌<◌}
use mathlib.Core.Bool.{Bool, true, cond}
use mathlib.Core.Path.{◌≡◌, sym, ap, ◌∙◌, subst}
use native.Mathlib.Omega.{arith}
use lib.Dec.{eqb}
use borrow.Author.Tests.{eq-eqb, ne_eqb}
use Rattle.ground.proofs.Least.{least-le, least-passes, least-before}
use Rattle.ground.specs.Search.{least}
use Rattle.sets.specs.Quorum.{quorum}
use Rattle.sets.proofs.Quorum.{quorum-lt}
use Rattle.shared_sites.specs.Inner.{beside_first}
use Rattle.verdicts.proofs.VerdictLaws.{first-apart-smallest-quorum}
use Rattle.verdicts.specs.Verdicts.{beside, first_apart}

module _ (s : ℕ → ℕ → Bool) (n : ℕ) where
  -- no quorum has one beside it
  pub beside_none : (first : ℕ) → first ≡ first_apart s n → first ≡ 2 ^ n → 0 ≡ beside_first s n
  unfolding beside_first
  beside_none first e z = sym (ap (λ (c : Bool). cond c 0 (beside s n (first_apart s n))) (eq-eqb (first_apart s n) (2 ^ n) (sym e ∙ z)))

  -- one has
  module _ (first : ℕ) (e : first ≡ first_apart s n) (ne : first ≡ 2 ^ n → ⊥) where
    found : beside_first s n ≡ beside s n first
    unfolding beside_first
    found = ap (λ (c : Bool). cond c 0 (beside s n (first_apart s n))) (ne_eqb (first_apart s n) (2 ^ n) (λ z. ne (e ∙ z))) ∙ sym (ap (beside s n) e)

    pub beside-some : {second : ℕ} → second ≡ beside s n first → second ≡ beside_first s n
    beside-some r = r ∙ sym found

    pub some-beside : {second : ℕ} → second ≡ beside_first s n → second ≡ beside s n first
    some-beside r = r ∙ found

  -- the smallest quorum of the first six sites has one
  module _ (p second : ℕ) (small : p ≡ least 64 (quorum s n)) (r : second ≡ cond (eqb p 64) 0 (beside s n p)) (ne : second ≡ 0 → ⊥) where
    some : p ≡ 64 → ⊥
    some e = ne (r ∙ ap (λ (c : Bool). cond c 0 (beside s n p)) (eq-eqb p 64 e))

    is-beside : second ≡ beside s n p
    is-beside = r ∙ ap (λ (c : Bool). cond c 0 (beside s n p)) (ne_eqb p 64 some)

    is-quorum : quorum s n p ≡ true
    is-quorum = subst (λ (k : ℕ). quorum s n k ≡ true) (sym small) (least-passes 64 (quorum s n) (less small (least-le 64 (quorum s n)) some))
      where
        less : p ≡ least 64 (quorum s n) → least 64 (quorum s n) ≤ 64 → (p ≡ 64 → ⊥) → least 64 (quorum s n) < 64
        less e l f = omega arith

    pub early-first : p ≡ first_apart s n
    early-first =
        sym (first-apart-smallest-quorum s n p is-quorum (λ q l. least-before 64 (quorum s n) q (subst (λ (k : ℕ). q < k) small l)) (λ z. ne (is-beside ∙ z)))

    pub early-second : second ≡ beside_first s n
    early-second = beside-some p early-first (λ e. bad e (quorum-lt s n is-quorum)) is-beside
      where
        bad : p ≡ 2 ^ n → p < 2 ^ n → ⊥
        bad e l = omega arith
