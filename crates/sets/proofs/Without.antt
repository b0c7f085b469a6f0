-- From the promises alone: a site that has no slice inside a set is in no quorum inside it, and brings nobody else into one.
use Prim.Native.Nat.{ℕ}
use mathlib.Core.Bool.{true, false}
use mathlib.Core.Path.{◌≡◌, sym}
use Rattle.ground.proofs.Logic.{is_false, clash}
use Rattle.masks.proofs.Laws.Single.{not_in, ∈-single, single-∈}
use Rattle.masks.proofs.Laws.Subsets.{⊆-trans, ∈-minus, minus-not-in}
use Rattle.masks.specs.Mask.{has, single, minus, ◌∈◌}
use Rattle.sets.specs.Paper.{Fbqs}
use Rattle.sets.specs.Promises.{Questions, Promises}

module _ {S : ℕ → Fbqs} {Q : Questions} (P : Promises S Q) where
  -- a site u without a slice inside w: who is in a quorum inside w is in one inside w without u
  pub without : (v u w a : ℕ) → Q.has_slice v u w ≡ false → ((z : ℕ) → z ∈ w → (z ≡ u → ⊥) → z ∈ a) → Q.in_quorum v w ≡ true →
      Q.in_quorum v a ≡ true
  without v u w a f rest e =
      let x = P.quorum-inside v w e in
      let sub = x.2 in
      let out : u ∈ x.0 → ⊥ =
      λ h. let y = x.1.contains u h in clash ((P.slice-decides v u w).1 (y.0, y.1, ⊆-trans y.2 sub)) f in
      P.of-quorum v a x.0 x.1 (record { each = λ z h. rest z (sub.each z h) (λ q. out (rw q at h)) }) x.3

  -- a site outside w, or without a slice inside w, is in no quorum inside w
  pub outside : (v w : ℕ) → has w v ≡ false → false ≡ Q.in_quorum v w
  outside v w f = sym (is_false (Q.in_quorum v w) (λ e. not_in f (P.quorum-member v w e)))

  pub unheld : (v w : ℕ) → Q.has_slice v v w ≡ false → false ≡ Q.in_quorum v w
  unheld v w f =
      let rest = minus w (single v) in
      let alone : Q.in_quorum v w ≡ true → Q.in_quorum v rest ≡ true = without v v w rest f (λ z h ne. ∈-minus h (λ k. ne (single-∈ v k))) in
      sym (is_false (Q.in_quorum v w) (λ e. minus-not-in w (P.quorum-member v rest (alone e)) (∈-single v)))
