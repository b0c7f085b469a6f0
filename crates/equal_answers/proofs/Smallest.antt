-- Every slice has a smallest one inside, so that tables of which one has the smallest slices of the other answer their tests alike.
use Prim.Native.Nat.{ℕ, suc, ◌≤◌, ◌<◌}
use mathlib.Core.Bool.{Bool, true, false, ◌&&◌, not}
use mathlib.Core.Logic.{⊎_elim}
use mathlib.Core.Path.{◌≡◌, refl, sym, ap, ◌∙◌, subst}
use native.Mathlib.Nat.{le_refl}
use native.Mathlib.Omega.{arith}
use lib.Bits.{bit_and, bit_or}
use lib.Dec.{ltb}
use borrow.Author.Tests.{ltb-true, ltb-false}
use Rattle.ground.proofs.Least.{least-le, least-passes, least-before, least-fails}
use Rattle.ground.proofs.Logic.{and_l, and_r, and_i, iff, is_false, clash, cases}
use Rattle.ground.specs.Search.{least}
use Rattle.masks.proofs.Laws.Apart.{apart-⊆}
use Rattle.masks.proofs.Laws.Subsets.{⊆-refl, ⊆-trans, ⊆-le, ⊆-within, within-⊆}
use Rattle.masks.specs.Mask.{has, within, others, ◌⊆◌}
use Rattle.sets.proofs.Forms.{same_tests}
use Rattle.sets.specs.Forms.{LawfulSlices}
use Rattle.sets.specs.Paper.{Fbqs}
use Rattle.sets.specs.Slices.{Slices}
use Rattle.equal_answers.specs.Equal.{Smallest}

module _ {S : Fbqs} {r : Slices} {n : ℕ} (L : LawfulSlices S r n) where
  -- of the sets inside q that hold a slice of v the first, by number, is a slice itself, and a smallest one
  pub smallest-inside : (v q : ℕ) → S.Slice v q → (p : ℕ) × Smallest S v p × (p ⊆ q)
  smallest-inside v q s =
      let x = L.slice_inside v p (and_l (r.inside v p) (within p q) found) in
      let e : x.0 ≡ p = first x.0 x.1 x.2 in
      (p, record { slice = subst (S.Slice v) e x.1; least = first }, part)
    where
      holding : ℕ → Bool
      holding p = r.inside v p && within p q

      p : ℕ
      p = least (suc q) holding

      here : holding q ≡ true
      here = and_i (L.inside-slice v q q s (⊆-refl q)) (⊆-within (⊆-refl q))

      below : p < suc q
      below =
          ⊎_elim (ltb-true p (suc q))
          (λ e. let l = ltb-false p (suc q) e in absurd (clash here (least-before (suc q) holding q (omega (arith, l)))))
          (cases (ltb p (suc q)))

      found : holding p ≡ true
      found = least-passes (suc q) holding below

      part : p ⊆ q
      part = within-⊆ p q (and_r (r.inside v p) (within p q) found)

      first : (x : ℕ) → S.Slice v x → x ⊆ p → x ≡ p
      first x s sub =
          let l = ⊆-le sub in
          let h : holding x ≡ true = and_i (L.inside-slice v x x s (⊆-refl x)) (⊆-within (⊆-trans sub part)) in
          let m : p ≤ x = ⊎_elim (λ e. absurd (clash h (least-before (suc q) holding x (ltb-true x p e)))) (ltb-false x p) (cases (ltb x p)) in
          omega arith

-- S has the smallest slices of T
module _ {S T : Fbqs} {r s : Slices} {n : ℕ} (L : LawfulSlices S r n) (M : LawfulSlices T s n)
    (down : (v q : ℕ) → S.Slice v q → Smallest T v q) (up : (v q : ℕ) → Smallest T v q → S.Slice v q) where
  same-inside : (v u : ℕ) → r.inside v u ≡ s.inside v u
  same-inside v u =
      iff _ _
      (λ e. let x = L.slice_inside v u e in M.inside-slice v u x.0 (down v x.0 x.1).slice x.2)
      (λ e. let x = M.slice_inside v u e in
      let y = smallest-inside M v x.0 x.1 in
      L.inside-slice v u y.0 (up v y.0 y.1) (⊆-trans y.2 x.2))

  same-blocked : (v w : ℕ) → r.blocked v w ≡ s.blocked v w
  same-blocked v w =
      iff _ _
      (λ e. ⊎_elim (λ h. h)
      (λ h. let x = M.unblocked-slice v w h in
      let y = smallest-inside M v x.0 x.1 in
      absurd (L.blocked-slice v w y.0 e (up v y.0 y.1) (apart-⊆ y.2 (⊆-refl (others w v)) x.2)))
      (cases (s.blocked v w)))
      (λ e. ⊎_elim (λ h. h)
      (λ h. let x = L.unblocked-slice v w h in absurd (M.blocked-slice v w x.0 e (down v x.0 x.1).slice x.2))
      (cases (r.blocked v w)))

  pub tests-alike : r ≡ s
  tests-alike =
      same_tests r s same-inside
      (λ b v u. L.deleted-or b v u ∙ ap (λ (x : Bool). not (has b v) && x) (same-inside v (bit_or u b)) ∙ sym (M.deleted-or b v u))
      same-blocked
