-- The promises that the voting rests on: kept by any table that is lawful.
use Prim.Native.Nat.{ℕ}
use mathlib.Core.Bool.{true}
use mathlib.Core.Path.{◌≡◌, subst}
use lib.Bits.{and_zero_r}
use Rattle.ground.proofs.Logic.{is_false}
use Rattle.masks.proofs.Laws.Apart.{apart-⊆}
use Rattle.masks.proofs.Laws.Single.{minus-grows}
use Rattle.masks.proofs.Laws.Subsets.{mem, ⊆-refl, not-in-zero, minus-⊆}
use Rattle.masks.specs.Mask.{single, others, ◌∈◌, ◌⊆◌}
use Rattle.sets.specs.Paper.{Fbqs, Quorum}
use Rattle.sets.specs.Promises.{Promises, questions_of}
use Rattle.sets.specs.Quorum.{largest}
use Rattle.sets.specs.Forms.{LawfulSlices}
use Rattle.sets.specs.Slices.{Slices}
use Rattle.sets.proofs.Decides.{quorum-is, is-quorum, blocked-is}
use Rattle.sets.proofs.Lawful.{inside-answers, inside-grows}
use Rattle.sets.proofs.Quorum.{largest-⊆, largest-quorum, largest-greatest, largest-grows}

module _ {S : Fbqs} {r : Slices} {n : ℕ} (lawful : LawfulSlices S r n) where
  abbrev big : ℕ → ℕ
  big w = largest r.inside n w

  -- a larger set blocks more
  pub blocked-more : (v a b : ℕ) → a ⊆ b → r.blocked v a ≡ true → r.blocked v b ≡ true
  blocked-more v a b sub e =
      (blocked-is lawful v b).1 (λ q x z. lawful.blocked-slice v a q e x (apart-⊆ (⊆-refl q) (minus-grows (single v) sub) z))

  -- the largest quorum is a quorum if it has a member
  in-largest : (w : ℕ) {v : ℕ} → v ∈ big w → Quorum S (big w)
  in-largest w {v} h =
      quorum-is (inside-answers lawful) (largest-quorum r.inside n w (λ z. not-in-zero (subst (λ (x : ℕ). v ∈ x) z h)))

  pub promises : Promises (λ v. S) (questions_of r n)
  unfolding questions_of
  promises =
      record {
        quorum-grows = λ v a b sub e. ((largest-grows r.inside n (inside-grows lawful) sub).each v (mem e)).holds;
        blocked-grows = blocked-more;
        quorum-member = λ v w e. (largest-⊆ r.inside n w).each v (mem e);
        quorum-inside = λ v w e. (big w, in-largest w (mem e), largest-⊆ r.inside n w, mem e);
        of-quorum = λ v w u k sub h. ((largest-greatest r.inside n (inside-grows lawful) w (is-quorum (inside-answers lawful) k) sub).each v h).holds;
        nobody-blocked = λ v h.
            let x = lawful.well-formed.one-or-more v h in is_false (r.blocked v 0) (λ e. lawful.blocked-slice v 0 x.0 e x.1 (apart-⊆ (⊆-refl x.0) (minus-⊆ 0 (single v)) (and_zero_r x.0)));
        blocked-meets = λ v w u q e x sub z. lawful.blocked-slice v w q e x (apart-⊆ sub (⊆-refl (others w v)) z);
        unblocked-rest = lawful.unblocked-slice;
        slice-decides = λ v u w. (lawful.slice_inside u w, λ x. lawful.inside-slice u w x.0 x.1 x.2);
      }
