-- The computed answers decide the paper's statements: for any table that is lawful.
use Prim.Native.Nat.{ℕ}
use mathlib.Core.Bool.{Bool, true}
use mathlib.Core.Logic.{inl, inr, ⊎_elim, ◌↔◌}
use mathlib.Core.Path.{◌≡◌}
use lib.Dec.{eqb}
use borrow.Author.Tests.{eqb-true, eqb-false}
use Rattle.ground.proofs.Logic.{cases}
use Rattle.masks.proofs.Laws.Subsets.{⊆-trans}
use Rattle.masks.specs.Mask.{others}
use Rattle.sets.specs.Decides.{Greatest, Decides}
use Rattle.sets.specs.Paper.{Fbqs, Quorum, Blocking}
use Rattle.sets.specs.Quorum.{quorum, largest}
use Rattle.sets.specs.Forms.{LawfulSlices}
use Rattle.sets.specs.Slices.{Slices}
use Rattle.sets.proofs.Lawful.{Answers, inside-answers}
use Rattle.sets.proofs.Quorum.{quorum-of, quorum-some, quorum-below, quorum-slice, largest-⊆, largest-still, largest-quorum, largest-greatest, largest-after, rounds-drop, rounds-few}

-- of a rule that answers for S

module _ {S : Fbqs} {s : ℕ → ℕ → Bool} {n : ℕ} (answers : Answers S s n) where
  pub quorum-is : {q : ℕ} → quorum s n q ≡ true → Quorum S q
  quorum-is {q} k =
      record {
        of-sites = record { each = λ v h. answers.site v q ((quorum-below s n k).each v h) (quorum-slice s n k h) };
        non-empty = quorum-some s n k;
        contains = λ v h. answers.slice v q (quorum-slice s n k h);
      }

  pub is-quorum : {q : ℕ} → Quorum S q → quorum s n q ≡ true
  is-quorum {q} k =
      quorum-of s n k.non-empty (⊆-trans k.of-sites answers.of-sites)
      (λ v h. let x = k.contains v h in answers.inside v q x.0 (k.of-sites.each v h) x.1 x.2)

  pub greatest-is : (w : ℕ) → Greatest S s n w
  greatest-is w =
      record {
        none-or-quorum = ⊎_elim (λ e. inl (eqb-true (largest s n w) 0 e)) (λ e. inr (quorum-is (largest-quorum s n w (eqb-false (largest s n w) 0 e))))
            (cases (eqb (largest s n w) 0));
        inside = largest-⊆ s n w;
        contains = λ q k sub. largest-greatest s n answers.rule w (is-quorum k) sub;
        left = largest-after s n w;
        dropping = rounds-drop s n w;
        still = largest-still s n w;
        few = rounds-few s n w;
      }

-- of a lawful table

module _ {S : Fbqs} {r : Slices} {n : ℕ} (lawful : LawfulSlices S r n) where
  pub blocked-is : (v w : ℕ) → (r.blocked v w ≡ true) ↔ Blocking S v (others w v)
  blocked-is v w = (
    λ e q x z. lawful.blocked-slice v w q e x z,
    λ f. ⊎_elim (λ e. e) (λ e. let x = lawful.unblocked-slice v w e in absurd (f x.0 x.1 x.2)) (cases (r.blocked v w)),
  )

  pub decides : Decides S r n
  decides =
      record {
        quorum-decides = λ q. (quorum-is (inside-answers lawful), is-quorum (inside-answers lawful));
        blocked-decides = blocked-is;
        largest-decides = greatest-is (inside-answers lawful);
      }
