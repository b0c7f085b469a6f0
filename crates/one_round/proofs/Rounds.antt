-- The members of a set asked one by one: who is left, with `rest` still to be asked. Nobody of `sure` goes, and of those asked nobody stays who is not in `most`.
use Prim.Native.Nat.{ℕ, ◌<◌}
use mathlib.Core.Bool.{Bool, true}
use mathlib.Core.Logic.{⊎_elim}
use mathlib.Core.Path.{◌≡◌, sym, subst}
use native.Mathlib.Omega.{arith}
use lib.Bits.{bit_and}
use lib.Pow.{ones_lt}
use Rattle.masks.proofs.Laws.AllBelow.{in_all}
use Rattle.masks.proofs.Laws.Single.{in?, ∈-eq, ∈-single, single-∈, minus-grows}
use Rattle.masks.proofs.Laws.Subsets.{⊆-refl, ⊆-trans, ⊆-antisym, ⊆-le, ∈-below, ∈-and, and-⊆-l, and-⊆-r, ∈-minus, minus-⊆, minus-not-in, not-in-zero}
use Rattle.masks.specs.Mask.{single, minus, all_below, ◌∈◌, ◌⊆◌}
use Rattle.sets.proofs.Quorum.{round-⊆, ∈-round, round-lt}
use Rattle.sets.specs.Quorum.{round}

-- whom a round from w asks
module _ (n w : ℕ) where
  pub is-site : {v : ℕ} → v ∈ bit_and w (all_below n) → v < n
  is-site {v} h = ∈-below (ones_lt n) ((and-⊆-r w (all_below n)).each v h)

  module _ (s : ℕ → ℕ → Bool) where
    pub round-part : round s n w ⊆ bit_and w (all_below n)
    round-part = record { each = λ v h. ∈-and ((round-⊆ s n w).each v h) (in_all (∈-below (round-lt s n w) h)) }

    pub in-round : {v : ℕ} → v ∈ bit_and w (all_below n) → s v w ≡ true → v ∈ round s n w
    in-round {v} h e = ∈-round s n (is-site h) ((and-⊆-l w (all_below n)).each v h) e

-- a set without one of its members is smaller
pub fewer : {v rest : ℕ} → v ∈ rest → minus rest (single v) < rest
fewer {v} {rest} h =
    let l = ⊆-le (minus-⊆ rest (single v)) in
    let ne : minus rest (single v) ≡ rest → ⊥ = λ e. minus-not-in rest (subst (λ (x : ℕ). v ∈ x) (sym e) h) (∈-single v) in
    omega arith

-- without nobody
pub minus-none : (m : ℕ) → minus m 0 ≡ m
minus-none m = ⊆-antisym (minus-⊆ m 0) (record { each = λ v h. ∈-minus h not-in-zero })

-- of the set `all`
pub record SomeAsked (all sure most rest left : ℕ) : Type 0 where
  pub part : left ⊆ all
  pub keeps : sure ⊆ left
  pub to-ask : rest ⊆ left
  pub asked : (u : ℕ) → u ∈ left → (u ∈ rest → ⊥) → u ∈ most

module _ {all sure most : ℕ} where
  -- nobody is asked yet
  pub asked-none : sure ⊆ all → SomeAsked all sure most all all
  asked-none s = record { part = ⊆-refl all; keeps = s; to-ask = ⊆-refl all; asked = λ u h f. absurd (f h) }

  -- everybody is asked
  pub asked-all : {rest left : ℕ} → rest ≡ 0 → SomeAsked all sure most rest left → left ⊆ most
  asked-all e a = record { each = λ u h. a.asked u h (λ k. not-in-zero (∈-eq e k)) }

  module _ {rest left v : ℕ} (h : v ∈ rest) (a : SomeAsked all sure most rest left) where
    pub asked-member : v ∈ all
    asked-member = a.part.each v (a.to-ask.each v h)

    others-asked : (u : ℕ) → u ∈ left → (u ∈ minus rest (single v) → ⊥) → (u ≡ v → u ∈ most) → u ∈ most
    others-asked u i f same =
        ⊎_elim (λ k. ⊎_elim (λ z. same (single-∈ v z)) (λ z. absurd (f (∈-minus k z))) (in? u (single v))) (a.asked u i) (in? u rest)

    -- v is asked, and stays
    stayed : v ∈ most → SomeAsked all sure most (minus rest (single v)) left
    stayed m =
        record {
          part = a.part;
          keeps = a.keeps;
          to-ask = ⊆-trans (minus-⊆ rest (single v)) a.to-ask;
          asked = λ u i f. others-asked u i f (λ e. subst (λ (x : ℕ). x ∈ most) (sym e) m);
        }

    -- v is asked, and goes
    gone : (v ∈ sure → ⊥) → SomeAsked all sure most (minus rest (single v)) (minus left (single v))
    gone out =
        record {
          part = ⊆-trans (minus-⊆ left (single v)) a.part;
          keeps = record { each = λ u i. ∈-minus (a.keeps.each u i) (λ z. out (subst (λ (x : ℕ). x ∈ sure) (single-∈ v z) i)) };
          to-ask = minus-grows (single v) a.to-ask;
          asked = λ u i f.
              others-asked u ((minus-⊆ left (single v)).each u i) f (λ e. absurd (minus-not-in left i (subst (λ (x : ℕ). x ∈ single v) (sym e) (∈-single v))));
        }

    module _ {rest' left' : ℕ} (e : rest' ≡ minus rest (single v)) where
      pub asked-stays : left' ≡ left → v ∈ most → SomeAsked all sure most rest' left'
      asked-stays q m = rw (e, q) (stayed m)

      pub asked-goes : left' ≡ minus left (single v) → (v ∈ sure → ⊥) → SomeAsked all sure most rest' left'
      asked-goes q out = rw (e, q) (gone out)
