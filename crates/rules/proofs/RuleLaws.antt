-- Laws of the two rules: they grow with what was heard, leave the own accept out, and say no where nothing was heard.
use Prim.Native.Nat.{ℕ, ◌<◌}
use mathlib.Core.Bool.{Bool, true, false, ◌||◌, or-false}
use mathlib.Core.Logic.{◌⊎◌, ⊎_elim}
use mathlib.Core.Path.{◌≡◌, refl, sym, ap, ◌∙◌, subst}
use lib.Bits.{bit_or}
use Rattle.ground.proofs.Logic.{is_false, clash, or-i, or-e}
use Rattle.masks.proofs.Laws.Single.{∈-single, single-⊆, ∈-or, or-grows, minus-grows, minus-added}
use Rattle.masks.proofs.Laws.Subsets.{not-in-zero, ⊆-refl, ⊆-zero, minus-⊆}
use Rattle.masks.specs.Mask.{single, minus, others, ◌∈◌, ◌⊆◌}
use Rattle.sets.specs.Paper.{Fbqs}
use Rattle.sets.specs.Promises.{Questions, Promises}
use Rattle.rules.specs.Rules.{only, accepting, confirming}
use Rattle.rules.specs.Theorems.{Rests}

-- the site alone if the test holds

pub only-⊆ : (b : Bool) (v : ℕ) → only b v ⊆ single v
only-⊆ true v = ⊆-refl (single v)
only-⊆ false v = ⊆-zero (single v)

pub ∈-only : {b : Bool} (v : ℕ) → b ≡ true → v ∈ only b v
∈-only v e = subst (λ (b : Bool). v ∈ only b v) (sym e) (∈-single v)

pub only-holds : (b : Bool) {u : ℕ} (v : ℕ) → u ∈ only b v → b ≡ true
only-holds true v h = refl
only-holds false v h = absurd (not-in-zero h)

pub only-still : (b : Bool) (v : ℕ) {m : ℕ} → (b ≡ true → v ∈ m) → only b v ⊆ m
only-still true v f = single-⊆ (f refl)
only-still false v {m} f = ⊆-zero m

pub only-grows : (a b : Bool) (v : ℕ) → (a ≡ true → b ≡ true) → only a v ⊆ only b v
only-grows a b v f = only-still a v (λ e. ∈-only v (f e))

-- the two rules

-- the accepts of the others, as the code finds them
pub others-found : (v b : ℕ) {m o : ℕ} → m ≡ single v → o ≡ minus b m → o ≡ others b v
others-found v b em eo = eo ∙ ap (minus b) em

-- the own accept is not counted
pub accepting-own : (Q : Questions) (v a b : ℕ) {m : ℕ} → m ⊆ single v → accepting Q v a (bit_or b m) ≡ accepting Q v a b
unfolding accepting
accepting-own Q v a b p = ap (λ (x : ℕ). Q.in_quorum v (bit_or a x) || Q.blocked v x) (minus-added b p)

-- the rule for accepting: by a quorum, or blocked; and the other way
module _ (Q : Questions) (v a b : ℕ) where
  pub by-quorum : Q.in_quorum v (bit_or a (others b v)) ≡ true → accepting Q v a b ≡ true
  unfolding accepting
  by-quorum e = ap (λ x. x || Q.blocked v (others b v)) e

  pub by-blocked : Q.blocked v (others b v) ≡ true → accepting Q v a b ≡ true
  unfolding accepting
  by-blocked e = or-i (Q.in_quorum v (bit_or a (others b v))) (Q.blocked v (others b v)) e

  -- not blocked: it accepts exactly by a quorum
  pub unblocked : Q.blocked v (others b v) ≡ false → accepting Q v a b ≡ Q.in_quorum v (bit_or a (others b v))
  unfolding accepting
  unblocked e = rw (e, or-false (Q.in_quorum v (bit_or a (others b v)))) refl

  pub accepting-either : accepting Q v a b ≡ true → (Q.in_quorum v (bit_or a (others b v)) ≡ true) ⊎ (Q.blocked v (others b v) ≡ true)
  unfolding accepting
  accepting-either e = or-e (Q.in_quorum v (bit_or a (others b v))) (Q.blocked v (others b v)) e

-- they grow with what was heard
module _ {S : ℕ → Fbqs} {Q : Questions} (P : Promises S Q) where
  pub accepting-grows : (v : ℕ) {a b c d : ℕ} → a ⊆ c → b ⊆ d → accepting Q v a b ≡ true → accepting Q v c d ≡ true
  accepting-grows v {a} {b} {c} {d} p q e =
      let r : others b v ⊆ others d v = minus-grows (single v) q in
      ⊎_elim (λ x. by-quorum Q v c d (P.quorum-grows v (bit_or a (others b v)) (bit_or c (others d v)) (or-grows p r) x))
      (λ x. by-blocked Q v c d (P.blocked-grows v (others b v) (others d v) r x)) (accepting-either Q v a b e)

  pub confirming-grows : (v : ℕ) {a b : ℕ} → a ⊆ b → confirming Q v a ≡ true → confirming Q v b ≡ true
  unfolding confirming
  confirming-grows v {a} {b} p = P.quorum-grows v a b p

-- where nothing was heard
module _ {S : ℕ → Fbqs} {Q : Questions} {n : ℕ} (R : Rests S Q n) where
  pub accepting-nothing : (v : ℕ) → v < n → accepting Q v 0 0 ≡ false
  accepting-nothing v h =
      is_false (accepting Q v 0 0)
      (λ e. ⊎_elim
      (λ x. ⊎_elim not-in-zero (λ y. not-in-zero ((minus-⊆ 0 (single v)).each v y))
      (∈-or 0 (others 0 v) (R.promises.quorum-member v (bit_or 0 (others 0 v)) x)))
      (λ x. clash (R.promises.blocked-grows v (others 0 v) 0 (minus-⊆ 0 (single v)) x) (R.promises.nobody-blocked v (R.sites v h)))
      (accepting-either Q v 0 0 e))

  pub confirming-nothing : (v : ℕ) → confirming Q v 0 ≡ false
  unfolding confirming
  confirming-nothing v = is_false (Q.in_quorum v 0) (λ e. not-in-zero (R.promises.quorum-member v 0 e))
