-- Which sets a slice reaches by sites below x.
use Prim.Native.Nat.{ℕ, suc, ◌<◌}
use mathlib.Core.Bool.{true}
use mathlib.Core.Logic.{◌⊎◌, inl, inr, ⊎_elim}
use mathlib.Core.Path.{◌≡◌, sym, subst}
use native.Mathlib.Nat.{not-suc-le-zero}
use native.Mathlib.Omega.{arith}
use lib.Bits.{bit_or}
use lib.Pow.{ones_lt}
use Rattle.ground.proofs.Logic.{and_l, and_r, and_i}
use Rattle.masks.proofs.Laws.AllBelow.{in_all}
use Rattle.masks.proofs.Laws.Single.{in?, ∈-or, ∈-single, single-∈}
use Rattle.masks.proofs.Laws.Subsets.{⊆-antisym, within-⊆, ⊆-within, ∈-below, or-⊆-l, or-⊆-r, minus-⊆, ∈-minus, minus-not-in}
use Rattle.masks.specs.Mask.{single, within, minus, all_below, ◌∈◌, ◌⊆◌}
use Rattle.early_quorums.specs.Inner.{reaches}

-- a slice q that reaches u, as a statement

pub record Reaches (x q u : ℕ) : Type 0 where
  pub inside : q ⊆ u
  pub lacks : (y : ℕ) → y ∈ u → (y ∈ q → ⊥) → y < x

pub reaches_of : {x q u : ℕ} → Reaches x q u → reaches x q u ≡ true
unfolding reaches
reaches_of {x} {q} {u} r =
    and_i (⊆-within r.inside)
    (⊆-within (record { each = λ y h. ⊎_elim (λ k. (or-⊆-l q (all_below x)).each y k) (λ k. (or-⊆-r q (all_below x)).each y (in_all (r.lacks y h k))) (in? y q) }))

pub reaches-is : (x q u : ℕ) → reaches x q u ≡ true → Reaches x q u
unfolding reaches
reaches-is x q u e =
    record {
      inside = within-⊆ q u (and_l (within q u) (within u (bit_or q (all_below x))) e);
      lacks = λ y h k.
          ⊎_elim (λ m. absurd (k m)) (λ m. ∈-below (ones_lt x) m)
          (∈-or q (all_below x) ((within-⊆ u (bit_or q (all_below x)) (and_r (within q u) (within u (bit_or q (all_below x))) e)).each y h));
    }

-- a slice reaches nothing but itself without more sites
pub reaches-itself : (q u : ℕ) → reaches 0 q u ≡ true → u ≡ q
reaches-itself q u e =
    let r = reaches-is 0 q u e in
    ⊆-antisym (record { each = λ y h. ⊎_elim (λ k. k) (λ k. absurd (not-suc-le-zero (r.lacks y h k))) (in? y q) }) r.inside

-- what is reached by sites up to x is reached by those below x, or is so without x
pub reach-down : (x q u : ℕ) → reaches (suc x) q u ≡ true → (reaches x q u ≡ true) ⊎ ((x ∈ u) × (reaches x q (minus u (single x)) ≡ true))
reach-down x q u e = pick (reaches-is (suc x) q u e) (in? x u) (in? x q)
  where
    below : (y : ℕ) → y < suc x → (y ≡ x → ⊥) → y < x
    below y l ne = omega arith

    pick : Reaches (suc x) q u → (x ∈ u) ⊎ (x ∈ u → ⊥) → (x ∈ q) ⊎ (x ∈ q → ⊥) → (reaches x q u ≡ true) ⊎ ((x ∈ u) × (reaches x q (minus u (single x)) ≡ true))
    pick r (inr out) d = inl (reaches_of (record { inside = r.inside; lacks = λ y k m. below y (r.lacks y k m) (λ z. out (subst (λ (w : ℕ). w ∈ u) z k)) }))
    pick r (inl has-x) (inl d) =
        inl (reaches_of (record { inside = r.inside; lacks = λ y k m. below y (r.lacks y k m) (λ z. m (subst (λ (w : ℕ). w ∈ q) (sym z) d)) }))
    pick r (inl has-x) (inr d) =
        inr (
          has-x,
          reaches_of
              (record {
                inside = record { each = λ y k. ∈-minus (r.inside.each y k) (λ z. d (subst (λ (w : ℕ). w ∈ q) (single-∈ x z) k)) };
                lacks = λ y k m.
                    below y (r.lacks y ((minus-⊆ u (single x)).each y k) m)
                    (λ z. minus-not-in u k (subst (λ (w : ℕ). w ∈ single x) (sym z) (∈-single x)));
              }),
        )
