-- Laws of the list of the places where the answer byte is 15: one place more at its end, and one less at its front.
use Prim.Native.Nat.{ℕ, ◌+◌, ◌≤◌, ◌<◌}
use mathlib.Core.Bool.{Bool, true, false, cond}
use mathlib.Core.List.{List}
use mathlib.Core.Logic.{⊎_elim}
use mathlib.Core.Path.{◌≡◌, sym, ap, subst, ◌∙◌}
use native.Mathlib.Omega.{arith}
use lib.Dec.{eqb}
use lib.ListN.{length, get_or, set}
use lib.Seq.{get_or-set_same, get_or-set_other}
use borrow.Author.Tests.{eqb-true, eqb-false}
use Rattle.ground.proofs.Numbers.{same?}
use Rattle.waiting.specs.Inner.{Listed}

-- none yet
pub listed-none : (out w : List ℕ) (p a : ℕ) → Listed out p p w a a
listed-none out w p a = record {
  from = λ k h l. absurd (omega arith);
  below = λ k h l. absurd (omega arith);
  waits = λ k h l. absurd (omega arith);
  rises = λ j k h l m. absurd (omega arith);
  all = λ i h l e. absurd (omega arith);
}

module _ {out : List ℕ} {p q : ℕ} {w : List ℕ} {a b : ℕ} (L : Listed out p q w a b) where
  -- the next place does not wait
  pub listed-past : (get_or out q 0 ≡ 15 → ⊥) → Listed out p (q + 1) w a b
  listed-past f = record {
    from = L.from;
    below = λ k h l. omega (arith, L.below k h l);
    waits = L.waits;
    rises = L.rises;
    all = λ i h l e. ⊎_elim (λ s. absurd (f (ap (λ (x : ℕ). get_or out x 0) (sym s) ∙ e))) (λ s. L.all i h (omega (arith, l, s)) e) (same? i q);
  }

  -- the next place waits, and is written behind the others
  listed_more : a ≤ b → b < length w → p ≤ q → get_or out q 0 ≡ 15 → Listed out p (q + 1) (set w b q) a (b + 1)
  listed_more ab bw pq e = record {
    from = λ k h l. last k l (λ x. p ≤ x) pq (λ m. L.from k h m);
    below = λ k h l. last k l (λ x. x < q + 1) (omega arith) (λ m. omega (arith, L.below k h m));
    waits = λ k h l. last k l (λ x. get_or out x 0 ≡ 15) e (λ m. L.waits k h m);
    rises = λ j k h l m.
        let f : get_or (set w b q) j 0 ≡ get_or w j 0 = old j (omega arith) in
        rw f (last k m (λ x. get_or w j 0 < x) (L.below j h (omega arith)) (λ n. L.rises j k h l n));
    all = λ i h l f. ⊎_elim (λ s. (b, ab, omega arith, new ∙ sym s))
        (λ s. let x = L.all i h (omega (arith, l, s)) f in (x.0, x.1, omega (arith, x.2), old x.0 x.2 ∙ x.3)) (same? i q);
  }
    where
      new : get_or (set w b q) b 0 ≡ q
      new = get_or-set_same w b q 0 bw

      old : (k : ℕ) → k < b → get_or (set w b q) k 0 ≡ get_or w k 0
      old k h = get_or-set_other w b k q 0 (λ s. omega arith)

      -- of the last number and of those before it
      last : (k : ℕ) → k < b + 1 → (P : ℕ → Type 0) → P q → (k < b → P (get_or w k 0)) → P (get_or (set w b q) k 0)
      last k l P x f =
          ⊎_elim (λ s. subst P (sym (ap (λ (j : ℕ). get_or (set w b q) j 0) s ∙ new)) x)
          (λ s. let m : k < b = omega (arith, l, s) in subst P (sym (old k m)) (f m)) (same? k b)

  -- bytes that are the same at those places
  pub listed_same : (out₁ : List ℕ) → ((i : ℕ) → p ≤ i → i < q → get_or out₁ i 0 ≡ get_or out i 0) → Listed out₁ p q w a b
  listed_same out₁ f = record {
    from = L.from;
    below = L.below;
    waits = λ k h l. f (get_or w k 0) (L.from k h l) (L.below k h l) ∙ L.waits k h l;
    rises = L.rises;
    all = λ i h l e. L.all i h l (sym (f i h l) ∙ e);
  }

  -- a number written before them
  listed-before : (k x : ℕ) → k < a → Listed out p q (set w k x) a b
  listed-before k x h = record {
    from = λ j l m. rw (old j l) (L.from j l m);
    below = λ j l m. rw (old j l) (L.below j l m);
    waits = λ j l m. rw (old j l) (L.waits j l m);
    rises = λ i j l m n. rw (old i l, old j (omega arith)) (L.rises i j l m n);
    all = λ i l m e. let y = L.all i l m e in (y.0, y.1, y.2, old y.0 y.1 ∙ y.3);
  }
    where
      old : (j : ℕ) → a ≤ j → get_or (set w k x) j 0 ≡ get_or w j 0
      old j l = get_or-set_other w k j x 0 (λ s. omega arith)

  -- no place before the first of them waits
  pub listed-gap : a < b → (i : ℕ) → p ≤ i → i < get_or w a 0 → get_or out i 0 ≡ 15 → ⊥
  listed-gap h i l m e =
      let x = L.all i l (omega (arith, m, L.below a (omega arith) h)) e in
      ⊎_elim (λ s. let z : get_or w a 0 ≡ i = ap (λ (k : ℕ). get_or w k 0) (sym s) ∙ x.3 in omega (arith, m, z))
      (λ s. omega (arith, m, x.3, L.rises a x.0 (omega arith) (omega (arith, x.1, s)) x.2)) (same? x.0 a)

  -- where none is left no place waits
  pub listed-end : b ≤ a → (i : ℕ) → p ≤ i → i < q → get_or out i 0 ≡ 15 → ⊥
  listed-end h i l m e = let x = L.all i l m e in omega (arith, x.1, x.2)

  -- without the first
  pub listed-rest : a < b → Listed out (get_or w a 0 + 1) q w (a + 1) b
  listed-rest h = record {
    from = λ k l m. omega (arith, L.rises a k (omega arith) (omega arith) m);
    below = λ k l m. L.below k (omega arith) m;
    waits = λ k l m. L.waits k (omega arith) m;
    rises = λ j k l m n. L.rises j k (omega arith) m n;
    all = λ i l m e.
        let x = L.all i (omega (arith, l, L.from a (omega arith) h)) m e in (
          x.0,
          ⊎_elim (λ s. let z : get_or w a 0 ≡ i = ap (λ (k : ℕ). get_or w k 0) (sym s) ∙ x.3 in absurd (omega (arith, l, z)))
              (λ s. omega (arith, x.1, s)) (same? x.0 a),
          x.2,
          x.3,
        );
  }

-- one turn of a loop that keeps the places that wait
pub listed-turn : {out : List ℕ} {i k c : ℕ} {w w₁ : List ℕ} (b : Bool) → Listed out 0 i w 0 k → k < length w → b ≡ eqb (get_or out i 0) 15 →
    c ≡ cond b (k + 1) k → w₁ ≡ cond b (set w k i) w → Listed out 0 (i + 1) w₁ 0 c
listed-turn {out} {i} true L h e p q = rw (p, q) (listed_more L (omega arith) h (omega arith) (eqb-true (get_or out i 0) 15 (sym e)))
listed-turn {out} {i} false L h e p q = rw (p, q) (listed-past L (eqb-false (get_or out i 0) 15 (sym e)))

-- and in front of those that are still to be read
pub listed-ahead : {out : List ℕ} {p q k a b : ℕ} {w w₁ : List ℕ} (i : ℕ) (d : Bool) → Listed out p q w a b → k < a → w₁ ≡ cond d (set w k i) w →
    Listed out p q w₁ a b
listed-ahead {k = k} i true L h e = rw e (listed-before L k i h)
listed-ahead i false L h e = rw e L

pub kept-few : {c k i : ℕ} (b : Bool) → c ≡ cond b (k + 1) k → k ≤ i → c ≤ i + 1
kept-few true e h = omega (arith, e)
kept-few false e h = omega (arith, e)
