-- Laws of the sets that have no site of a set, and of the last below a set.
use Prim.Native.Nat.{ℕ, ◌+◌, ◌-◌, ◌*◌, ◌/◌, ◌≤◌, ◌<◌}
use mathlib.Core.Bool.{false, ◌&&◌, not}
use mathlib.Core.List.{List}
use mathlib.Core.Logic.{⊎_elim}
use mathlib.Core.Path.{◌≡◌, sym, ap, ap₂, ◌∙◌, subst}
use native.Mathlib.Nat.{not-suc-le-zero}
use native.Mathlib.Omega.{arith}
use lib.Bits.{bit_and}
use lib.Dec.{eqb, ltb}
use lib.ListN.{get_or}
use borrow.Author.Tests.{eq-eqb, eqb-true, ltb-true, ltb-false}
use Rattle.ground.proofs.Logic.{and_l, and_r, and_i, cases, iff, is_false, clash, not_t}
use Rattle.ground.proofs.Numbers.{same?}
use Rattle.masks.proofs.Laws.AllBelow.{in_all}
use Rattle.masks.proofs.Laws.Apart.{apart_of, apart-not-in}
use Rattle.masks.proofs.Laws.Members.{has-and, has-zero}
use Rattle.masks.proofs.Laws.Subsets.{mem, ∈-and, and-⊆-l, and-⊆-r}
use Rattle.masks.specs.Mask.{has, ◌∈◌}
use Rattle.set_words.specs.Inner.{in_family, Without, LastSet}
use Rattle.set_words.proofs.Places.{has-shr, low-has, high-has, each-site}
use Rattle.set_words.proofs.WordLaws.{said_at}
use Rattle.picked_words.specs.Inner.{Missing, Chosen, LastBelow}

-- sites that are missing

module _ (m : ℕ) where
  pub missing-none : Missing m 0 18446744073709551615
  missing-none = record { right = λ j y l h k. absurd (not-suc-le-zero k); full = λ j l f. in_all l }

  module _ (x : ℕ) {word : ℕ} (h : Missing m x word) where
    less : {y : ℕ} → y < x + 1 → (y ≡ x → ⊥) → y < x
    less l ne = omega arith

    up : {y : ℕ} → y < x → y < x + 1
    up l = omega arith

    here : x < x + 1
    here = omega arith

    pub missing-in : {rest : ℕ} → x ∈ m → Without x rest → Missing m (x + 1) (bit_and word rest)
    missing-in {rest} i w =
        record {
          right = λ j y l k ly iy ij.
              ⊎_elim
              (λ e. clash (subst (λ (z : ℕ). z ∈ j) e ij).holds (not_t (has j x) (sym (w.each j l) ∙ ((and-⊆-r word rest).each j k).holds)))
              (λ ne. h.right j y l ((and-⊆-l word rest).each j k) (less ly ne) iy ij) (same? y x);
          full = λ j l f.
              ∈-and (h.full j l (λ y ly. f y (up ly))) (mem (w.each j l ∙ ap not (is_false (has j x) (λ e. f x here i (mem e)))));
        }

-- the sets of a word that have no site of m
pub lacking-all : (m w : ℕ) (old : List ℕ) {here low keep : ℕ} → here ≡ get_or old w 0 → Missing m 6 low → Chosen (m / 64) w low keep → (j : ℕ) → j < 64
    → has (bit_and here keep) j ≡ in_family old (w * 64 + j) && eqb (bit_and (w * 64 + j) m) 0
lacking-all m w old {here} {low} {keep} e h c j l =
    has-and here keep j ∙ ap₂ (λ a b. a && b) (ap (λ (x : ℕ). has x j) e ∙ sym (said_at old w j l))
    (c.each j
    ∙ iff (eqb (bit_and (m / 64) w) 0 && has low j) (eqb (bit_and u m) 0)
    (λ k.
    let far = eqb-true (bit_and (m / 64) w) 0 (and_l (eqb (bit_and (m / 64) w) 0) (has low j) k) in
    let near = mem (and_r (eqb (bit_and (m / 64) w) 0) (has low j) k) in
    eq-eqb (bit_and u m) 0
    (apart_of u m
    (each-site 6 w l (λ v. v ∈ u → v ∈ m → ⊥) (λ v lv i o. h.right j v l near lv o (mem (sym (low-has 6 w l v lv) ∙ i.holds)))
    (λ x i o. apart-not-in far (mem (has-shr m 6 x ∙ o.holds)) (mem (sym (high-has 6 w l x) ∙ i.holds))))))
    (λ k.
    let z = eqb-true (bit_and u m) 0 k in
    and_i (eq-eqb (bit_and (m / 64) w) 0 (apart_of (m / 64) w (λ x o i. apart-not-in z (mem (high-has 6 w l x ∙ i.holds)) (mem (sym (has-shr m 6 x) ∙ o.holds)))))
    (h.full j l (λ y ly o i. apart-not-in z (mem (low-has 6 w l y ly ∙ i.holds)) o)).holds))
  where
    u : ℕ
    u = w * 64 + j

-- the last set

module _ (sets : List ℕ) where
  split : (P : ℕ → Type 0) (w : ℕ) → ((j : ℕ) → j < 64 → P (w * 64 + j)) → (u : ℕ) → w * 64 ≤ u → u < w * 64 + 64 → P u
  split P w f u a b = subst P (back a) (f (u - w * 64) (omega arith))
    where
      back : w * 64 ≤ u → w * 64 + (u - w * 64) ≡ u
      back h = omega arith

  -- nothing from word k up to end; nothing in the word before it
  pub none_before : (k end : ℕ) → get_or sets k 0 ≡ 0 → ((u : ℕ) → (k + 1) * 64 ≤ u → u < end → in_family sets u ≡ false) → (u : ℕ) → k * 64 ≤ u → u < end → in_family sets u ≡ false
  none_before k end e f u a b =
      ⊎_elim
      (λ c. split (λ u. in_family sets u ≡ false) k (λ j l. said_at sets k j l ∙ ap (λ (x : ℕ). has x j) e ∙ has-zero j) u a (below (ltb-true u ((k + 1) * 64) c)))
      (λ c. f u (ltb-false u ((k + 1) * 64) c) b) (cases (ltb u ((k + 1) * 64)))
    where
      below : u < (k + 1) * 64 → u < k * 64 + 64
      below l = omega arith

  -- found in word k, which has its sets below bound
  pub found_in : (k bound end word j : ℕ) → bound ≤ 64 → k * 64 + bound ≤ end → ((y : ℕ) → y < bound → has word y ≡ has (get_or sets k 0) y) → j < bound
      → ((u : ℕ) → k * 64 + bound ≤ u → u < end → in_family sets u ≡ false) → LastSet word j → LastBelow sets end (k * 64 + j)
  found_in k bound end word j lb le same few f h =
      record {
        below = λ ne. lt few le;
        member = λ ne. said_at sets k j h.below ∙ sym (same j few) ∙ h.member.holds;
        none = λ u a b.
            ⊎_elim
            (λ c.
            split (λ u. k * 64 + j < u → u < k * 64 + bound → in_family sets u ≡ false) k
            (λ y l p q. said_at sets k y l ∙ sym (same y (less y q)) ∙ h.behind y (more y p)) u (low a) (high (ltb-true u (k * 64 + bound) c) lb) a (ltb-true u (k * 64 + bound) c))
            (λ c. f u (ltb-false u (k * 64 + bound) c) b) (cases (ltb u (k * 64 + bound)));
      }
    where
      lt : j < bound → k * 64 + bound ≤ end → k * 64 + j < end
      lt a b = omega arith

      less : (y : ℕ) → k * 64 + y < k * 64 + bound → y < bound
      less y a = omega arith

      more : (y : ℕ) → k * 64 + j < k * 64 + y → j < y
      more y a = omega arith

      low : {u : ℕ} → k * 64 + j < u → k * 64 ≤ u
      low a = omega arith

      high : {u : ℕ} → u < k * 64 + bound → bound ≤ 64 → u < k * 64 + 64
      high a b = omega arith

  -- nothing in the word of end, below it
  pub go_on : (w end bound : ℕ) {r : ℕ} → w * 64 + bound ≡ end → bound ≤ 64 → ((y : ℕ) → y < bound → has (get_or sets w 0) y ≡ false) → LastBelow sets (w * 64) r → LastBelow sets end r
  go_on w end bound {r} e lb f h =
      record {
        below = λ ne. more (h.below ne) e;
        member = λ ne. h.member ne;
        none = λ u a b.
            ⊎_elim (λ c. h.none u a (ltb-true u (w * 64) c))
            (λ c. split (λ u. u < end → in_family sets u ≡ false) w (λ j l k. said_at sets w j l ∙ f j (few j k e)) u (ltb-false u (w * 64) c) (high b e lb) b) (cases (ltb u (w * 64)));
      }
    where
      more : r < w * 64 → w * 64 + bound ≡ end → r < end
      more a b = omega arith

      few : (j : ℕ) → w * 64 + j < end → w * 64 + bound ≡ end → j < bound
      few j a b = omega arith

      high : {u : ℕ} → u < end → w * 64 + bound ≡ end → bound ≤ 64 → u < w * 64 + 64
      high a b c = omega arith
