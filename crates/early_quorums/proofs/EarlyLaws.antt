-- Laws of the sets of the first six sites: how they are found in one word.
use Prim.Native.Nat.{ℕ, ◌+◌, ◌-◌, ◌*◌, ◌%◌, ◌^◌, ◌≤◌, ◌<◌}
use mathlib.Core.Bool.{Bool, true, false, ◌&&◌, ◌||◌, not}
use mathlib.Core.List.{List}
use mathlib.Core.Logic.{◌⊎◌, inl, inr, ⊎_elim}
use mathlib.Core.Path.{◌≡◌, sym, ap, ap₂, ◌∙◌, subst}
use native.Mathlib.Nat.{not-suc-le-zero, lt_trans}
use native.Mathlib.Numerals.{add-one}
use native.Mathlib.Omega.{arith}
use lib.Bits.{bit_and, bit_or, or_disjoint}
use lib.Count.{count_trailing_zeros, trailing_of_zero}
use lib.Dec.{ltb}
use lib.Pow.{pow_mono}
use borrow.Author.Tests.{lt-ltb, ltb-true, ltb-false, eq-eqb, ne_eqb}
use Rattle.ground.proofs.Every.{every-at, every_of, every-none, every-suc}
use Rattle.ground.proofs.Least.{least-found, least-fails}
use Rattle.ground.proofs.Logic.{and_l, and_r, and_i, cases, iff, is_false, clash, or-e, or-i, not_t}
use Rattle.ground.proofs.Numbers.{same?}
use Rattle.ground.specs.Search.{every, least}
use Rattle.early_quorums.proofs.Reaching.{reaches_of, reaches-itself, reach-down}
use Rattle.inside_words.proofs.InsideLaws.{inside-up, inside-site, ascend-le}
use Rattle.set_words.specs.Inner.{Without}
use Rattle.set_words.proofs.Ends.{trailing-before}
use Rattle.set_words.proofs.Places.{has-shifted, has-shifted-low}
use Rattle.masks.proofs.Laws.AllBelow.{in_all}
use Rattle.masks.proofs.Laws.Apart.{apart_of}
use Rattle.masks.proofs.Laws.Gather.{has-gather}
use Rattle.masks.proofs.Laws.Members.{has-and, has-or, has-minus, has-zero, has-single}
use Rattle.masks.proofs.Laws.Single.{∈-or, ∈-single, single-∈, single-⊆}
use Rattle.masks.proofs.Laws.Step.{or-part, minus-or}
use Rattle.masks.proofs.Laws.Subsets.{mem, not-in-zero, ⊆-refl, ⊆-le, ∈-below, or-⊆-l, or-⊆-r, minus-⊆, minus-lt, minus-not-in}
use Rattle.masks.specs.Mask.{gather, has, single, minus, ◌∈◌, ◌⊆◌}
use Rattle.early_quorums.specs.Inner.{reaches, Counted, Sets, Inside, Held}
use Rattle.masks.proofs.Laws.First.{first_member}
use Rattle.sets.specs.Quorum.{quorum}
use Rattle.sets.specs.Slices.{Slices, slices_of}
use Rattle.sets.proofs.Quorum.{quorum-of, quorum-some, quorum-slice}
use Rattle.sets.proofs.Rows.{lists-inside}
use Rattle.sets.proofs.Slices.{inside_of, inside-ex}
use Rattle.sets.specs.Inner.Rows.{of_sets, Rows, ListedRow, rules_of}
use Rattle.table.specs.Table.{count_of, slice_of}

-- the slices of a site: none, one more, all of them, or as many as are such sets

module _ (t : List ℕ) (v : ℕ) where
  pub counted_none : Counted t v 0 0
  counted_none = record { right = λ u l h. absurd (not-in-zero h); each = λ k l. absurd (not-suc-le-zero l) }

  pub counted-more : (i : ℕ) {word : ℕ} → i < count_of t v → Counted t v i word → Counted t v (i + 1) (bit_or word (single (slice_of t v i)))
  counted-more i {word} l m =
      record {
        right = λ u lu h.
            ⊎_elim (λ k. m.right u lu k) (λ k. inside_of t v i l (subst (λ (q : ℕ). q ⊆ u) (single-∈ (slice_of t v i) k) (⊆-refl u))) (∈-or word (single (slice_of t v i)) h);
        each = λ k lk.
            ⊎_elim
            (λ e.
            subst (λ (y : ℕ). slice_of t v y ∈ bit_or word (single (slice_of t v i))) (sym e)
            ((or-⊆-r word (single (slice_of t v i))).each (slice_of t v i) (∈-single (slice_of t v i))))
            (λ ne. (or-⊆-l word (single (slice_of t v i))).each (slice_of t v k) (m.each k (less k lk ne))) (same? k i);
      }
    where
      less : (k : ℕ) → k < i + 1 → (k ≡ i → ⊥) → k < i
      less k h ne = omega arith

  pub counted-all : {word : ℕ} → Counted t v (count_of t v) word → Sets t v 0 word
  counted-all {word} m =
      record { right = m.right; full = λ u i lu li e. subst (λ (q : ℕ). q ∈ word) (sym (reaches-itself (slice_of t v i) u e)) (m.each i li) }

module _ {t : List ℕ} {n v : ℕ} (row : ListedRow t n v) where
  pub counted_stop : (i : ℕ) {word : ℕ} → 64 ≤ slice_of t v i → Counted t v i word → Sets t v 0 word
  counted_stop i {word} big m =
      record { right = m.right; full = λ u k lu lk e. let z = reaches-itself (slice_of t v k) u e in subst (λ (q : ℕ). q ∈ word) (sym z) (pick k lk (subst (λ (q : ℕ). q < 64) z lu) (cases (ltb k i))) }
    where
      bad : {q : ℕ} → slice_of t v i ≤ q → q < 64 → ⊥
      bad a b = omega arith

      pick : (k : ℕ) → k < count_of t v → slice_of t v k < 64 → (ltb k i ≡ true) ⊎ (ltb k i ≡ false) → slice_of t v k ∈ word
      pick k lk few (inl b) = m.each k (ltb-true k i b)
      pick k lk few (inr b) = absurd (bad (ascend-le row i k (ltb-false k i b) lk) few)

-- one site more: each set without it hands on to the set with it

abbrev lift : ℕ → ℕ → ℕ → ℕ
lift x word rest = bit_or word (bit_and word rest * 2 ^ 2 ^ x % 2 ^ 64)

module _ (x word rest : ℕ) (few : x < 6) (w : Without x rest) where
  -- a set with site x, and without it
  with-x : (y : ℕ) → (x ∈ y → ⊥) → bit_or y (single x) ≡ y + 2 ^ x
  with-x y out = or_disjoint y (single x) (apart_of y (single x) (λ v h k. out (subst (λ (z : ℕ). z ∈ y) (single-∈ x k) h)))

  small : 2 ^ x ≤ 32
  small = pow_mono (le-five few)
    where
      le-five : x < 6 → x ≤ 5
      le-five l = omega arith

  lift-ex : (u : ℕ) → u < 64 → u ∈ lift x word rest → (u ∈ word) ⊎ ((y : ℕ) × (y < 64) × (y ⊆ u) × (y ∈ word))
  lift-ex u l h = ⊎_elim inl (λ k. inr (pick k (cases (ltb u (2 ^ x))))) (∈-or word (bit_and word rest * 2 ^ 2 ^ x % 2 ^ 64) h)
    where
      back : 2 ^ x ≤ u → u ≡ 2 ^ x + (u - 2 ^ x)
      back b = omega arith

      turn : 2 ^ x ≤ u → u - 2 ^ x + 2 ^ x ≡ u
      turn b = omega arith

      pick : u ∈ bit_and word rest * 2 ^ 2 ^ x % 2 ^ 64 → (ltb u (2 ^ x) ≡ true) ⊎ (ltb u (2 ^ x) ≡ false) → (y : ℕ) × (y < 64) × (y ⊆ u) × (y ∈ word)
      pick k (inl b) = absurd (clash k.holds (has-shifted-low (bit_and word rest) (2 ^ x) u (ltb-true u (2 ^ x) b) (omega (arith, small))))
      pick k (inr b) =
          let c = ltb-false u (2 ^ x) b in
          let y = u - 2 ^ x in
          let at = sym (has-and word rest y) ∙ sym (has-shifted (bit_and word rest) (2 ^ x) y (subst (λ (z : ℕ). z < 64) (back c) l))
          ∙ sym (ap (has (bit_and word rest * 2 ^ 2 ^ x % 2 ^ 64)) (back c)) ∙ k.holds in
          let ly : y < 64 = omega arith in
          let out : (x ∈ y → ⊥) = λ o. clash o.holds (not_t (has y x) (sym (w.each y ly) ∙ and_r (has word y) (has rest y) at)) in (
            y,
            ly,
            subst (λ (z : ℕ). y ⊆ z) (with-x y out ∙ turn c) (or-⊆-l y (single x)),
            mem (and_l (has word y) (has rest y) at),
          )

  lift-of : (u : ℕ) → u < 64 → x ∈ u → minus u (single x) ∈ word → u ∈ lift x word rest
  lift-of u l i h =
      (or-⊆-r word (bit_and word rest * 2 ^ 2 ^ x % 2 ^ 64)).each u
      (mem (ap (has (bit_and word rest * 2 ^ 2 ^ x % 2 ^ 64)) (sym sum)
      ∙ has-shifted (bit_and word rest) (2 ^ x) y (subst (λ (z : ℕ). z < 64) (sym sum) l)
      ∙ has-and word rest y
      ∙ and_i h.holds (w.each y ly ∙ ap not (is_false (has y x) (λ o. minus-not-in u (mem o) (∈-single x))))))
    where
      y : ℕ
      y = minus u (single x)

      sum : 2 ^ x + y ≡ u
      sum = let p = or-part (single-⊆ i) in omega (arith, minus-or u (single x))

      ly : y < 64
      ly = omega (arith, sum)

  pub sets-lift : (t : List ℕ) (v : ℕ) → Sets t v x word → Sets t v (x + 1) (lift x word rest)
  sets-lift t v m =
      record {
        right = λ u l h. ⊎_elim (λ k. m.right u l k) (λ k. inside-up t v k.2 (m.right k.0 k.1 k.3)) (lift-ex u l h);
        full = λ u i l li e.
            ⊎_elim (λ k. (or-⊆-l word (bit_and word rest * 2 ^ 2 ^ x % 2 ^ 64)).each u (m.full u i l li k))
            (λ k. lift-of u l k.0 (m.full (minus u (single x)) i (le-lt (⊆-le (minus-⊆ u (single x))) l) li k.1))
            (reach-down x (slice_of t v i) u (subst (λ (y : ℕ). reaches y (slice_of t v i) u ≡ true) (add-one x) e));
      }
    where
      le-lt : {a b c : ℕ} → a ≤ b → b < c → a < c
      le-lt p q = omega arith

-- with all six sites handed on the sets are known

sets-are : (t : List ℕ) (v : ℕ) {word : ℕ} → Sets t v 6 word → (u : ℕ) → u < 64 → has word u ≡ (slices_of t).inside v u
sets-are t v {word} m u l =
    iff (has word u) ((slices_of t).inside v u) (λ e. m.right u l (mem e))
    (λ e. let r = inside-ex t v u e in (m.full u r.0 l r.1 (reaches_of (record { inside = r.2; lacks = λ y h k. ∈-below l h }))).holds)

module _ {t : List ℕ} {n : ℕ} (rows : Rows t n) (v : ℕ) where
  pub inside-listed : {word : ℕ} → of_sets t v ≡ false → Sets t v 6 word → Inside (rules_of t) v word
  inside-listed o m = record { each = λ u k. sets-are t v m u k ∙ sym (lists-inside t v o u) }

  pub inside-met : {word : ℕ} → word ≡ gather 64 (λ j. (rules_of t).inside v (0 * 64 + j)) → Inside (rules_of t) v word
  inside-met e =
      record {
        each = λ u k.
            ap (λ (x : ℕ). has x u) e ∙ has-gather 64 (λ j. (rules_of t).inside v (0 * 64 + j)) u
            ∙ ap₂ (λ (b : Bool) (x : ℕ). b && (rules_of t).inside v x) (lt-ltb u 64 k) (plain u);
      }
    where
      plain : (u : ℕ) → 0 * 64 + u ≡ u
      plain u = omega arith

  pub inside-nobody : n ≤ v → Inside (rules_of t) v 0
  inside-nobody l = record { each = λ u k. has-zero u ∙ sym (is_false ((rules_of t).inside v u) (λ e. none (inside-site rows v u e))) }
    where
      none : v < n → ⊥
      none h = omega arith

pub held_none : (r : Slices) → Held r 0 18446744073709551615
held_none r = record { each = λ u l. (in_all l).holds ∙ sym (every-none (λ y. not (has u y) || r.inside y u)) }

pub held_more : (r : Slices) (v : ℕ) {word rest sets : ℕ} → Held r v word → Without v rest → Inside r v sets → Held r (v + 1) (bit_and word (bit_or rest sets))
held_more r v {word} {rest} {sets} h w m =
    record {
      each = λ u l.
          has-and word (bit_or rest sets) u
          ∙ ap₂ (λ a b. a && b) (h.each u l) (has-or rest sets u ∙ ap₂ (λ a b. a || b) (w.each u l) (m.each u l))
          ∙ sym (every-suc v (λ y. not (has u y) || r.inside y u));
    }

-- the quorums among these sets, and the first

module _ {t : List ℕ} {n : ℕ} (rows : Rows t n) {word : ℕ} (h : Held (rules_of t) 6 word) where
  quorum-at : (u : ℕ) → u < 64 → has (minus word 1) u ≡ quorum (rules_of t).inside n u
  quorum-at u l =
      has-minus word 1 u
      ∙ iff (has word u && not (has 1 u)) (quorum (rules_of t).inside n u)
      (λ e.
      let some = not_t (has 1 u) (and_r (has word u) (not (has 1 u)) e) in
      let all = sym (h.each u l) ∙ and_l (has word u) (not (has 1 u)) e in
      quorum-of (rules_of t).inside n (λ z. clash (has-single 0 u ∙ eq-eqb u 0 z) some)
      (record { each = λ v i. in_all (inside-site rows v u (member all v i)) }) (λ v i. member all v i))
      (λ e.
      and_i
      (h.each u l
      ∙ every_of 6 (λ y. not (has u y) || (rules_of t).inside y u)
      (λ y ly. ⊎_elim (λ k. or-i (not (has u y)) ((rules_of t).inside y u) (quorum-slice (rules_of t).inside n e (mem k)))
      (λ k. ap (λ (c : Bool). not c || (rules_of t).inside y u) k) (cases (has u y))))
      (ap not (has-single 0 u ∙ ne_eqb u 0 (quorum-some (rules_of t).inside n e))))
    where
      member : every 6 (λ y. not (has u y) || (rules_of t).inside y u) ≡ true → (v : ℕ) → v ∈ u → (rules_of t).inside v u ≡ true
      member all v i =
          ⊎_elim (λ k. absurd (clash i.holds (not_t (has u v) k))) (λ k. k)
          (or-e (not (has u v)) ((rules_of t).inside v u) (every-at 6 (λ y. not (has u y) || (rules_of t).inside y u) all v (∈-below l i)))

  pub first-is : word < 2 ^ 64 → count_trailing_zeros 64 (minus word 1) ≡ least 64 (quorum (rules_of t).inside n)
  first-is fits = ⊎_elim none some (same? (minus word 1) 0)
    where
      q : ℕ → Bool
      q = quorum (rules_of t).inside n

      none : minus word 1 ≡ 0 → count_trailing_zeros 64 (minus word 1) ≡ least 64 q
      none e =
          ap (count_trailing_zeros 64) e ∙ trailing_of_zero 64
          ∙ sym (least-fails 64 q (λ u l. sym (quorum-at u l) ∙ ap (λ (x : ℕ). has x u) e ∙ has-zero u))

      some : (minus word 1 ≡ 0 → ⊥) → count_trailing_zeros 64 (minus word 1) ≡ least 64 q
      some ne =
          let lt = minus-lt 64 word 1 fits in
          let i = first_member 64 (minus word 1) ne lt in
          let l = ∈-below lt i in
          sym (least-found 64 (count_trailing_zeros 64 (minus word 1)) q l
          (λ u k. sym (quorum-at u (lt_trans k l)) ∙ trailing-before 64 (minus word 1) u k) (sym (quorum-at (count_trailing_zeros 64 (minus word 1)) l) ∙ i.holds))
