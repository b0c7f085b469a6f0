-- Laws of pairs that are kept: a pair shows that a larger set is not dispensable; one pair more.
use Prim.Native.Nat.{ℕ, zero, suc, ◌+◌, ◌*◌, ◌<◌}
use mathlib.Core.Bool.{Bool, true, false, ◌||◌, not}
use mathlib.Core.List.{List}
use mathlib.Core.Logic.{⊎_elim}
use mathlib.Core.Path.{◌≡◌, refl, sym, ap, ◌∙◌, subst}
use native.Mathlib.Omega.{arith}
use lib.Bits.{bit_and, bit_or, and_zero_l}
use lib.Dec.{eqb}
use lib.ListN.{length, get_or, set, replicate, length-set, length-replicate}
use lib.Seq.{get_or-set_same, get_or-set_other}
use Rattle.ground.proofs.Logic.{and_l, and_r, and_i, is_false}
use Rattle.ground.proofs.Numbers.{same?}
use Rattle.masks.proofs.Laws.Apart.{apart-⊆, common-of}
use Rattle.masks.proofs.Laws.Single.{in?, ∈-or, ∈-eq}
use Rattle.masks.proofs.Laws.Subsets.{mem, not-in-zero, ⊆-trans, or-⊆-l, or-⊆-r, minus-⊆, ∈-minus, minus-not-in}
use Rattle.masks.specs.Mask.{has, minus, all_below, ◌∈◌, ◌⊆◌}
use Rattle.sets.proofs.Lawful.{inside-grows, deleted-answers}
use Rattle.sets.proofs.Quorum.{quorum-of, quorum-below, quorum-slice}
use Rattle.sets.proofs.Rows.{rows-lawful}
use Rattle.sets.specs.Inner.Rows.{Rows, rules_of}
use Rattle.sets.specs.Quorum.{quorum}
use Rattle.sets.specs.Slices.{Slices}
use Rattle.verdicts.proofs.VerdictLaws.{meets-common}
use Rattle.verdicts.specs.Verdicts.{meets, dispensable}
use Rattle.known_pairs.specs.Inner.{Pair, Pairs, Left}

module _ {t : List ℕ} {n : ℕ} (rows : Rows t n) where
  -- what is left of a quorum with a larger set deleted is a quorum, if it is not empty
  module _ (deleted b p : ℕ) (sub : deleted ⊆ b) (k : quorum ((rules_of t).deleted deleted) n p ≡ true) where
    larger : (v : ℕ) → v ∈ bit_or p deleted → v ∈ bit_or (minus p b) b
    larger v h =
        ⊎_elim (λ i. ⊎_elim (λ o. (or-⊆-r (minus p b) b).each v o) (λ o. (or-⊆-l (minus p b) b).each v (∈-minus i o)) (in? v b)) (λ i. (or-⊆-r (minus p b) b).each v (sub.each v i)) (∈-or p deleted h)

    left-quorum : (minus p b ≡ 0 → ⊥) → quorum ((rules_of t).deleted b) n (minus p b) ≡ true
    left-quorum ne =
        quorum-of ((rules_of t).deleted b) n ne (⊆-trans (minus-⊆ p b) (quorum-below ((rules_of t).deleted deleted) n k))
        (λ v i.
        (rows-lawful rows).deleted-or b v (minus p b)
        ∙ and_i (ap not (is_false (has b v) (λ e. minus-not-in p i (mem e))))
        ((inside-grows (rows-lawful rows)).grows v (bit_or p deleted) (bit_or (minus p b) b) (record { each = larger })
        (and_r (not (has deleted v)) ((rules_of t).inside v (bit_or p deleted))
        (sym ((rows-lawful rows).deleted-or deleted v p) ∙ quorum-slice ((rules_of t).deleted deleted) n k ((minus-⊆ p b).each v i)))))

  some_left : (rest p : ℕ) → (bit_and p rest ≡ 0 → ⊥) → minus p (minus (all_below n) rest) ≡ 0 → ⊥
  some_left rest p ne e =
      let m = common-of p rest ne in
      not-in-zero (∈-eq e (∈-minus m.1 (λ o. minus-not-in (all_below n) o m.2)))

  pub pair-shows : (rest : ℕ) {deleted p q : ℕ} → Pair (rules_of t) n deleted p q → deleted ⊆ minus (all_below n) rest → (bit_and p rest ≡ 0 → ⊥) → (bit_and q rest ≡ 0 → ⊥)
      → dispensable (rules_of t) n (minus (all_below n) rest) ≡ false
  unfolding dispensable
  pair-shows rest {deleted} {p} {q} k sub np nq =
      let b = minus (all_below n) rest in
      is_false (dispensable (rules_of t) n b)
      (λ d.
      meets-common ((rules_of t).deleted b) n (deleted-answers (rows-lawful rows) b).rule (and_l (meets ((rules_of t).deleted b) n) (quorum (rules_of t).inside n (minus (all_below n) b) || eqb b (all_below n)) d) (minus p b) (minus q b)
      (left-quorum deleted b p sub k.first (some_left rest p np)) (left-quorum deleted b q sub k.second (some_left rest q nq))
      (apart-⊆ (minus-⊆ p b) (minus-⊆ q b) k.apart))

  -- by one that is kept
  pub kept-shows : {pairs : List ℕ} (rest k : ℕ) {answer : Bool} → Pairs (rules_of t) n pairs → k < 16
      → Left rest (minus (all_below n) rest) (get_or pairs (3 * k) 0) (get_or pairs (3 * k + 1) 0) (get_or pairs (3 * k + 2) 0) answer → answer ≡ true
      → dispensable (rules_of t) n (minus (all_below n) rest) ≡ false
  kept-shows {pairs} rest k ps l h e =
      pair-shows rest (ps.each k l (λ z. h.second e (ap (λ (x : ℕ). bit_and x rest) z ∙ and_zero_l rest))) (h.inside e) (h.first e) (h.second e)

-- none yet, and one more

module _ (r : Slices) (n : ℕ) where
  zeros : (m y : ℕ) → ◌≡◌ {A = ℕ} (get_or (replicate m 0) y 0) 0
  zeros zero y = refl
  zeros (suc m) zero = refl
  zeros (suc m) (suc y) = zeros m y

  pub pairs-none : Pairs r n (replicate 49 0)
  pairs-none = record { long = length-replicate {A = ℕ} 49 0; each = λ k l ne. absurd (ne (zeros 49 (3 * k + 2))) }

  module _ (pairs : List ℕ) (k gone p q count : ℕ) (lk : k < 16) where
    abbrev one : List ℕ
    one = set pairs 48 count

    abbrev two : List ℕ
    two = set one (3 * k) gone

    abbrev three : List ℕ
    three = set two (3 * k + 1) p

    abbrev four : List ℕ
    four = set three (3 * k + 2) q

    long : length four ≡ length pairs
    long = length-set three (3 * k + 2) q ∙ length-set two (3 * k + 1) p ∙ length-set one (3 * k) gone ∙ length-set pairs 48 count

    pub pairs-more : ((q ≡ 0 → ⊥) → Pair r n gone p q) → Pairs r n pairs → Pairs r n four
    pairs-more new h =
        record {
          long = long ∙ h.long;
          each = λ y l ne.
              ⊎_elim
              (λ e. subst (λ (z : ℕ). Pair r n (get_or four (3 * z) 0) (get_or four (3 * z + 1) 0) (get_or four (3 * z + 2) 0)) (sym e)
              (here (λ z. ne (ap (λ (x : ℕ). get_or four (3 * x + 2) 0) e ∙ at-2 ∙ z))))
              (λ d. there y l d (λ z. ne (other y 2 l (omega arith) d ∙ z))) (same? y k);
        }
      where
        room : length pairs ≡ 49
        room = h.long

        at-2 : get_or four (3 * k + 2) 0 ≡ q
        at-2 = get_or-set_same three (3 * k + 2) q 0 (omega (arith, room, lk, length-set two (3 * k + 1) p, length-set one (3 * k) gone, length-set pairs 48 count))

        at_1 : get_or four (3 * k + 1) 0 ≡ p
        at_1 =
            get_or-set_other three (3 * k + 2) (3 * k + 1) q 0 (λ e. bad e)
            ∙ get_or-set_same two (3 * k + 1) p 0 (omega (arith, room, lk, length-set one (3 * k) gone, length-set pairs 48 count))
          where
            bad : 3 * k + 1 ≡ 3 * k + 2 → ⊥
            bad e = omega arith

        at-0 : get_or four (3 * k) 0 ≡ gone
        at-0 =
            get_or-set_other three (3 * k + 2) (3 * k) q 0 (λ e. bad-2 e) ∙ get_or-set_other two (3 * k + 1) (3 * k) p 0 (λ e. bad-1 e)
            ∙ get_or-set_same one (3 * k) gone 0 (omega (arith, room, lk, length-set pairs 48 count))
          where
            bad-2 : 3 * k ≡ 3 * k + 2 → ⊥
            bad-2 e = omega arith

            bad-1 : 3 * k ≡ 3 * k + 1 → ⊥
            bad-1 e = omega arith

        here : (q ≡ 0 → ⊥) → Pair r n (get_or four (3 * k) 0) (get_or four (3 * k + 1) 0) (get_or four (3 * k + 2) 0)
        here ne =
            subst (λ (x : ℕ). Pair r n x (get_or four (3 * k + 1) 0) (get_or four (3 * k + 2) 0)) (sym at-0)
            (subst (λ (x : ℕ). Pair r n gone x (get_or four (3 * k + 2) 0)) (sym at_1) (subst (λ (x : ℕ). Pair r n gone p x) (sym at-2) (new ne)))

        other : (y i : ℕ) → y < 16 → i < 3 → (y ≡ k → ⊥) → get_or four (3 * y + i) 0 ≡ get_or pairs (3 * y + i) 0
        other y i ly li ne =
            get_or-set_other three (3 * k + 2) (3 * y + i) q 0 (λ e. ne (same-2 e))
            ∙ get_or-set_other two (3 * k + 1) (3 * y + i) p 0 (λ e. ne (same-1 e))
            ∙ get_or-set_other one (3 * k) (3 * y + i) gone 0 (λ e. ne (same-0 e))
            ∙ get_or-set_other pairs 48 (3 * y + i) count 0 (λ e. bad e)
          where
            same-2 : 3 * y + i ≡ 3 * k + 2 → y ≡ k
            same-2 e = omega arith

            same-1 : 3 * y + i ≡ 3 * k + 1 → y ≡ k
            same-1 e = omega arith

            same-0 : 3 * y + i ≡ 3 * k → y ≡ k
            same-0 e = omega arith

            bad : 3 * y + i ≡ 48 → ⊥
            bad e = omega arith

        plus_none : (x : ℕ) → x + 0 ≡ x
        plus_none x = omega arith

        there : (y : ℕ) → y < 16 → (y ≡ k → ⊥) → (get_or pairs (3 * y + 2) 0 ≡ 0 → ⊥) → Pair r n (get_or four (3 * y) 0) (get_or four (3 * y + 1) 0) (get_or four (3 * y + 2) 0)
        there y l d ne =
            let e0 : get_or four (3 * y) 0 ≡ get_or pairs (3 * y) 0 = subst (λ (x : ℕ). get_or four x 0 ≡ get_or pairs x 0) (plus_none (3 * y)) (other y 0 l (omega arith) d) in
            subst (λ (x : ℕ). Pair r n x (get_or four (3 * y + 1) 0) (get_or four (3 * y + 2) 0)) (sym e0)
            (subst (λ (x : ℕ). Pair r n (get_or pairs (3 * y) 0) x (get_or four (3 * y + 2) 0)) (sym (other y 1 l (omega arith) d))
            (subst (λ (x : ℕ). Pair r n (get_or pairs (3 * y) 0) (get_or pairs (3 * y + 1) 0) x) (sym (other y 2 l (omega arith) d)) (h.each y l ne)))
