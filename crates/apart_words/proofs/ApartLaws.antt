-- Laws of the search: the sets that are quorums together with b, and the first that has one beside it.
use Prim.Native.Nat.{ℕ, ◌+◌, ◌-◌, ◌*◌, ◌/◌, ◌%◌, ◌^◌, ◌≤◌, ◌<◌}
use mathlib.Core.Bool.{Bool, true, false, ◌&&◌, ◌||◌, not}
use mathlib.Core.List.{List}
use mathlib.Core.Logic.{◌⊎◌, inl, inr, ⊎_elim}
use mathlib.Core.Path.{◌≡◌, refl, sym, ap, ap₂, ◌∙◌, subst}
use native.Mathlib.Nat.{lt_of_lt_of_le, mod-lt, le_refl}
use native.Mathlib.Omega.{arith}
use lib.Bits.{bit_and, bit_or, or_lt, or_disjoint, or_zero_l}
use lib.Dec.{eqb, ltb}
use lib.ListN.{get_or, set, length-set}
use lib.Pow.{pow_mono}
use lib.Seq.{get_or-set_same, get_or-set_other}
use borrow.Author.Tests.{eq-eqb, ne_eqb, eqb-true, eqb-false, ltb-true, ltb-false}
use Rattle.ground.proofs.Every.{every_of, every-at}
use Rattle.ground.proofs.Logic.{and_l, and_r, and_i, cases, iff, is_false, clash, or-e, or-i, not_t}
use Rattle.ground.proofs.Numbers.{same?}
use Rattle.masks.proofs.Laws.AllBelow.{in_all}
use Rattle.masks.proofs.Laws.Apart.{apart_of, apart-not-in}
use Rattle.masks.proofs.Laws.Members.{has-and, has-minus, has-single, has-zero}
use Rattle.masks.proofs.Laws.Single.{in?, ∈-or, ∈-eq}
use Rattle.masks.proofs.Laws.Step.{or-part, minus-or}
use Rattle.masks.proofs.Laws.Subsets.{mem, empty, ⊆-antisym, within-⊆, ⊆-within, ∈-below, or-⊆, or-⊆-l, or-⊆-r, minus-⊆, ∈-minus, minus-not-in}
use Rattle.masks.specs.Mask.{has, within, single, minus, ◌∈◌, ◌⊆◌}
use Rattle.sets.proofs.Lawful.{deleted-stays, deleted-answers}
use Rattle.sets.proofs.Quorum.{quorum-of, quorum-some, quorum-slice, quorum-lt}
use Rattle.sets.proofs.Rows.{rows-lawful}
use Rattle.sets.specs.Inner.Rows.{Rows, rules_of}
use Rattle.sets.specs.Quorum.{quorum}
use Rattle.verdicts.proofs.VerdictLaws.{apart-first, apart-second, apart-no-quorum, beside-apart, first-apart-found, first-apart-none, meeting-no-quorum}
use Rattle.verdicts.proofs.VerdictLaws.{apart_of as verdict-apart-of}
use Rattle.verdicts.specs.Verdicts.{apart, beside, first_apart}
use Rattle.set_words.specs.Inner.{Says, in_family, Above, FirstSet}
use Rattle.set_words.proofs.Places.{parts-⊆, low-⊆, high-⊆}
use Rattle.set_words.proofs.WordLaws.{said_at, says_at, says-change}
use Rattle.inside_words.specs.Inner.{fits}
use Rattle.inside_words.proofs.InsideLaws.{inside-site}
use Rattle.apart_words.specs.Inner.{Containing, quorum_with, apart_with, Beside}

-- a set that contains b, without it and with it again
pub with-again : {b s : ℕ} → b ⊆ s → bit_or (minus s b) b ≡ s
with-again {b} {s} h =
    ⊆-antisym (or-⊆ (minus-⊆ s b) h)
    (record { each = λ v i. ⊎_elim (λ k. (or-⊆-r (minus s b) b).each v k) (λ k. (or-⊆-l (minus s b) b).each v (∈-minus i k)) (in? v b) })

-- a set that has no member of b, with it and without it again
pub without-again : (b p : ℕ) → bit_and p b ≡ 0 → minus (bit_or p b) b ≡ p
without-again b p e =
    ⊆-antisym (record { each = λ v i. ⊎_elim (λ k. k) (λ k. absurd (minus-not-in (bit_or p b) i k)) (∈-or p b ((minus-⊆ (bit_or p b) b).each v i)) })
    (record { each = λ v i. ∈-minus ((or-⊆-l p b).each v i) (λ k. apart-not-in e i k) })

-- the words that contain b, and the bit of b itself

within-parts : (b w j : ℕ) → j < 64 → within b (w * 64 + j) ≡ within (b / 64) w && within (b % 64) j
within-parts b w j l =
    iff (within b (w * 64 + j)) (within (b / 64) w && within (b % 64) j)
    (λ e.
    let s = subst (λ (z : ℕ). z ⊆ w * 64 + j) (sym (whole b)) (within-⊆ b (w * 64 + j) e) in
    and_i (⊆-within (high-⊆ 6 (b / 64) w (mod-lt b (omega arith)) l s)) (⊆-within (low-⊆ 6 (b / 64) w (mod-lt b (omega arith)) l s)))
    (λ e.
    ⊆-within (subst (λ (z : ℕ). z ⊆ w * 64 + j) (whole b)
    (parts-⊆ 6 (b / 64) w (mod-lt b (omega arith)) l (within-⊆ (b / 64) w (and_l (within (b / 64) w) (within (b % 64) j) e)) (within-⊆ (b % 64) j (and_r (within (b / 64) w) (within (b % 64) j) e)))))
  where
    whole : (b : ℕ) → b / 64 * 64 + b % 64 ≡ b
    whole b = omega arith

pub contained : (b w : ℕ) (old list : List ℕ) {here keep : ℕ} → here ≡ get_or old w 0 → Above 64 list → Containing (b / 64) w (get_or list (b % 64) 0) keep → (j : ℕ) → j < 64
    → has (bit_and here keep) j ≡ in_family old (w * 64 + j) && within b (w * 64 + j)
contained b w old list {here} {keep} e a k j l =
    has-and here keep j
    ∙ ap₂ (λ x y. x && y) (ap (λ (x : ℕ). has x j) e ∙ sym (said_at old w j l))
    (k.each j ∙ ap (λ (c : Bool). within (b / 64) w && c) (a.each (b % 64) j (mod-lt b (omega arith)) l) ∙ sym (within-parts b w j l))

pub without-b : (b : ℕ) (p : ℕ → Bool) {words : List ℕ} → b < 4096 → Says p words
    → Says (λ s. p s && not (eqb s b)) (set words (b / 64) (minus (get_or words (b / 64) 0) (single (b % 64))))
without-b b p {words} lb h =
    record {
      long = length-set words (b / 64) new ∙ h.long;
      each = λ w j lw lj.
          ⊎_elim
          (λ e.
          ap (λ (z : ℕ). has (get_or (set words (b / 64) new) z 0) j) e
          ∙ ap (λ (z : ℕ). has z j) (get_or-set_same words (b / 64) new 0 (omega (arith, h.long)))
          ∙ has-minus (get_or words (b / 64) 0) (single (b % 64)) j
          ∙ ap₂ (λ x y. x && not y) (ap (λ (z : ℕ). has (get_or words z 0) j) (sym e) ∙ h.each w j lw lj) (has-single (b % 64) j ∙ same_bit w j lj e))
          (λ ne.
          ap (λ (z : ℕ). has z j) (get_or-set_other words (b / 64) w new 0 ne) ∙ h.each w j lw lj
          ∙ sym (ap (λ (c : Bool). p (w * 64 + j) && not c) (ne_eqb (w * 64 + j) b (λ z. ne (word w j lj z))) ∙ and-t (p (w * 64 + j))))
          (same? w (b / 64));
    }
  where
    new : ℕ
    new = minus (get_or words (b / 64) 0) (single (b % 64))

    and-t : (a : Bool) → a && true ≡ a
    and-t true = refl
    and-t false = refl

    word : (w j : ℕ) → j < 64 → w * 64 + j ≡ b → w ≡ b / 64
    word w j l e = omega arith

    same_bit : (w j : ℕ) → j < 64 → w ≡ b / 64 → eqb j (b % 64) ≡ eqb (w * 64 + j) b
    same_bit w j l e =
        iff (eqb j (b % 64)) (eqb (w * 64 + j) b) (λ k. eq-eqb (w * 64 + j) b (join w j (eqb-true j (b % 64) k) e))
        (λ k. eq-eqb j (b % 64) (bit w j l (eqb-true (w * 64 + j) b k)))
      where
        join : (w j : ℕ) → j ≡ b % 64 → w ≡ b / 64 → w * 64 + j ≡ b
        join w j a c = omega arith

        bit : (w j : ℕ) → j < 64 → w * 64 + j ≡ b → j ≡ b % 64
        bit w j l e = omega arith

-- the sets that are quorums together with b

module _ {t : List ℕ} {n : ℕ} (rows : Rows t n) (b : ℕ) where
  abbrev s : ℕ → ℕ → Bool
  s = (rules_of t).deleted b

  -- who is in u and not in b has a slice
  fits-slice : (u v : ℕ) → u < 4096 → fits (rules_of t) b 12 u ≡ true → v ∈ u → (v ∈ b → ⊥) → (rules_of t).inside v u ≡ true
  unfolding fits
  fits-slice u v l e i o =
      ⊎_elim (λ k. absurd (o (mem k)))
      (λ k. ⊎_elim (λ m. absurd (clash i.holds (not_t (has u v) m))) (λ m. m) (or-e (not (has u v)) ((rules_of t).inside v u) k))
      (or-e (has b v) (not (has u v) || (rules_of t).inside v u) (every-at 12 (λ v. has b v || (not (has u v) || (rules_of t).inside v u)) e v (∈-below l i)))

  deleted-slice : {u v : ℕ} → b ⊆ u → (rules_of t).inside v u ≡ true → (v ∈ b → ⊥) → (rules_of t).deleted b v (minus u b) ≡ true
  deleted-slice {u} {v} sub e o =
      (rows-lawful rows).deleted-or b v (minus u b)
      ∙ and_i (ap not (is_false (has b v) (λ k. o (mem k)))) (ap ((rules_of t).inside v) (with-again sub) ∙ e)

  slice-deleted : (u v : ℕ) → b ⊆ u → (rules_of t).deleted b v (minus u b) ≡ true → (rules_of t).inside v u ≡ true
  slice-deleted u v sub e =
      ap ((rules_of t).inside v) (sym (with-again sub)) ∙ and_r (not (has b v)) ((rules_of t).inside v (bit_or (minus u b) b)) (sym ((rows-lawful rows).deleted-or b v (minus u b)) ∙ e)

  quorum-with : (u : ℕ) → u < 4096 → (fits (rules_of t) b 12 u && within b u) && not (eqb u b) ≡ quorum_with (rules_of t) n b u
  unfolding quorum_with fits
  quorum-with u l =
      iff ((fits (rules_of t) b 12 u && within b u) && not (eqb u b)) (within b u && quorum ((rules_of t).deleted b) n (minus u b))
      (λ e.
      let f = and_l (fits (rules_of t) b 12 u && within b u) (not (eqb u b)) e in
      let w = and_r (fits (rules_of t) b 12 u) (within b u) f in
      let sub = within-⊆ b u w in
      let has-slice : ((v : ℕ) → v ∈ minus u b → (rules_of t).inside v u ≡ true) = λ v i. fits-slice u v l (and_l (fits (rules_of t) b 12 u) (within b u) f) ((minus-⊆ u b).each v i) (minus-not-in u i) in
      and_i w
      (quorum-of ((rules_of t).deleted b) n (λ z. eqb-false u b (not_t (eqb u b) (and_r (fits (rules_of t) b 12 u && within b u) (not (eqb u b)) e)) (sym (with-again sub) ∙ ap (λ (x : ℕ). bit_or x b) z ∙ or-none))
      (record { each = λ v i. in_all (inside-site rows v u (has-slice v i)) }) (λ v i. deleted-slice sub (has-slice v i) (minus-not-in u i))))
      (λ e.
      let w = and_l (within b u) (quorum ((rules_of t).deleted b) n (minus u b)) e in
      let k = and_r (within b u) (quorum ((rules_of t).deleted b) n (minus u b)) e in
      let sub = within-⊆ b u w in
      and_i (and_i (every_of 12 (λ v. has b v || (not (has u v) || (rules_of t).inside v u)) (λ v lv. one u v sub k (in? v b) (in? v u))) w)
      (ap not (ne_eqb u b (λ z. quorum-some ((rules_of t).deleted b) n k (empty (minus u b) (λ v i. minus-not-in u i (∈-eq z ((minus-⊆ u b).each v i))))))))
    where
      or-none : bit_or 0 b ≡ b
      or-none = or_zero_l b

      one : (u v : ℕ) → b ⊆ u → quorum ((rules_of t).deleted b) n (minus u b) ≡ true → (v ∈ b) ⊎ (v ∈ b → ⊥) → (v ∈ u) ⊎ (v ∈ u → ⊥)
          → has b v || (not (has u v) || (rules_of t).inside v u) ≡ true
      one u v sub k (inl o) d = ap (λ (c : Bool). c || (not (has u v) || (rules_of t).inside v u)) o.holds
      one u v sub k (inr o) (inl d) =
          or-i (has b v) (not (has u v) || (rules_of t).inside v u)
          (or-i (not (has u v)) ((rules_of t).inside v u) (slice-deleted u v sub (quorum-slice ((rules_of t).deleted b) n k (∈-minus d o))))
      one u v sub k (inr o) (inr d) =
          or-i (has b v) (not (has u v) || (rules_of t).inside v u)
          (ap (λ (c : Bool). not c || (rules_of t).inside v u) (is_false (has u v) (λ e. d (mem e))))

  pub quorums-left : {old new : List ℕ} → Says (fits (rules_of t) b 12) old → Says (λ u. (in_family old u && within b u) && not (eqb u b)) new → Says (quorum_with (rules_of t) n b) new
  quorums-left p = says-change (λ u l. ap (λ c. (c && within b u) && not (eqb u b)) (says_at p u l) ∙ quorum-with u l)

  -- which of them have one beside them

  module _ {sets words : List ℕ} (few : n ≤ 12) (fits-b : b < 2 ^ n) (quorums : Says (quorum_with (rules_of t) n b) sets) (others : Beside b sets words) where
    sites : {u : ℕ} → u < 2 ^ n → u < 4096
    sites l = lt_of_lt_of_le l (pow_mono few)

    said-quorum : (q : ℕ) → q < 4096 → in_family sets q ≡ true → (b ⊆ q) × (quorum s n (minus q b) ≡ true)
    unfolding quorum_with
    said-quorum q l e =
        let k = sym (says_at quorums q l) ∙ e in
        (within-⊆ b q (and_l (within b q) (quorum s n (minus q b)) k), and_r (within b q) (quorum s n (minus q b)) k)

    quorum-said : (q : ℕ) → q < 4096 → b ⊆ q → quorum s n (minus q b) ≡ true → in_family sets q ≡ true
    unfolding quorum_with
    quorum-said q l sub k = says_at quorums q l ∙ and_i (⊆-within sub) k

    both_is : (w j : ℕ) → w < 64 → j < 64 → has (bit_and (get_or sets w 0) (get_or words (bit_or (63 - w) (b / 64)) 0)) j ≡ apart_with (rules_of t) n b (w * 64 + j)
    unfolding apart_with
    both_is w j lw lj =
        has-and (get_or sets w 0) (get_or words (bit_or (63 - w) (b / 64)) 0) j
        ∙ iff (has (get_or sets w 0) j && has (get_or words (bit_or (63 - w) (b / 64)) 0) j) (apart_with (rules_of t) n b u)
        (λ e.
        let k = said-quorum u lu (said_at sets w j lj ∙ and_l (has (get_or sets w 0) j) (has (get_or words (bit_or (63 - w) (b / 64)) 0) j) e) in
        let o = others.right w j lw lj k.0 (mem (and_r (has (get_or sets w 0) j) (has (get_or words (bit_or (63 - w) (b / 64)) 0) j) e)) in
        let q = o.0 in
        let kq = said-quorum q o.1 o.3 in
        and_i (⊆-within k.0)
        (verdict-apart-of s n (deleted-answers (rows-lawful rows) b).rule (minus u b) (minus q b) k.1 kq.1
        (apart_of (minus u b) (minus q b) (λ z i m. o.2 z ((minus-⊆ q b).each z m) (minus-not-in q m) ((minus-⊆ u b).each z i)))))
        (λ e.
        let sub = within-⊆ b u (and_l (within b u) (apart s n (minus u b)) e) in
        let a = and_r (within b u) (apart s n (minus u b)) e in
        let p = minus u b in
        let q = beside s n p in
        let kq = apart-second s n p a in
        let qb = no_member q kq in
        and_i (sym (said_at sets w j lj) ∙ quorum-said u lu sub (apart-first s n p a))
        (others.full w j (bit_or q b) lw lj sub (sites (or_lt n q b (quorum-lt s n kq) fits-b)) (or-⊆-r q b)
        (λ z i o m. ⊎_elim (λ k. apart-not-in (beside-apart s n p) (∈-minus m o) k) (λ k. o k) (∈-or q b i))
        (quorum-said (bit_or q b) (sites (or_lt n q b (quorum-lt s n kq) fits-b)) (or-⊆-r q b) (subst (λ (x : ℕ). quorum s n x ≡ true) (sym (without-again b q qb)) kq))).holds)
      where
        u : ℕ
        u = w * 64 + j

        lu : u < 4096
        lu = omega arith

        no_member : (q : ℕ) → quorum s n q ≡ true → bit_and q b ≡ 0
        no_member q k = apart_of q b (λ z i m. deleted-stays (rows-lawful rows) b z q (quorum-slice s n k i) m)

    none_apart : (p : ℕ) → (bit_and p b ≡ 0 → apart_with (rules_of t) n b (bit_or p b) ≡ false) → apart s n p ≡ false
    unfolding apart_with
    none_apart p f =
        ⊎_elim
        (λ d.
        is_false (apart s n p)
        (λ e. clash (and_i (⊆-within (or-⊆-r p b)) (subst (λ (x : ℕ). apart s n x ≡ true) (sym (without-again b p (eqb-true (bit_and p b) 0 d))) e)) (f (eqb-true (bit_and p b) 0 d))))
        (λ d. apart-no-quorum s n p (meeting-no-quorum s n b (deleted-stays (rows-lawful rows) b) p (eqb-false (bit_and p b) 0 d)))
        (cases (eqb (bit_and p b) 0))

    -- the search: nothing in the sets before u; nothing in a word; found; nothing at all

    module _ (w : ℕ) (lw : w < 64) (none : (u : ℕ) → u < w * 64 → apart_with (rules_of t) n b u ≡ false) where
      abbrev both : ℕ
      both = bit_and (get_or sets w 0) (get_or words (bit_or (63 - w) (b / 64)) 0)

      before : (k : ℕ) → k ≤ 64 → ((j : ℕ) → j < k → has both j ≡ false) → (u : ℕ) → u < w * 64 + k → apart_with (rules_of t) n b u ≡ false
      before k lk f u l =
          ⊎_elim (λ e. none u (ltb-true u (w * 64) e))
          (λ e.
          let h = ltb-false u (w * 64) e in
          let j = u - w * 64 in
          let lj : j < k = omega arith in
          ap (apart_with (rules_of t) n b) (back h) ∙ sym (both_is w j lw (omega (arith, lj, lk))) ∙ f j lj)
          (cases (ltb u (w * 64)))
        where
          back : w * 64 ≤ u → u ≡ w * 64 + (u - w * 64)
          back h = omega arith

      pub none_here : both ≡ 0 → (u : ℕ) → u < (w + 1) * 64 → apart_with (rules_of t) n b u ≡ false
      none_here e u l = before 64 (le_refl 64) (λ j lj. ap (λ (x : ℕ). has x j) e ∙ has-zero j) u (omega (arith, l))

      pub found_here : {j : ℕ} → FirstSet both j → minus (w * 64 + j) b ≡ first_apart ((rules_of t).deleted b) n
      unfolding apart_with
      found_here {j} i =
          let a = sym (both_is w j lw i.below) ∙ i.member.holds in
          first_by (w * 64 + j) (and_l (within b (w * 64 + j)) (apart s n (minus (w * 64 + j) b)) a) (and_r (within b (w * 64 + j)) (apart s n (minus (w * 64 + j) b)) a)
          (before j (less i.below) i.before)
        where
          less : {j : ℕ} → j < 64 → j ≤ 64
          less h = omega arith

          first_by : (u : ℕ) → within b u ≡ true → apart s n (minus u b) ≡ true → ((y : ℕ) → y < u → apart_with (rules_of t) n b y ≡ false) → minus u b ≡ first_apart s n
          first_by u e a f =
              sym (first-apart-found s n (minus u b) (quorum-lt s n (apart-first s n (minus u b) a))
              (λ p lp. none_apart p (λ d. f (bit_or p b) (omega (arith, lp, minus-or u b, or-part (within-⊆ b u e), or_disjoint p b d)))) a)

    pub none_at_all : ((u : ℕ) → u < 4096 → apart_with (rules_of t) n b u ≡ false) → 2 ^ n ≡ first_apart ((rules_of t).deleted b) n
    none_at_all f = sym (first-apart-none s n (λ p l. none_apart p (λ d. f (bit_or p b) (sites (or_lt n p b l fits-b)))))
