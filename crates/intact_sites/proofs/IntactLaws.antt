-- Laws of the search for intact sites: what a quorum that is asked gives, and that nothing is missed between one quorum and the next.
use Prim.Native.Nat.{ℕ, ◌+◌, ◌^◌, ◌≤◌, ◌<◌}
use mathlib.Core.Bool.{Bool, true, false, ◌&&◌, ◌||◌, not, cond}
use mathlib.Core.List.{List}
use mathlib.Core.Logic.{◌⊎◌, inl, inr, ⊎_elim}
use mathlib.Core.Path.{◌≡◌, sym, ap, ◌∙◌, subst}
use native.Mathlib.Nat.{lt_of_lt_of_le, le_refl}
use native.Mathlib.Omega.{arith}
use lib.Bits.{bit_and, bit_or, or_zero_r}
use lib.Dec.{eqb, ltb}
use lib.Pow.{ones_lt, pow_mono, suc_ones}
use borrow.Author.Tests.{eq-eqb, ne_eqb, eqb-true, ltb-true, ltb-false}
use Rattle.ground.proofs.Every.{every_of, every-at}
use Rattle.ground.proofs.Logic.{and_l, and_r, and_i, cases, is_false, clash, or-e, or-i, not_t}
use Rattle.masks.proofs.Laws.AllBelow.{in_all, ⊆-all}
use Rattle.masks.proofs.Laws.Apart.{apart_of, apart-not-in}
use Rattle.masks.proofs.Laws.Single.{in?, ∈-eq}
use Rattle.masks.proofs.Laws.Step.{or-part, minus-or}
use Rattle.masks.proofs.Laws.Subsets.{mem, not-in-zero, empty, ⊆-zero, ⊆-antisym, ⊆-le, ∈-below, within-⊆, or-⊆-l, minus-⊆, ∈-minus, minus-not-in, minus-lt}
use Rattle.masks.specs.Mask.{has, within, minus, all_below, ◌∈◌, ◌⊆◌}
use Rattle.sets.proofs.Quorum.{quorum-of, quorum-below, quorum-slice, quorum-lt}
use Rattle.sets.specs.Inner.Rows.{Rows, rules_of}
use Rattle.sets.specs.Quorum.{quorum}
use Rattle.sets.specs.Slices.{Slices}
use Rattle.verdicts.proofs.VerdictLaws.{dispensable-left, dispensable-not, first-apart-is, apart-first, leaves_quorum, gathered-more, gathered-end, gathered-all}
use Rattle.verdicts.specs.Inner.{Gathered}
use Rattle.verdicts.specs.Verdicts.{first_apart, meets, dispensable, intact}
use Rattle.set_words.specs.Inner.{Says, in_family}
use Rattle.set_words.proofs.WordLaws.{says_at, says-change}
use Rattle.inside_words.specs.Inner.{fits}
use Rattle.inside_words.proofs.InsideLaws.{inside-site}
use Rattle.contents.specs.Inner.{Contents}
use Rattle.picked_words.specs.Inner.{LastBelow}
use Rattle.apart_words.specs.Inner.{quorum_with}
use Rattle.known_pairs.specs.Inner.{Pair}

-- the sites outside the sites outside
pub outside-again : (n u : ℕ) → u ⊆ all_below n → minus (all_below n) (minus (all_below n) u) ≡ u
outside-again n u s =
    ⊆-antisym
    (record { each = λ v h. ⊎_elim (λ k. k) (λ k. absurd (minus-not-in (all_below n) h (∈-minus ((minus-⊆ (all_below n) (minus (all_below n) u)).each v h) k))) (in? v u) })
    (record { each = λ v h. ∈-minus (s.each v h) (λ k. minus-not-in (all_below n) k h) })

-- a set and the sites outside it are all sites, as numbers
outside-sum : (n u : ℕ) → u ⊆ all_below n → minus (all_below n) u + u ≡ all_below n
outside-sum n u s = minus-or (all_below n) u ∙ or-part s

pub outside-larger : (n : ℕ) {u w : ℕ} → u ⊆ w → minus (all_below n) w ⊆ minus (all_below n) u
outside-larger n {u} {w} s = record { each = λ v h. ∈-minus ((minus-⊆ (all_below n) w).each v h) (λ k. minus-not-in (all_below n) h (s.each v k)) }

-- with a larger set left out, what is kept is enough
pub contents-fewer : (r : Slices) {f b k : ℕ} {kept : List ℕ} → f ⊆ b → Contents r f k kept → Contents r b k kept
contents-fewer r s c = record { long = c.long; each = λ v l o. c.each v l (λ i. o (s.each v i)) }

-- a quorum that is asked

module _ (t : List ℕ) (n rest : ℕ) (k : quorum (rules_of t).inside n rest ≡ true) where
  leaves : leaves_quorum (rules_of t) n (minus (all_below n) rest) ≡ true
  leaves =
      ap (λ (c : Bool). c || eqb (minus (all_below n) rest) (all_below n))
      (ap (quorum (rules_of t).inside n) (outside-again n rest (quorum-below (rules_of t).inside n k)) ∙ k)

  asked : dispensable (rules_of t) n (minus (all_below n) rest) ≡ eqb (first_apart ((rules_of t).deleted (minus (all_below n) rest)) n) (2 ^ n)
  asked = dispensable-left (rules_of t) n (minus (all_below n) rest) leaves

  pub spared-all : {p : ℕ} → p ≡ first_apart ((rules_of t).deleted (minus (all_below n) rest)) n → p ≡ 2 ^ n → rest ≡ cond (dispensable (rules_of t) n (minus (all_below n) rest)) rest 0
  spared-all e z = sym (ap (λ (c : Bool). cond c rest 0) (asked ∙ eq-eqb (first_apart ((rules_of t).deleted (minus (all_below n) rest)) n) (2 ^ n) (sym e ∙ z)))

  pub spared-none : {p : ℕ} → p ≡ first_apart ((rules_of t).deleted (minus (all_below n) rest)) n → (p ≡ 2 ^ n → ⊥) → 0 ≡ cond (dispensable (rules_of t) n (minus (all_below n) rest)) rest 0
  spared-none e ne = sym (ap (λ (c : Bool). cond c rest 0) (asked ∙ ne_eqb (first_apart ((rules_of t).deleted (minus (all_below n) rest)) n) (2 ^ n) (λ z. ne (e ∙ z))))

  -- known already, or known from a pair

  pub spared-known : (known : ℕ) → within rest known ≡ true → bit_or known 0 ≡ bit_or known (cond (dispensable (rules_of t) n (minus (all_below n) rest)) rest 0)
  spared-known known e = or_zero_r known ∙ sym (pick (dispensable (rules_of t) n (minus (all_below n) rest)))
    where
      pick : (c : Bool) → bit_or known (cond c rest 0) ≡ known
      pick true = or-part (within-⊆ rest known e)
      pick false = or_zero_r known

  pub spared-not : (known : ℕ) → dispensable (rules_of t) n (minus (all_below n) rest) ≡ false → bit_or known 0 ≡ bit_or known (cond (dispensable (rules_of t) n (minus (all_below n) rest)) rest 0)
  spared-not known e = sym (ap (λ (c : Bool). bit_or known (cond c rest 0)) e)

-- the first of two quorums that were found
pub first-quorum : (s : ℕ → ℕ → Bool) (n : ℕ) {p : ℕ} → p ≡ first_apart s n → (p ≡ 2 ^ n → ⊥) → quorum s n p ≡ true
unfolding meets
first-quorum s n e ne =
    subst (λ (x : ℕ). quorum s n x ≡ true) (sym e) (apart-first s n (first_apart s n) (first-apart-is s n (ne_eqb (first_apart s n) (2 ^ n) (λ z. ne (e ∙ z)))))

-- the second
pub second-quorum : (r : Slices) (n gone p : ℕ) {old sets : List ℕ} {u : ℕ} → quorum (r.deleted gone) n p ≡ true → Says (quorum_with r n gone) old
    → Says (λ s. in_family old s && eqb (bit_and s p) 0) sets → LastBelow sets 4095 u → (minus u gone ≡ 0 → ⊥) → Pair r n gone p (minus u gone)
unfolding quorum_with
second-quorum r n gone p {old} {sets} {u} k q s h ne =
    let some : (u ≡ 0 → ⊥) = λ z. ne (empty (minus u gone) (λ v i. not-in-zero (∈-eq z ((minus-⊆ u gone).each v i)))) in
    let l : u < 4096 = less (h.below some) in
    let e = sym (says_at s u l) ∙ h.member some in
    let w = sym (says_at q u l) ∙ and_l (in_family old u) (eqb (bit_and u p) 0) e in
    record {
      first = k;
      second = and_r (within gone u) (quorum (r.deleted gone) n (minus u gone)) w;
      apart = apart_of p (minus u gone) (λ v i j. apart-not-in (eqb-true (bit_and u p) 0 (and_r (in_family old u) (eqb (bit_and u p) 0) e)) ((minus-⊆ u gone).each v j) i);
    }
  where
    less : {u : ℕ} → u < 4095 → u < 4096
    less l = omega arith

-- of the sets that fit those without a site of b
pub quorums-said : (r : Slices) (b : ℕ) {old new : List ℕ} → Says (fits r b 12) old → Says (λ s. in_family old s && eqb (bit_and s b) 0) new → Says (λ s. fits r b 12 s && eqb (bit_and s b) 0) new
quorums-said r b p = says-change (λ s l. ap (λ c. c && eqb (bit_and s b) 0) (says_at p s l))

-- the quorums inside left, from the last on

module _ (t : List ℕ) (n left : ℕ) (rows : Rows t n) (few : n ≤ 12) (kl : quorum (rules_of t).inside n left ≡ true) (quorums : List ℕ)
    (says : Says (λ s. fits (rules_of t) (minus (all_below n) left) 12 s && eqb (bit_and s (minus (all_below n) left)) 0) quorums) where
  abbrev f : ℕ
  f = minus (all_below n) left

  sites : {u : ℕ} → u < 2 ^ n → u < 4096
  sites l = lt_of_lt_of_le l (pow_mono few)

  -- what is said to be one is one
  pub said-one : (u : ℕ) → u < 4096 → in_family quorums u ≡ true → (u ≡ 0 → ⊥) → (quorum (rules_of t).inside n u ≡ true) × (u ⊆ left)
  unfolding fits
  said-one u l e ne =
      let k = sym (says_at says u l) ∙ e in
      let fit = and_l (fits (rules_of t) f 12 u) (eqb (bit_and u f) 0) k in
      let out = eqb-true (bit_and u f) 0 (and_r (fits (rules_of t) f 12 u) (eqb (bit_and u f) 0) k) in
      let slice : ((v : ℕ) → v ∈ u → (rules_of t).inside v u ≡ true) =
      λ v i.
      ⊎_elim (λ m. absurd (apart-not-in out i (mem m)))
      (λ m. ⊎_elim (λ o. absurd (clash i.holds (not_t (has u v) o))) (λ o. o) (or-e (not (has u v)) ((rules_of t).inside v u) m))
      (or-e (has f v) (not (has u v) || (rules_of t).inside v u) (every-at 12 (λ v. has f v || (not (has u v) || (rules_of t).inside v u)) fit v (∈-below l i))) in
      let site : ((v : ℕ) → v ∈ u → v ∈ all_below n) = λ v i. in_all (inside-site rows v u (slice v i)) in (
        quorum-of (rules_of t).inside n ne (record { each = site }) slice,
        record { each = λ v i. ⊎_elim (λ m. m) (λ m. absurd (apart-not-in out i (∈-minus (site v i) m))) (in? v left) },
      )

  -- what a dispensable set leaves is said to be one
  one-said : (u : ℕ) → quorum (rules_of t).inside n u ≡ true → bit_and u f ≡ 0 → in_family quorums u ≡ true
  unfolding fits
  one-said u k z =
      says_at says u (sites (quorum-lt (rules_of t).inside n k))
      ∙ and_i (every_of 12 (λ v. has f v || (not (has u v) || (rules_of t).inside v u)) (λ v l. or-i (has f v) (not (has u v) || (rules_of t).inside v u) (slice v (in? v u)))) (eq-eqb (bit_and u f) 0 z)
    where
      slice : (v : ℕ) → (v ∈ u) ⊎ (v ∈ u → ⊥) → not (has u v) || (rules_of t).inside v u ≡ true
      slice v (inl i) = or-i (not (has u v)) ((rules_of t).inside v u) (quorum-slice (rules_of t).inside n k i)
      slice v (inr o) = ap (λ (c : Bool). not c || (rules_of t).inside v u) (is_false (has u v) (λ e. o (mem e)))

  left-said : (c : ℕ) → c < 2 ^ n → f ⊆ c → dispensable (rules_of t) n c ≡ true → (minus (all_below n) c ≡ 0 → ⊥) → in_family quorums (minus (all_below n) c) ≡ true
  left-said c l s d ne =
      ⊎_elim
      (λ e.
      ⊎_elim (λ k. one-said (minus (all_below n) c) k (apart_of (minus (all_below n) c) f (λ v i o. minus-not-in (all_below n) i (s.each v o))))
      (λ k. absurd (ne (empty (minus (all_below n) c) (λ v i. minus-not-in (all_below n) i (∈-eq (sym (eqb-true c (all_below n) k)) ((minus-⊆ (all_below n) c).each v i))))))
      (or-e (quorum (rules_of t).inside n (minus (all_below n) c)) (eqb c (all_below n)) e))
      (λ e. absurd (clash d (dispensable-not (rules_of t) n c e))) (cases (leaves_quorum (rules_of t) n c))

  module _ (rest set x : ℕ) (k : quorum (rules_of t).inside n rest ≡ true) (sub : rest ⊆ left)
      (out : bit_or set x ≡ bit_or set (cond (dispensable (rules_of t) n (minus (all_below n) rest)) rest 0))
      (g : Gathered (rules_of t) n f (minus (all_below n) rest) set) where
    abbrev b : ℕ
    b = minus (all_below n) rest

    pub gathered-one : Gathered (rules_of t) n f (bit_or (b + 1) f) (bit_or set x)
    gathered-one =
        subst (λ (y : ℕ). Gathered (rules_of t) n f (bit_or (b + 1) f) y)
        (ap (λ (y : ℕ). bit_or set (cond (dispensable (rules_of t) n b) y 0)) (outside-again n rest (quorum-below (rules_of t).inside n k)) ∙ sym out)
        (gathered-more (rules_of t) n (minus-lt n (all_below n) rest (ones_lt n)) (outside-larger n sub) g)

    -- and what is between it and the next
    pub gathered_next : {next : ℕ} → next ⊆ all_below n → LastBelow quorums rest next → Gathered (rules_of t) n f (minus (all_below n) next) (bit_or set x)
    gathered_next {next} nb h =
        record {
          sound = gathered-one.sound;
          complete = λ c l lc s d.
              ⊎_elim (λ e. gathered-one.complete c (lt_of_lt_of_le (ltb-true c (b + 1) e) (⊆-le (or-⊆-l (b + 1) f))) lc s d)
              (λ e. absurd (between c l lc s d (ltb-false c (b + 1) e))) (cases (ltb c (b + 1)));
        }
      where
        between : (c : ℕ) → c < minus (all_below n) next → c < 2 ^ n → f ⊆ c → dispensable (rules_of t) n c ≡ true → b + 1 ≤ c → ⊥
        between c l lc s d m =
            let u = minus (all_below n) c in
            let sc = outside-sum n c (⊆-all n lc) in
            let sn = outside-sum n next nb in
            let sr = outside-sum n rest (quorum-below (rules_of t).inside n k) in
            let above : next < u = more u c (minus (all_below n) next) sc sn l in
            clash (left-said c lc s d (some above)) (h.none u above (less u c sc sr m))
          where
            more : (u c w : ℕ) → u + c ≡ all_below n → w + next ≡ all_below n → c < w → next < u
            more u c w p q r = omega arith

            less : (u c : ℕ) → u + c ≡ all_below n → b + rest ≡ all_below n → b + 1 ≤ c → u < rest
            less u c p q r = omega arith

            some : {a u : ℕ} → a < u → u ≡ 0 → ⊥
            some p q = omega arith

    -- all that can be are found
    pub gathered-whole : bit_or set x ≡ left → bit_or set x ≡ intact (rules_of t) n f
    gathered-whole e = gathered-all (rules_of t) n (e ∙ sym (outside-again n left (quorum-below (rules_of t).inside n kl))) gathered-one

  -- no quorum is left
  pub gathered-last : {set : ℕ} → Gathered (rules_of t) n f (minus (all_below n) 0) set → set ≡ intact (rules_of t) n f
  gathered-last {set} g =
      gathered-end (rules_of t) n {b = 2 ^ n} (le_refl (2 ^ n))
      (record {
        sound = g.sound;
        complete = λ c l lc s d.
            ⊎_elim (λ e. g.complete c (ltb-true c (minus (all_below n) 0) e) lc s d) (λ e. nothing c (all-sites c lc (ltb-false c (minus (all_below n) 0) e)))
            (cases (ltb c (minus (all_below n) 0)));
      })
    where
      all-sites : (c : ℕ) → c < 2 ^ n → minus (all_below n) 0 ≤ c → c ≡ all_below n
      all-sites c l h = omega (arith, outside-sum n 0 (⊆-zero (all_below n)), suc_ones n, l, h)

      nothing : (c : ℕ) → c ≡ all_below n → minus (all_below n) c ⊆ set
      nothing c e = record { each = λ v i. absurd (minus-not-in (all_below n) i (∈-eq (sym e) ((minus-⊆ (all_below n) c).each v i))) }
