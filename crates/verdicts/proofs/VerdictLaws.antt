-- Laws of shared sites, dispensable sets and intact sites, as they are computed.
use Prim.Native.Nat.{ℕ, ◌+◌, ◌^◌, ◌≤◌, ◌<◌}
use mathlib.Core.Bool.{Bool, true, false, ◌&&◌, ◌||◌, not, cond, and-true, and-false}
use mathlib.Core.Logic.{◌⊎◌, inl, inr, ⊎_elim}
use mathlib.Core.Path.{◌≡◌, refl, sym, ap, ◌∙◌, subst}
use native.Mathlib.Nat.{eq-or-lt_of_le, lt_of_lt_of_le}
use native.Mathlib.Omega.{arith}
use lib.Bits.{bit_and, bit_or, or_zero_r, and_comm}
use lib.Dec.{eqb, ltb}
use lib.Pow.{ones_lt}
use borrow.Author.Tests.{eqb-true, eqb-false, ne_eqb, ltb-true, ltb-false}
use Rattle.ground.proofs.Least.{least-le, least-passes, least-before, least-fails, least-found}
use Rattle.ground.proofs.Logic.{and_l, and_r, and_i, cases, is_false, clash, not_t, or-e}
use Rattle.ground.proofs.Some.{some_of, some-ex}
use Rattle.masks.proofs.Laws.AllBelow.{in_all, ⊆-all}
use Rattle.masks.proofs.Laws.Apart.{apart-⊆, common-of, minus-apart, ⊆-minus, ⊆-minus-apart}
use Rattle.masks.proofs.Laws.Gather.{∈-gather, gather-∈, gather-lt}
use Rattle.masks.proofs.Laws.Single.{in?, ∈-eq}
use Rattle.masks.proofs.Laws.Step.{next-with, or-part}
use Rattle.masks.proofs.Laws.Subsets.{mem, not-in-zero, ⊆-zero, member_of, ⊆-refl, ⊆-trans, ⊆-antisym, ⊆-le, within-⊆, ⊆-within, ∈-below, or-⊆, or-⊆-l, or-⊆-r, minus-⊆, ∈-minus, minus-not-in, empty}
use Rattle.masks.specs.Mask.{has, within, minus, all_below, gather, ◌∈◌, ◌⊆◌}
use Rattle.sets.specs.Quorum.{quorum, largest}
use Rattle.verdicts.specs.Inner.{Gathered}
use Rattle.sets.specs.Slices.{Slices}
use Rattle.verdicts.specs.Verdicts.{beside, apart, first_apart, meets, dispensable, is_intact, intact}
use Rattle.sets.proofs.Quorum.{Rule, quorum-below, quorum-lt, quorum-some, quorum-slice}
use Rattle.sets.proofs.Quorum.{largest-⊆, largest-quorum, largest-greatest}

module _ (s : ℕ → ℕ → Bool) (n : ℕ) where
  -- a quorum is apart if what is beside it is not empty; what is no quorum is not apart

  pub apart-quorum : (p : ℕ) → quorum s n p ≡ true → apart s n p ≡ not (eqb (beside s n p) 0)
  unfolding apart
  apart-quorum p e = ap (λ (b : Bool). b && not (eqb (beside s n p) 0)) e

  pub apart-no-quorum : (p : ℕ) → quorum s n p ≡ false → apart s n p ≡ false
  unfolding apart
  apart-no-quorum p e = ap (λ (b : Bool). b && not (eqb (beside s n p) 0)) e

  -- what is apart: two quorums with no common site

  pub apart-first : (p : ℕ) → apart s n p ≡ true → quorum s n p ≡ true
  unfolding apart
  apart-first p e = and_l (quorum s n p) (not (eqb (beside s n p) 0)) e

  pub apart-second : (p : ℕ) → apart s n p ≡ true → quorum s n (beside s n p) ≡ true
  unfolding apart beside
  apart-second p e =
      largest-quorum s n (minus (all_below n) p)
      (eqb-false (beside s n p) 0 (not_t (eqb (beside s n p) 0) (and_r (quorum s n p) (not (eqb (beside s n p) 0)) e)))

  pub beside-apart : (p : ℕ) → bit_and p (beside s n p) ≡ 0
  unfolding beside
  beside-apart p = and_comm p (largest s n (minus (all_below n) p)) ∙ ⊆-minus-apart (all_below n) p (largest-⊆ s n (minus (all_below n) p))

  -- the search for the first: a place with nothing apart before it, and the end
  pub first-apart-found : (p : ℕ) → p < 2 ^ n → ((q : ℕ) → q < p → apart s n q ≡ false) → apart s n p ≡ true → first_apart s n ≡ p
  unfolding first_apart
  first-apart-found p l f e = least-found (2 ^ n) p (apart s n) l f e

  -- the smallest quorum, if there is one beside it
  pub first-apart-smallest-quorum : (p : ℕ) → quorum s n p ≡ true → ((q : ℕ) → q < p → quorum s n q ≡ false) → (beside s n p ≡ 0 → ⊥) → first_apart s n ≡ p
  first-apart-smallest-quorum p k f ne =
      first-apart-found p (quorum-lt s n k) (λ q l. apart-no-quorum q (f q l)) (apart-quorum p k ∙ ap not (ne_eqb (beside s n p) 0 ne))

  pub first-apart-none : ((q : ℕ) → q < 2 ^ n → apart s n q ≡ false) → first_apart s n ≡ 2 ^ n
  unfolding first_apart
  first-apart-none f = least-fails (2 ^ n) (apart s n) f

  -- the first is apart, or there is none; nothing before it is apart
  pub first-apart-is : meets s n ≡ false → apart s n (first_apart s n) ≡ true
  unfolding meets first_apart
  first-apart-is e =
      ⊎_elim (λ z. absurd (eqb-false (first_apart s n) (2 ^ n) e z)) (λ l. least-passes (2 ^ n) (apart s n) l) (eq-or-lt_of_le (least-le (2 ^ n) (apart s n)))

  pub first-apart-smallest : (p : ℕ) → apart s n p ≡ true → first_apart s n ≤ p
  unfolding first_apart
  first-apart-smallest p e =
      ⊎_elim (λ l. absurd (clash e (least-before (2 ^ n) (apart s n) p (ltb-true p (first_apart s n) l)))) (λ l. ltb-false p (first_apart s n) l)
      (cases (ltb p (first_apart s n)))

  -- a table meets if no two quorums are apart
  pub meets-of : ((p q : ℕ) → quorum s n p ≡ true → quorum s n q ≡ true → bit_and p q ≡ 0 → ⊥) → meets s n ≡ true
  meets-of f =
      ⊎_elim (λ e. e)
      (λ e. let p = first_apart s n in absurd (f p (beside s n p) (apart-first p (first-apart-is e)) (apart-second p (first-apart-is e)) (beside-apart p)))
      (cases (meets s n))

  -- with a rule that grows
  module _ (r : Rule s) where
    pub beside-contains : (p : ℕ) {q : ℕ} → quorum s n q ≡ true → bit_and p q ≡ 0 → q ⊆ beside s n p
    unfolding beside
    beside-contains p {q} k e =
        largest-greatest s n r (minus (all_below n) p) k (⊆-minus p (quorum-below s n k) (and_comm q p ∙ e))

    pub apart_of : (p q : ℕ) → quorum s n p ≡ true → quorum s n q ≡ true → bit_and p q ≡ 0 → apart s n p ≡ true
    apart_of p q kp kq e =
        apart-quorum p kp
        ∙ ap not (ne_eqb (beside s n p) 0
        (λ z. let m = member_of q (quorum-some s n kq) in not-in-zero (subst (λ (x : ℕ). m.0 ∈ x) z ((beside-contains p kq e).each m.0 m.1))))

    pub meets-common : meets s n ≡ true → (p q : ℕ) → quorum s n p ≡ true → quorum s n q ≡ true → bit_and p q ≡ 0 → ⊥
    unfolding meets
    meets-common e p q kp kq z =
        let l = first-apart-smallest p (apart_of p q kp kq z) in
        let h = quorum-lt s n kp in
        bad (eqb-true (first_apart s n) (2 ^ n) e) l h
      where
        bad : first_apart s n ≡ 2 ^ n → first_apart s n ≤ p → p < 2 ^ n → ⊥
        bad e l h = omega arith

-- with b deleted, a set that has a member of b is no quorum
module _ (s : ℕ → ℕ → Bool) (n b : ℕ) (gone : (v u : ℕ) → s v u ≡ true → v ∈ b → ⊥) where
  pub meeting-no-quorum : (p : ℕ) → (bit_and p b ≡ 0 → ⊥) → quorum s n p ≡ false
  meeting-no-quorum p ne =
      is_false (quorum s n p) (λ k. let m = common-of p b ne in gone m.0 p (quorum-slice s n k m.1) m.2)

module _ (r : Slices) (n : ℕ) where
  -- the two halves of dispensable, as they are asked

  abbrev pub leaves_quorum : ℕ → Bool
  leaves_quorum b = quorum r.inside n (minus (all_below n) b) || eqb b (all_below n)

  pub dispensable-left : (b : ℕ) → leaves_quorum b ≡ true → dispensable r n b ≡ eqb (first_apart (r.deleted b) n) (2 ^ n)
  unfolding dispensable meets
  dispensable-left b e = ap (λ (x : Bool). meets (r.deleted b) n && x) e ∙ and-true (meets (r.deleted b) n)

  pub dispensable-not : (b : ℕ) → leaves_quorum b ≡ false → dispensable r n b ≡ false
  unfolding dispensable
  dispensable-not b e = ap (λ (x : Bool). meets (r.deleted b) n && x) e ∙ and-false (meets (r.deleted b) n)

  -- the sites outside b if b is dispensable, else none
  abbrev pub spared_by : ℕ → ℕ
  spared_by b = cond (dispensable r n b) (minus (all_below n) b) 0

  pub spared-known : (b known : ℕ) → within (minus (all_below n) b) known ≡ true → bit_or known 0 ≡ bit_or known (spared_by b)
  spared-known b known e = or_zero_r known ∙ sym (pick (dispensable r n b))
    where
      pick : (c : Bool) → bit_or known (cond c (minus (all_below n) b) 0) ≡ known
      pick true = or-part (within-⊆ (minus (all_below n) b) known e)
      pick false = or_zero_r known

  -- a site is intact exactly if some dispensable set contains f and not the site

  pub intact-of : (f v b : ℕ) → b < 2 ^ n → dispensable r n b ≡ true → f ⊆ b → (v ∈ b → ⊥) → is_intact r n f v ≡ true
  unfolding is_intact
  intact-of f v b l d sub out =
      some_of (2 ^ n) (λ b. dispensable r n b && (within f b && not (has b v))) l
      (and_i d (and_i (⊆-within sub) (ap not (is_false (has b v) (λ e. out (mem e))))))

  pub intact-ex : (f v : ℕ) → is_intact r n f v ≡ true → (b : ℕ) × (b < 2 ^ n) × (dispensable r n b ≡ true) × (f ⊆ b) × (v ∈ b → ⊥)
  unfolding is_intact
  intact-ex f v e =
      let x = some-ex (2 ^ n) (λ b. dispensable r n b && (within f b && not (has b v))) e in
      let b = x.0 in
      let rest = and_r (dispensable r n b) (within f b && not (has b v)) x.2 in (
        b,
        x.1,
        and_l (dispensable r n b) (within f b && not (has b v)) x.2,
        within-⊆ f b (and_l (within f b) (not (has b v)) rest),
        λ h. clash h.holds (not_t (has b v) (and_r (within f b) (not (has b v)) rest)),
      )

  -- a faulty set with a member that is no site is in no set of sites
  pub intact-outside : (f : ℕ) → within f (all_below n) ≡ false → intact r n f ≡ 0
  unfolding intact
  intact-outside f e =
      empty (gather n (is_intact r n f))
      (λ v h. let x = intact-ex f v (gather-∈ n (is_intact r n f) h) in clash (⊆-within (⊆-trans x.3 (⊆-all n x.1))) e)

  -- the intact sites of f, gathered from the sets below b that contain f

  intact-correct : (f : ℕ) → intact r n f ⊆ minus (all_below n) f
  unfolding intact
  intact-correct f =
      record {
        each = λ v h.
            let x = intact-ex f v (gather-∈ n (is_intact r n f) h) in
            ∈-minus (in_all (∈-below (gather-lt n (is_intact r n f)) h)) (λ k. x.4 (x.3.each v k));
      }

  -- What a dispensable set leaves is a quorum, so that it is in the largest that f leaves: all other sites may be taken for faulty.
  module _ (grows : Rule r.inside) (f : ℕ) (sites : f ⊆ all_below n) where
    left : ℕ
    left = beside r.inside n f

    contains : (b : ℕ) → dispensable r n b ≡ true → f ⊆ b → minus (all_below n) left ⊆ b
    unfolding dispensable left
    contains b d sub =
        record { each = λ y h. ⊎_elim (λ k. k) (λ k. outside y h (∈-minus ((minus-⊆ (all_below n) left).each y h) k) leaves) (in? y b) }
      where
        leaves : (quorum r.inside n (minus (all_below n) b) ≡ true) ⊎ (eqb b (all_below n) ≡ true)
        leaves = or-e (quorum r.inside n (minus (all_below n) b)) (eqb b (all_below n)) (and_r (meets (r.deleted b) n) (leaves_quorum b) d)

        outside : (y : ℕ) → y ∈ minus (all_below n) left → y ∈ minus (all_below n) b
            → (quorum r.inside n (minus (all_below n) b) ≡ true) ⊎ (eqb b (all_below n) ≡ true) → y ∈ b
        outside y h o (inl k) =
            absurd (minus-not-in (all_below n) h
            ((beside-contains r.inside n grows f k (apart-⊆ sub (⊆-refl (minus (all_below n) b)) (and_comm b (minus (all_below n) b) ∙ minus-apart (all_below n) b))).each y o))
        outside y h o (inr e) = ∈-eq (sym (eqb-true b (all_below n) e)) ((minus-⊆ (all_below n) left).each y h)

    pub intact-left : intact r n (minus (all_below n) (beside r.inside n f)) ≡ intact r n f
    unfolding intact beside left
    intact-left =
        ⊆-antisym
        (record {
          each = λ v h.
              let x = intact-ex (minus (all_below n) left) v (gather-∈ n (is_intact r n (minus (all_below n) left)) h) in
              ∈-gather (is_intact r n f) (∈-below (gather-lt n (is_intact r n (minus (all_below n) left))) h) (intact-of f v x.0 x.1 x.2 (⊆-trans without-left x.3) x.4);
        })
        (record {
          each = λ v h.
              let x = intact-ex f v (gather-∈ n (is_intact r n f) h) in
              ∈-gather (is_intact r n (minus (all_below n) left)) (∈-below (gather-lt n (is_intact r n f)) h)
              (intact-of (minus (all_below n) left) v x.0 x.1 x.2 (contains x.0 x.2 x.3) x.4);
        })
      where
        without-left : f ⊆ minus (all_below n) left
        without-left = ⊆-minus left sites (beside-apart r.inside n f)

    -- nothing is left
    pub intact-nothing : beside r.inside n f ≡ 0 → intact r n f ≡ 0
    intact-nothing e =
        sym intact-left ∙ ap (λ (x : ℕ). intact r n (minus (all_below n) x)) e
        ∙ empty (intact r n (minus (all_below n) 0))
        (λ v h.
        let k = (intact-correct (minus (all_below n) 0)).each v h in
        minus-not-in (all_below n) k (∈-minus ((minus-⊆ (all_below n) (minus (all_below n) 0)).each v k) not-in-zero))

  spared-intact : (f b : ℕ) → b < 2 ^ n → f ⊆ b → spared_by b ⊆ intact r n f
  unfolding intact
  spared-intact f b l sub = pick (dispensable r n b) refl
    where
      pick : (c : Bool) → dispensable r n b ≡ c → cond c (minus (all_below n) b) 0 ⊆ gather n (is_intact r n f)
      pick true e =
          record {
            each = λ v h.
                ∈-gather (is_intact r n f) (∈-below (ones_lt n) ((minus-⊆ (all_below n) b).each v h)) (intact-of f v b l e sub (minus-not-in (all_below n) h));
          }
      pick false e = ⊆-zero (gather n (is_intact r n f))

  pub gathered_none : (f : ℕ) → Gathered r n f f 0
  gathered_none f =
      record { sound = ⊆-zero (intact r n f); complete = λ c l h sub d. absurd (bad c l (⊆-le sub)) }
    where
      bad : (c : ℕ) → c < f → f ≤ c → ⊥
      bad c a b = omega arith

  pub gathered-more : {f b set : ℕ} → b < 2 ^ n → f ⊆ b → Gathered r n f b set → Gathered r n f (bit_or (b + 1) f) (bit_or set (spared_by b))
  gathered-more {f} {b} {set} l sub g =
      record {
        sound = or-⊆ g.sound (spared-intact f b l sub);
        complete = λ c h k s d.
            ⊎_elim (λ e. ⊆-trans (g.complete c (ltb-true c b e) k s d) (or-⊆-l set (spared_by b)))
            (λ e.
            ⊎_elim (λ z. ⊆-trans (here c (eqb-true c b z) d) (or-⊆-r set (spared_by b))) (λ z. absurd (bad c (next-with b f c sub s (up c (ltb-false c b e) (eqb-false c b z))) h))
            (cases (eqb c b))) (cases (ltb c b));
      }
    where
      up : (c : ℕ) → b ≤ c → (c ≡ b → ⊥) → b < c
      up c a ne = omega arith

      bad : (c : ℕ) → bit_or (b + 1) f ≤ c → c < bit_or (b + 1) f → ⊥
      bad c a b = omega arith

      here : (c : ℕ) → c ≡ b → dispensable r n c ≡ true → minus (all_below n) c ⊆ spared_by b
      here c e d =
          subst (λ (x : ℕ). minus (all_below n) c ⊆ cond (dispensable r n x) (minus (all_below n) x) 0) e
          (subst (λ (t : Bool). minus (all_below n) c ⊆ cond t (minus (all_below n) c) 0) (sym d) (⊆-refl (minus (all_below n) c)))

  pub gathered-end : {f b set : ℕ} → 2 ^ n ≤ b → Gathered r n f b set → set ≡ intact r n f
  unfolding intact
  gathered-end {f} {b} {set} l g =
      ⊆-antisym g.sound
      (record {
        each = λ v h.
            let x = intact-ex f v (gather-∈ n (is_intact r n f) h) in
            (g.complete x.0 (lt_of_lt_of_le x.1 l) x.1 x.3 x.2).each v (∈-minus (in_all (∈-below (gather-lt n (is_intact r n f)) h)) x.4);
      })

  -- all that can be are found
  pub gathered-all : {f b set : ℕ} → set ≡ minus (all_below n) f → Gathered r n f b set → set ≡ intact r n f
  gathered-all {f} e g = ⊆-antisym g.sound (subst (λ (x : ℕ). intact r n f ⊆ x) (sym e) (intact-correct f))
