-- A site that has heard nothing of either side, and is in none of the six masks: no clause of 18 is against it; and a site by its sides.
use Prim.Native.Nat.{ℕ, ◌<◌}
use mathlib.Core.Bool.{Bool, true, false, not}
use mathlib.Core.List.{List}
use mathlib.Core.Logic.{⊎_elim}
use mathlib.Core.Path.{◌≡◌, refl, sym, ap, ◌∙◌, subst}
use native.Mathlib.Omega.{arith}
use lib.Bits.{bit_or}
use lib.Dec.{eqb}
use borrow.Author.Tests.{eqb-true, eq-eqb}
use Rattle.ground.proofs.Logic.{and_l, and_r, is_false, clash, not_t}
use Rattle.ground.proofs.Numbers.{same?}
use Rattle.ground.proofs.Some.{none_each}
use Rattle.ground.specs.Search.{some}
use Rattle.masks.proofs.Laws.Subsets.{⊆-trans, ⊆-antisym, ⊆-zero, mem, or-⊆-l, or-⊆-r}
use Rattle.masks.specs.Mask.{has, ◌⊆◌}
use Rattle.rules.proofs.Silent.{silent}
use Rattle.rules.proofs.Ways.{site-drill, site-live}
use Rattle.rules.specs.Sound.{not_zero, bad_side, bad_site}
use Rattle.rules.specs.State.{votes, accepts, voted, accepted, confirmed, get}
use Rattle.rules.specs.Theorems.{Rests}
use Rattle.sets.specs.Paper.{Fbqs}
use Rattle.sets.specs.Promises.{Questions}
use Rattle.bad_sites.specs.Inner.{named_in, heard_by, silent_site}

-- who is named, read at their places
pub named-read : (n : ℕ) (s : List ℕ) {h i j k l m : ℕ} → h ≡ voted n 0 → i ≡ voted n 1 → j ≡ accepted n 0 → k ≡ accepted n 1 → l ≡ confirmed n 0 →
    m ≡ confirmed n 1 → bit_or (bit_or (bit_or (get s h) (get s i)) (bit_or (get s j) (get s k))) (bit_or (get s l) (get s m)) ≡ named_in n s
unfolding named_in
named-read n s p q x y z w = rw (p, q, x, y, z, w) refl

-- each of several sets is inside all of them together
four : (a b c d : ℕ) → let all = bit_or (bit_or a b) (bit_or c d) in (a ⊆ all) × (b ⊆ all) × (c ⊆ all) × (d ⊆ all)
four a b c d =
    let l = or-⊆-l (bit_or a b) (bit_or c d) in
    let r = or-⊆-r (bit_or a b) (bit_or c d) in
    (⊆-trans (or-⊆-l a b) l, ⊆-trans (or-⊆-r a b) l, ⊆-trans (or-⊆-l c d) r, ⊆-trans (or-⊆-r c d) r)

-- a set inside an empty one; a member that is not named
inside-none : {a b : ℕ} → a ⊆ b → b ≡ 0 → a ≡ 0
inside-none {a} i e = ⊆-antisym (subst (λ (x : ℕ). a ⊆ x) e i) (⊆-zero a)

unnamed : {a b : ℕ} (v : ℕ) → a ⊆ b → has b v ≡ false → has a v ≡ false
unnamed {a} {b} v i f = is_false (has a v) (λ e. clash (i.each v (mem e)).holds f)

nothing : (v a b c d e : ℕ) → a ≡ 0 → b ≡ 0 → has c v ≡ false → has d v ≡ false → has e v ≡ false → not_zero v a b c d e ≡ false
unfolding not_zero
nothing v a b c d e p q x y z = rw (eq-eqb a 0 p, eq-eqb b 0 q, x, y, z) refl

module _ {S : ℕ → Fbqs} {Q : Questions} {n : ℕ} (R : Rests S Q n) (F : ℕ) (s : List ℕ) (v : ℕ) (l : v < n) where
  module _ {named : ℕ} (en : named ≡ named_in n s) (t : silent_site named s v ≡ true) where
    none : heard_by s v ≡ 0
    unfolding silent_site
    none = eqb-true (heard_by s v) 0 (and_l (eqb (heard_by s v) 0) (not (has named v)) t)

    out : has (named_in n s) v ≡ false
    unfolding silent_site
    out = ap (λ (x : ℕ). has x v) (sym en) ∙ not_t (has named v) (and_r (eqb (heard_by s v) 0) (not (has named v)) t)

    heard-parts : let all = heard_by s v in (get s (votes 0 v) ⊆ all) × (get s (votes 1 v) ⊆ all) × (get s (accepts 0 v) ⊆ all) × (get s (accepts 1 v) ⊆ all)
    unfolding heard_by
    heard-parts = four (get s (votes 0 v)) (get s (votes 1 v)) (get s (accepts 0 v)) (get s (accepts 1 v))

    first-masks : let all = named_in n s in
        (get s (voted n 0) ⊆ all) × (get s (voted n 1) ⊆ all) × (get s (accepted n 0) ⊆ all) × (get s (accepted n 1) ⊆ all)
    unfolding named_in
    first-masks =
        let p = four (get s (voted n 0)) (get s (voted n 1)) (get s (accepted n 0)) (get s (accepted n 1)) in
        let l = or-⊆-l (bit_or (bit_or (get s (voted n 0)) (get s (voted n 1))) (bit_or (get s (accepted n 0)) (get s (accepted n 1))))
        (bit_or (get s (confirmed n 0)) (get s (confirmed n 1))) in
        (⊆-trans p.0 l, ⊆-trans p.1 l, ⊆-trans p.2 l, ⊆-trans p.3 l)

    last-masks : let all = named_in n s in (get s (confirmed n 0) ⊆ all) × (get s (confirmed n 1) ⊆ all)
    unfolding named_in
    last-masks =
        let r = or-⊆-r (bit_or (bit_or (get s (voted n 0)) (get s (voted n 1))) (bit_or (get s (accepted n 0)) (get s (accepted n 1))))
        (bit_or (get s (confirmed n 0)) (get s (confirmed n 1))) in
        (⊆-trans (or-⊆-l (get s (confirmed n 0)) (get s (confirmed n 1))) r, ⊆-trans (or-⊆-r (get s (confirmed n 0)) (get s (confirmed n 1))) r)

    drill : bad_side Q n F s v 0 ≡ false
    drill =
        silent R F s v 0 l
        (nothing v (get s (votes 0 v)) (get s (accepts 0 v)) (get s (voted n 0)) (get s (accepted n 0)) (get s (confirmed n 0))
        (inside-none heard-parts.0 none) (inside-none heard-parts.2 none)
        (unnamed v first-masks.0 out) (unnamed v first-masks.2 out) (unnamed v last-masks.0 out))

    live : bad_side Q n F s v 1 ≡ false
    live =
        silent R F s v 1 l
        (nothing v (get s (votes 1 v)) (get s (accepts 1 v)) (get s (voted n 1)) (get s (accepted n 1)) (get s (confirmed n 1))
        (inside-none heard-parts.1 none) (inside-none heard-parts.3 none)
        (unnamed v first-masks.1 out) (unnamed v first-masks.3 out) (unnamed v last-masks.1 out))

    pub silent-site : false ≡ bad_site Q n F s v
    unfolding bad_site
    silent-site = sym (rw (drill, live) refl)

-- the sides one after the other: none before is bad
module _ (Q : Questions) (n F : ℕ) (s : List ℕ) (v : ℕ) where
  abbrev bad : ℕ → Bool
  bad = bad_side Q n F s v

  pub sides-good : some 2 bad ≡ false → false ≡ bad_site Q n F s v
  sides-good e = site-live Q n F s v (sym (none_each 2 bad 0 e (omega arith))) refl (sym (none_each 2 bad 1 e (omega arith)))

  -- d is what the test of a side said
  pub sides-bad : {side : ℕ} {d : Bool} → d ≡ bad_side Q n F s v side → some side bad ≡ false → side < 2 → d ≡ true → true ≡ bad_site Q n F s v
  sides-bad {side} {d} ed e h t =
      ⊎_elim (λ z. site-drill Q n F s v (ed ∙ ap bad z) t)
      (λ z.
      let one : side ≡ 1 = omega (arith, h, z) in
      site-live Q n F s v (sym (none_each side bad 0 e (omega (arith, z)))) refl (sym t ∙ ed ∙ ap bad one)) (same? side 0)
