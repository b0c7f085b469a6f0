-- Laws of families of sets as words: the sets without a site, those that contain a set, and words that are written one after the other.
use Prim.Native.Nat.{ℕ, ◌+◌, ◌-◌, ◌*◌, ◌/◌, ◌%◌, ◌^◌, ◌≤◌, ◌<◌}
use mathlib.Core.Bool.{Bool, true, false, ◌&&◌, not}
use mathlib.Core.List.{List}
use mathlib.Core.Logic.{⊎_elim}
use mathlib.Core.Path.{◌≡◌, refl, sym, ap, ap₂, ◌∙◌, subst}
use native.Mathlib.Nat.{not-suc-le-zero}
use native.Mathlib.Omega.{arith}
use lib.Bits.{or_disjoint}
use lib.ListN.{length, get_or, set, length-set}
use lib.Pow.{pow_mono}
use lib.Seq.{get_or-set_same, get_or-set_other}
use Rattle.ground.proofs.Every.{every-at}
use Rattle.ground.proofs.Logic.{iff}
use Rattle.ground.proofs.Numbers.{same?}
use Rattle.ground.specs.Search.{every}
use Rattle.masks.proofs.Laws.AllBelow.{in_all}
use Rattle.masks.proofs.Laws.Apart.{apart_of}
use Rattle.masks.proofs.Laws.Members.{has-minus, has-zero}
use Rattle.masks.proofs.Laws.Single.{∈-single, single-∈, single-⊆}
use Rattle.masks.proofs.Laws.Subsets.{mem, ⊆-zero, within-⊆, ⊆-within, ∈-below, or-within}
use Rattle.masks.specs.Mask.{has, single, minus, within}
use Rattle.set_words.specs.Inner.{Says, in_family, Written, Without, Lacking, Above}
use Rattle.set_words.proofs.Places.{low-has, high-has}

-- the sets without a site, as words

same : Bool → Bool → Bool
same true b = b
same false b = not b

same-is : (a b : Bool) → same a b ≡ true → a ≡ b
unfolding same
same-is true b e = sym e
same-is false true e = e
same-is false false e = refl

abbrev lacks : ℕ → ℕ → Bool
lacks x word = every 64 (λ u. same (has word u) (not (has u x)))

lacks-is : (x word : ℕ) → lacks x word ≡ true → Without x word
lacks-is x word e = record { each = λ u l. same-is (has word u) (not (has u x)) (every-at 64 (λ u. same (has word u) (not (has u x))) e u l) }

pub without-0 : Without 0 6148914691236517205
unfolding every has same
without-0 = lacks-is 0 6148914691236517205 refl

pub without-1 : Without 1 3689348814741910323
unfolding every has same
without-1 = lacks-is 1 3689348814741910323 refl

pub without-2 : Without 2 1085102592571150095
unfolding every has same
without-2 = lacks-is 2 1085102592571150095 refl

pub without-3 : Without 3 71777214294589695
unfolding every has same
without-3 = lacks-is 3 71777214294589695 refl

pub without-4 : Without 4 281470681808895
unfolding every has same
without-4 = lacks-is 4 281470681808895 refl

pub without-5 : Without 5 4294967295
unfolding every has same
without-5 = lacks-is 5 4294967295 refl

-- the sets of a word without a site: of the first six, or of the others

pub lacking-low : {v word : ℕ} (w : ℕ) → v < 6 → Without v word → Lacking v w word
lacking-low {v} w l p = record { each = λ j lj. p.each j lj ∙ ap not (sym (low-has 6 w lj v l)) }

module _ (v w : ℕ) (l : 6 ≤ v) where
  site : {j : ℕ} → j < 64 → has w (v - 6) ≡ has (w * 64 + j) v
  site {j} lj = sym (high-has 6 w lj (v - 6)) ∙ ap (has (w * 64 + j)) (back l)
    where
      back : 6 ≤ v → 6 + (v - 6) ≡ v
      back l = omega arith

  pub lacking-in : has w (v - 6) ≡ true → Lacking v w 0
  lacking-in e = record { each = λ j lj. has-zero j ∙ ap not (sym e ∙ site lj) }

  pub lacking-out : has w (v - 6) ≡ false → Lacking v w 18446744073709551615
  lacking-out e = record { each = λ j lj. (in_all lj).holds ∙ ap not (sym e ∙ site lj) }

-- the sets that contain a set of the first six sites: of the empty set, and with one site more

pub above-one : (list : List ℕ) → length list ≡ 64 → Above 1 (set list 0 18446744073709551615)
above-one list e =
    record {
      long = length-set list 0 18446744073709551615 ∙ e;
      each = λ i j li lj.
          subst (λ (y : ℕ). has (get_or (set list 0 18446744073709551615) y 0) j ≡ within y j) (none i li)
          (ap (λ (x : ℕ). has x j) (get_or-set_same list 0 18446744073709551615 0 (omega (arith, e))) ∙ (in_all lj).holds ∙ sym (⊆-within (⊆-zero j)));
    }
  where
    none : (i : ℕ) → i < 1 → 0 ≡ i
    none i l = omega arith

module _ (x : ℕ) (few : x < 6) {rest : ℕ} (w : Without x rest) where
  within-with : (i j : ℕ) → i < 2 ^ x → within (2 ^ x + i) j ≡ within i j && has j x
  within-with i j l =
      ap (λ (y : ℕ). within y j) (turn (2 ^ x) i ∙ sym (or_disjoint i (single x) (apart_of i (single x) (λ v h k. bad (∈-below l h) (single-∈ x k)))))
      ∙ or-within i (single x) j
      ∙ ap (λ (c : Bool). within i j && c)
      (iff (within (single x) j) (has j x) (λ e. ((within-⊆ (single x) j e).each x (∈-single x)).holds) (λ e. ⊆-within (single-⊆ (mem e))))
    where
      turn : (a b : ℕ) → a + b ≡ b + a
      turn a b = omega arith

      bad : {v : ℕ} → v < x → v ≡ x → ⊥
      bad l e = omega arith

  pub above_more : (i : ℕ) {list : List ℕ} → i < 2 ^ x → Above (2 ^ x + i) list → Above (2 ^ x + (i + 1)) (set list (2 ^ x + i) (minus (get_or list i 0) rest))
  above_more i {list} l a =
      record {
        long = length-set list (2 ^ x + i) new ∙ a.long;
        each = λ y j ly lj.
            ⊎_elim
            (λ e. subst (λ (z : ℕ). has (get_or (set list (2 ^ x + i) new) z 0) j ≡ within z j) (sym e) (here j lj))
            (λ ne. ap (λ (z : ℕ). has z j) (get_or-set_other list (2 ^ x + i) y new 0 ne) ∙ a.each y j (less y ly ne) lj)
            (same? y (2 ^ x + i));
      }
    where
      new : ℕ
      new = minus (get_or list i 0) rest

      double-not : (b : Bool) → not (not b) ≡ b
      double-not true = refl
      double-not false = refl

      small : 2 ^ x + i < length list
      small = omega (arith, a.long, l, pow_mono (le-five few))
        where
          le-five : x < 6 → x ≤ 5
          le-five h = omega arith

      here : (j : ℕ) → j < 64 → has (get_or (set list (2 ^ x + i) new) (2 ^ x + i) 0) j ≡ within (2 ^ x + i) j
      here j lj =
          ap (λ (z : ℕ). has z j) (get_or-set_same list (2 ^ x + i) new 0 small)
          ∙ has-minus (get_or list i 0) rest j
          ∙ ap₂ (λ b c. b && c) (a.each i j (omega (arith, l)) lj) (ap not (w.each j lj) ∙ double-not (has j x))
          ∙ sym (within-with i j l)

      less : (y : ℕ) → y < 2 ^ x + (i + 1) → (y ≡ 2 ^ x + i → ⊥) → y < 2 ^ x + i
      less y h ne = omega arith

-- words that are written one after the other

module _ (p : ℕ → Bool) where
  pub written_none : (old : List ℕ) → length old ≡ 64 → Written p old 0 old
  written_none old e = record { long = e; below = λ w j l. absurd (not-suc-le-zero l); above = λ w l. refl }

  pub written-more : {old words : List ℕ} (k new : ℕ) → k < 64 → ((j : ℕ) → j < 64 → has new j ≡ p (k * 64 + j)) → Written p old k words → Written p old (k + 1) (set words k new)
  written-more {old} {words} k new l f h =
      record {
        long = length-set words k new ∙ h.long;
        below = λ w j lw lj.
            ⊎_elim
            (λ e. subst (λ (y : ℕ). has (get_or (set words k new) y 0) j ≡ p (y * 64 + j)) (sym e) (ap (λ (z : ℕ). has z j) (get_or-set_same words k new 0 (omega (arith, h.long))) ∙ f j lj))
            (λ ne. ap (λ (z : ℕ). has z j) (get_or-set_other words k w new 0 ne) ∙ h.below w j (less w lw ne) lj) (same? w k);
        above = λ w lw. get_or-set_other words k w new 0 (λ e. bad w lw e) ∙ h.above w (omega (arith, lw));
      }
    where
      less : (w : ℕ) → w < k + 1 → (w ≡ k → ⊥) → w < k
      less w h ne = omega arith

      bad : (w : ℕ) → k + 1 ≤ w → w ≡ k → ⊥
      bad w h e = omega arith

  pub written_all : {old words : List ℕ} → Written p old 64 words → Says p words
  written_all h = record { long = h.long; each = λ w j lw lj. h.below w j lw lj }

-- words say of the set w * 64 + j what stands at bit j of word w

pub said_at : (words : List ℕ) (w j : ℕ) → j < 64 → in_family words (w * 64 + j) ≡ has (get_or words w 0) j
unfolding in_family
said_at words w j l = ap₂ (λ a b. has (get_or words a 0) b) (word l) (bit l)
  where
    word : j < 64 → (w * 64 + j) / 64 ≡ w
    word l = omega arith

    bit : j < 64 → (w * 64 + j) % 64 ≡ j
    bit l = omega arith

-- what is said of every set
pub says_at : {p : ℕ → Bool} {words : List ℕ} → Says p words → (s : ℕ) → s < 4096 → in_family words s ≡ p s
unfolding in_family
says_at {p} h s l = h.each (s / 64) (s % 64) (omega arith) (omega arith) ∙ ap p (back s)
  where
    back : (s : ℕ) → s / 64 * 64 + s % 64 ≡ s
    back s = omega arith

pub says-change : {p q : ℕ → Bool} {words : List ℕ} → ((s : ℕ) → s < 4096 → p s ≡ q s) → Says p words → Says q words
says-change {p} {q} f h = record { long = h.long; each = λ w j lw lj. h.each w j lw lj ∙ f (w * 64 + j) (omega arith) }
