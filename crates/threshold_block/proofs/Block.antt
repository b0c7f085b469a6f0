-- Laws of one block's check: its filler, byte by byte, and a way out each.
use Rattle.refusals.specs.Check.{Check}
use Rattle.std.specs.Prelude.{Ok, Err}
use Prim.Native.Nat.{ℕ, ◌+◌, ◌-◌, ◌*◌, ◌≤◌, ◌<◌}
use mathlib.Core.Bool.{Bool, true, false, not, or-true}
use mathlib.Core.List.{List}
use mathlib.Core.Path.{◌≡◌, refl, sym, ap, ap₂, subst, ◌∙◌}
use native.Mathlib.Omega.{arith}
use lib.Bits.{bit_or}
use lib.Dec.{eqb}
use lib.ListN.{length, get_or}
use borrow.Author.Tests.{eq-eqb, ne_eqb, lt-ltb, le-ltb}
use Rattle.block.specs.Block.{sealed}
use Rattle.ground.specs.Search.{some}
use Rattle.refusals.proofs.First.{first-stop}
use Rattle.refusals.specs.First.{or_else, refuse, first}
use Rattle.refusals.specs.declared.Refusal.{Refusal}
use Rattle.refusals.specs.declared.Refusal.TheVariants.{Sums, Header, Count, Filler, Nesting}
use Rattle.rows.proofs.Site.{unfilled-more}
use Rattle.site_block.specs.Block.{site_field, sites_field, count_field, zero_field, misheaded}
use Rattle.threshold_block.specs.Block.{sets_in, sets_unfilled, threshold_block_check}
use Rattle.threshold_sets.specs.Check.{owed, one_set_check, owing, sets_check}

-- one byte of filler more
pub filler-more : (b : List ℕ) (from at any : ℕ) → from ≤ at → not (eqb any 0) ≡ some (at - from) (λ j. not (eqb (get_or b (from + j) 0) 0))
    → not (eqb (bit_or any (get_or b at 0)) 0) ≡ some (at + 1 - from) (λ j. not (eqb (get_or b (from + j) 0) 0))
filler-more b from at any h e =
    let here : at ≡ from + (at - from) = omega arith in
    let next : at - from + 1 ≡ at + 1 - from = omega arith in
    ap (λ (k : ℕ). not (eqb (bit_or any (get_or b k 0)) 0)) here
    ∙ unfilled-more (λ k. get_or b k 0) from (at - from) any e
    ∙ ap (λ (k : ℕ). some k (λ j. not (eqb (get_or b (from + j) 0) 0))) next

-- all of it
pub filler-all : (b : List ℕ) (many at : ℕ) → many ≡ count_field b → at ≡ 504
    → some (at - (8 + 10 * many)) (λ j. not (eqb (get_or b (8 + 10 * many + j) 0) 0)) ≡ sets_unfilled b
unfolding sets_unfilled
filler-all b many at e q = ap₂ (λ (m k : ℕ). some (k - (8 + 10 * m)) (λ j. not (eqb (get_or b (8 + 10 * m + j) 0) 0))) e q

-- a refusal of one of the sets or of what is owed
between : (a b c : Check) → or_else (or_else a b) c ≡ or_else a (or_else b c)
between (Ok _) b c = refl
between (Err r) b c = refl

-- the ways out of the walk over the sets
module _ (n place : ℕ) (b : List ℕ) (many : ℕ) where
  abbrev Walk : Check
  Walk = or_else (first (one_set_check n place (sets_in b)) many) (refuse (owing (sets_in b)) (Nesting place))

  pub sets-stop : (i : ℕ) (r : Refusal) → i < many → first (one_set_check n place (sets_in b)) i ≡ Ok tt → one_set_check n place (sets_in b) i ≡ Err r → Walk ≡ Err r
  sets-stop i r l p q =
      ap (λ (c : Check). or_else c (refuse (owing (sets_in b)) (Nesting place))) (first-stop (one_set_check n place (sets_in b)) many i r l p q)

  -- all sets are sound, and d levels are open behind the last
  module _ {d i : ℕ} (m : many ≡ count_field b) (e : i ≡ many) (k : d ≡ length (owed (sets_in b) i)) (p : first (one_set_check n place (sets_in b)) i ≡ Ok tt) where
    behind-last : length (owed (sets_in b) (count_field b)) ≡ d
    behind-last = ap (λ (j : ℕ). length (owed (sets_in b) j)) (sym (e ∙ m)) ∙ sym k

    all_sound : Walk ≡ refuse (owing (sets_in b)) (Nesting place)
    all_sound =
        ap (λ (c : Check). or_else c (refuse (owing (sets_in b)) (Nesting place))) (subst (λ (j : ℕ). first (one_set_check n place (sets_in b)) j ≡ Ok tt) e p)

    pub sets-owing : (d ≡ 0 → ⊥) → Walk ≡ Err (Nesting place)
    unfolding owing
    sets-owing f = all_sound ∙ rw (ne_eqb (length (owed (sets_in b) (count_field b))) 0 (λ g. f (sym behind-last ∙ g))) refl

    pub sets-whole : d ≡ 0 → Walk ≡ Ok tt
    unfolding owing
    sets-whole g = all_sound ∙ rw (eq-eqb (length (owed (sets_in b) (count_field b))) 0 (behind-last ∙ g)) refl

-- the ways out
module _ (n site place : ℕ) (b : List ℕ) where
  pub wrong-sums : sealed b ≡ false → threshold_block_check n site place b ≡ Err (Sums place)
  unfolding threshold_block_check
  wrong-sums e = rw e refl

  module _ (s : sealed b ≡ true) where
    pub wrong-site : (site_field b ≡ site → ⊥) → threshold_block_check n site place b ≡ Err (Header place)
    unfolding threshold_block_check misheaded
    wrong-site ne = rw (s, ne_eqb (site_field b) site ne) refl

    pub wrong-n : (sites_field b ≡ n → ⊥) → threshold_block_check n site place b ≡ Err (Header place)
    unfolding threshold_block_check misheaded
    wrong-n ne = rw (s, ne_eqb (sites_field b) n ne, or-true) refl

    pub wrong-zero : (zero_field b ≡ 0 → ⊥) → threshold_block_check n site place b ≡ Err (Header place)
    unfolding threshold_block_check misheaded
    wrong-zero ne = rw (s, ne_eqb (zero_field b) 0 ne, or-true, or-true) refl

    pub right-head : site_field b ≡ site → sites_field b ≡ n → zero_field b ≡ 0
        → threshold_block_check n site place b ≡ sets_check n place (sets_in b) (sets_unfilled b)
    unfolding threshold_block_check misheaded
    right-head p q z = rw (s, eq-eqb (site_field b) site p, eq-eqb (sites_field b) n q, eq-eqb (zero_field b) 0 z) refl

-- and those of the sets that it holds
module _ (n place : ℕ) (b : List ℕ) where
  pub no-set : count_field b ≡ 0 → sets_check n place (sets_in b) (sets_unfilled b) ≡ Err (Count place)
  unfolding sets_check
  no-set e = rw (eq-eqb (count_field b) 0 e) refl

  pub too-many-sets : 49 < count_field b → sets_check n place (sets_in b) (sets_unfilled b) ≡ Err (Count place)
  unfolding sets_check
  too-many-sets l = rw (lt-ltb 49 (count_field b) l, or-true) refl

  module _ (some-set : count_field b ≡ 0 → ⊥) (few-sets : count_field b ≤ 49) where
    counted : sets_check n place (sets_in b) (sets_unfilled b)
        ≡ or_else (or_else (first (one_set_check n place (sets_in b)) (count_field b)) (refuse (owing (sets_in b)) (Nesting place))) (refuse (sets_unfilled b) (Filler place))
    unfolding sets_check
    counted =
        rw (ne_eqb (count_field b) 0 some-set, le-ltb 49 (count_field b) few-sets)
        (sym (between (first (one_set_check n place (sets_in b)) (count_field b)) (refuse (owing (sets_in b)) (Nesting place)) (refuse (sets_unfilled b) (Filler place))))

    module _ {many : ℕ} {q : Check} (e : many ≡ count_field b)
        (f : q ≡ or_else (first (one_set_check n place (sets_in b)) many) (refuse (owing (sets_in b)) (Nesting place))) where
      walked : sets_check n place (sets_in b) (sets_unfilled b) ≡ or_else q (refuse (sets_unfilled b) (Filler place))
      walked =
          counted
          ∙ ap (λ (c : Check). or_else c (refuse (sets_unfilled b) (Filler place)))
          (sym (f ∙ ap (λ (k : ℕ). or_else (first (one_set_check n place (sets_in b)) k) (refuse (owing (sets_in b)) (Nesting place))) e))

      pub set-refused : (r : Refusal) → q ≡ Err r → sets_check n place (sets_in b) (sets_unfilled b) ≡ Err r
      set-refused r g = walked ∙ ap (λ (c : Check). or_else c (refuse (sets_unfilled b) (Filler place))) g

      pub unclean : q ≡ Ok tt → sets_unfilled b ≡ true → sets_check n place (sets_in b) (sets_unfilled b) ≡ Err (Filler place)
      unclean g u = walked ∙ ap₂ (λ (c : Check) (x : Bool). or_else c (refuse x (Filler place))) g u

      pub clean : q ≡ Ok tt → sets_unfilled b ≡ false → sets_check n place (sets_in b) (sets_unfilled b) ≡ Ok tt
      clean g u = walked ∙ ap₂ (λ (c : Check) (x : Bool). or_else c (refuse x (Filler place))) g u
