-- Laws of one block's check: a way out each, and what a sound block is.
use Prim.Native.Nat.{ℕ, zero, suc, ◌+◌, ◌-◌, ◌≤◌, ◌<◌}
use mathlib.Core.Bool.{Bool, true, false, ◌||◌, not, cond, or-true}
use mathlib.Core.List.{List}
use mathlib.Core.Path.{◌≡◌, refl, ap, ap₂, ◌∙◌}
use native.Mathlib.Omega.{arith}
use lib.Dec.{eqb, ltb}
use lib.ListN.{get_or, take, drop}
use lib.Seq.{get_or-take, get_or-drop}
use borrow.Author.Tests.{eq-eqb, ne_eqb, eqb-true, not-false, ltb-false}
use Rattle.block.specs.Block.{sealed}
use Rattle.ground.proofs.Logic.{fail-alike, or-none}
use Rattle.ground.specs.Search.{some}
use Rattle.journal_block.specs.Block.{number_field, calls_field, miscounted, misnumbered, calls_unfilled, journal_block_check}
use Rattle.refusals.proofs.First.{missed, passed, kept}
use Rattle.std.specs.Prelude.{Ok, Err}
use Rattle.refusals.specs.declared.Refusal.TheVariants.{Sums, Numbering, Filler}

-- a count that may not stand in the last block
pub last_some : (calls : ℕ) → (calls ≡ 0 → ⊥) → miscounted true calls ≡ ltb 125 calls
last_some calls ne = rw (ne_eqb calls 0 ne) refl

-- a count that may is at most 125, and 125 before the last block
pub count-few : (last : Bool) (calls : ℕ) → miscounted last calls ≡ false → calls ≤ 125
count-few true calls h = ltb-false 125 calls (or-none (eqb calls 0) (ltb 125 calls) h).1
count-few false calls h = let q = eqb-true calls 125 (not-false (eqb calls 125) h) in omega (arith, q)

pub count-full : (last : Bool) (calls : ℕ) → last ≡ false → miscounted last calls ≡ false → calls ≡ 125
count-full true calls e h = let q : ◌≡◌ {A = ℕ} (cond true 0 1) (cond false 0 1) = cc in absurd (omega (arith, q))
count-full false calls e h = eqb-true calls 125 (not-false (eqb calls 125) h)

-- the ways out
module _ (k i : ℕ) (b : List ℕ) where
  pub wrong-sums : sealed b ≡ false → journal_block_check k i b ≡ Err (Sums i)
  unfolding journal_block_check
  wrong-sums e = rw e refl

  module _ (s : sealed b ≡ true) where
    pub wrong-number : (number_field b ≡ i → ⊥) → journal_block_check k i b ≡ Err (Numbering i)
    unfolding journal_block_check misnumbered
    wrong-number ne = rw (s, ne_eqb (number_field b) i ne) refl

    pub wrong-count : miscounted (eqb (suc i) k) (calls_field b) ≡ true → journal_block_check k i b ≡ Err (Numbering i)
    unfolding journal_block_check misnumbered
    wrong-count e = rw (s, e, or-true) refl

    module _ (p : number_field b ≡ i) (c : miscounted (eqb (suc i) k) (calls_field b) ≡ false) where
      pub wrong-filler : calls_unfilled b ≡ true → journal_block_check k i b ≡ Err (Filler i)
      unfolding journal_block_check misnumbered
      wrong-filler e = rw (s, eq-eqb (number_field b) i p, c, e) refl

      pub all_right : calls_unfilled b ≡ false → journal_block_check k i b ≡ Ok tt
      unfolding journal_block_check misnumbered
      all_right e = rw (s, eq-eqb (number_field b) i p, c, e) refl

-- what a sound block is
pub record Right (k i : ℕ) (b : List ℕ) : Type 0 where
  pub sums : sealed b ≡ true
  pub place : number_field b ≡ i
  pub count : miscounted (eqb (suc i) k) (calls_field b) ≡ false
  pub filled : calls_unfilled b ≡ false

pub right : (k i : ℕ) (b : List ℕ) → journal_block_check k i b ≡ Ok tt → Right k i b
unfolding journal_block_check misnumbered
right k i b e =
    let x = passed (sealed b) (Sums i) _ e in
    let y = missed (misnumbered k i b) (Numbering i) _ x.1 in
    let z = or-none (not (eqb (number_field b) i)) (miscounted (eqb (suc i) k) (calls_field b)) y.0 in
    record {
      sums = x.0;
      place = eqb-true (number_field b) i (not-false _ z.0);
      count = z.1;
      filled = kept (calls_unfilled b) (Filler i) y.1;
    }

-- a sum is not 0 just if one of its two numbers is not
pub some-part : (s x : ℕ) → not (eqb (s + x) 0) ≡ not (eqb s 0) || not (eqb x 0)
some-part s x =
    fail-alike (not (eqb (s + x) 0)) (not (eqb s 0) || not (eqb x 0))
    (λ h. let e = eqb-true (s + x) 0 (not-false _ h) in rw (eq-eqb s 0 (omega arith), eq-eqb x 0 (omega arith)) refl)
    (λ h. let q = or-none (not (eqb s 0)) (not (eqb x 0)) h in
    let a = eqb-true s 0 (not-false _ q.0) in
    let b = eqb-true x 0 (not-false _ q.1) in
    ap not (eq-eqb (s + x) 0 (omega arith)))

-- the same test of each number below a bound
some-alike : (k : ℕ) (p q : ℕ → Bool) → ((j : ℕ) → j < k → p j ≡ q j) → some k p ≡ some k q
unfolding some
some-alike zero p q h = refl
some-alike (suc k) p q h = ap₂ ◌||◌ (some-alike k p q (λ j l. h j (omega arith))) (h k (omega arith))

-- one of the bytes from a place on to byte 503, as they are cut out, or as they stand in the block
pub some-rest : (from : ℕ) (b : List ℕ) (n : ℕ) → n ≡ 504 - from
    → some n (λ i. not (eqb (get_or (take (504 - from) (drop from b)) i 0) 0)) ≡ some (504 - from) (λ j. not (eqb (get_or b (from + j) 0) 0))
some-rest from b n e =
    some-alike n _ (λ j. not (eqb (get_or b (from + j) 0) 0)) (λ j l. ap (λ (x : ℕ). not (eqb x 0)) (get_or-take (504 - from) (drop from b) j 0 (omega arith) ∙ get_or-drop from b j 0))
    ∙ ap (λ (k : ℕ). some k (λ j. not (eqb (get_or b (from + j) 0) 0))) e
