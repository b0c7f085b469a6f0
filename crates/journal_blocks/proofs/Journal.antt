-- Laws of a journal: what was written is read, what was read is written, and how many calls there are.
use Prim.Native.Nat.{ℕ, zero, suc, ◌+◌, ◌*◌, ◌/◌, ◌≤◌, ◌<◌}
use mathlib.Core.Bool.{true, false, cond}
use mathlib.Core.List.{List}
use mathlib.Core.Logic.{⊎_elim}
use mathlib.Core.Path.{◌≡◌, refl, ap, ap₂, subst, ◌∙◌}
use native.Mathlib.Nat.{eq-or-lt_of_le}
use native.Mathlib.Omega.{arith}
use lib.Dec.{eqb}
use lib.ListN.{length, drop, length-append, length-drop, length-take}
use lib.Seq.{take_all, length-take-le}
use borrow.Author.Tests.{eq-eqb, ne_eqb, le-ltb}
use Rattle.ground.proofs.Pieces.{length-cat, length_part, cat-ext, part-cat, cat-parts}
use Rattle.ground.specs.Pieces.{cat, part}
use Rattle.journal_block.proofs.Block.{Right, right, count-few, count-full}
use Rattle.journal_calls.proofs.Store.{block-long, block-calls, block-sound, block_back}
use Rattle.journal_block.specs.Block.{calls_field, miscounted, journal_block_check, calls_in, journal_block}
use Rattle.journal_blocks.proofs.Pieces.{front-le, part-piece}
use Rattle.journal_blocks.specs.Journal.{blocks_in, journal_blocks_check, list_of, blocks_for, journal_of}
use Rattle.le.proofs.Laws.{bytes-part}
use Rattle.le.specs.Le.{Bytes}
use Rattle.refusals.proofs.First.{first-all, first-sound}
use Rattle.std.specs.Prelude.{Ok}

-- the blocks of any list, as they are written
pub blocks-long : (list : List ℕ) (i : ℕ) → length (cat (λ j. journal_block j (part 500 j list)) i) ≡ 512 * i
blocks-long list i =
    length-cat (λ j. journal_block j (part 500 j list)) 512 i
    (λ j h. block-long j (part 500 j list) (let e = length-take 500 (drop (500 * j) list) in omega (arith, e)))

-- a list of whole calls, as it is written
module _ (list : List ℕ) (m : ℕ) (four : length list ≡ 4 * m) (short : length list ≤ 16384) where
  abbrev piece : ℕ → List ℕ
  piece i = part 500 i list

  piece-long : (i : ℕ) → (length (piece i) ≤ 500) × (4 * (length (piece i) / 4) ≡ length (piece i))
  piece-long i = let e = length-take 500 (drop (500 * i) list) in let d = length-drop (500 * i) list in (omega (arith, e, d), omega (arith, e, d, four))

  abbrev written : ℕ → List ℕ
  written i = journal_block i (piece i)

  long : (i : ℕ) → length (written i) ≡ 512
  long i = block-long i (piece i) (piece-long i).0

  pub journal-long : length (journal_of list) ≡ 512 * blocks_for (length list)
  unfolding journal_of
  journal-long = blocks-long list (blocks_for (length list))

  same_blocks : blocks_in (length (journal_of list)) ≡ blocks_for (length list)
  same_blocks = omega (arith, journal-long)

  block_of : (i : ℕ) → i < blocks_for (length list) → part 512 i (journal_of list) ≡ written i
  unfolding journal_of
  block_of i h = part-cat written 512 (blocks_for (length list)) i h (λ j l. long j)

  pub list_written : list_of (journal_of list) ≡ list
  unfolding list_of
  list_written =
      let k = blocks_for (length list) in
      ap (cat (λ i. calls_in (part 512 i (journal_of list)))) same_blocks
      ∙ cat-ext (λ i. calls_in (part 512 i (journal_of list))) piece k (λ i h. ap calls_in (block_of i h) ∙ block-calls i (piece i) (piece-long i).0 (piece-long i).1)
      ∙ cat-parts 500 k list
      ∙ take_all (500 * k) list (omega arith)

  -- the last block holds 1 to 125 calls, each before it 125
  counted : (i : ℕ) → i < blocks_for (length list) → miscounted (eqb (suc i) (blocks_for (length list))) (length (piece i) / 4) ≡ false
  counted i h =
      let k = blocks_for (length list) in
      let c = length (piece i) / 4 in
      let e = length-take 500 (drop (500 * i) list) in
      let d = length-drop (500 * i) list in
      ⊎_elim
      (λ q. rw (eq-eqb (suc i) k q, ne_eqb c 0 (λ z. omega (arith, z, e, d, q, h, four)), le-ltb 125 c (omega (arith, e, d))) refl)
      (λ l. rw (ne_eqb (suc i) k (λ q. omega (arith, q, l)), eq-eqb c 125 (omega (arith, e, d, l))) refl)
      (eq-or-lt_of_le h)

  pub written-sound : journal_blocks_check (blocks_for (length list)) (journal_of list) ≡ Ok tt
  unfolding journal_blocks_check
  written-sound =
      let k = blocks_for (length list) in
      first-sound (λ i. journal_block_check k i (part 512 i (journal_of list))) k
      (λ i h. ap (journal_block_check k i) (block_of i h)
      ∙ block-sound i (piece i) (piece-long i).0 (piece-long i).1 k (omega (arith, h, short)) (counted i h))

-- a journal of k sound blocks
module _ (j : List ℕ) (k : ℕ) (len : length j ≡ 512 * k) (sound : journal_blocks_check k j ≡ Ok tt) where
  abbrev b : ℕ → List ℕ
  b i = part 512 i j

  abbrev f : ℕ → List ℕ
  f i = calls_in (b i)

  pub each_right : (i : ℕ) → i < k → Right k i (b i)
  unfolding journal_blocks_check
  each_right i h = right k i (b i) (first-all (λ i. journal_block_check k i (b i)) k i sound h)

  pub few : (i : ℕ) → i < k → calls_field (b i) ≤ 125
  few i h = count-few (eqb (suc i) k) (calls_field (b i)) (each_right i h).count

  pub full : (i : ℕ) → suc i < k → calls_field (b i) ≡ 125
  full i h = count-full (eqb (suc i) k) (calls_field (b i)) (ne_eqb (suc i) k (λ q. omega (arith, q, h))) (each_right i (omega arith)).count

  pub block-length : (i : ℕ) → i < k → length (b i) ≡ 512
  block-length i h = length_part 512 i k j h (omega (arith, len))

  pub piece-length : (i : ℕ) → i < k → length (f i) ≡ 4 * calls_field (b i)
  piece-length i h = length-take-le (4 * calls_field (b i)) (drop 4 (b i)) (omega (arith, length-drop 4 (b i), block-length i h, few i h))

  pub all_blocks : blocks_in (length j) ≡ k
  all_blocks = omega (arith, len)

  pub pieces : list_of j ≡ cat f k
  unfolding list_of
  pieces = ap (cat f) all_blocks

  pub front_length : (i : ℕ) → i < k → length (cat f i) ≡ 500 * i
  front_length i h = length-cat f 500 i (λ q l. piece-length q (omega arith) ∙ ap (λ (c : ℕ). 4 * c) (full q (omega arith)))

  -- the calls of a block fit behind those before it
  pub room_for : (i : ℕ) → i < k → length (cat f i) + 4 * calls_field (b i) ≤ length (list_of j)
  room_for i h = let e = ap length pieces in let x = front-le f k i h in omega (arith, e, x, piece-length i h)

  -- how many bytes the list has
  pub total : (n : ℕ) → k ≡ suc n → length (list_of j) ≡ 500 * n + 4 * calls_field (b n)
  unfolding cat
  total n e =
      ap length pieces ∙ ap (λ (x : ℕ). length (cat f x)) e ∙ length-append (cat f n) (f n)
      ∙ ap₂ ◌+◌ (front_length n (omega (arith, e))) (piece-length n (omega (arith, e)))

  pub nothing : k ≡ 0 → length (list_of j) ≡ 0
  unfolding cat
  nothing e = ap length pieces ∙ ap (λ (x : ℕ). length (cat f x)) e

  -- the blocks that the list takes are those that there are
  pub blocks-back : blocks_for (length (list_of j)) ≡ k
  blocks-back = go k refl
    where
      go : (n : ℕ) → k ≡ n → blocks_for (length (list_of j)) ≡ k
      go zero e = omega (arith, nothing e, e)
      go (suc n) e = omega (arith, total n e, few n (omega (arith, e)), some n e, e)
        where
          some : (n : ℕ) → k ≡ suc n → 1 ≤ calls_field (b n)
          some n e = last_some (calls_field (b n)) (subst (λ (x : ℕ). miscounted (eqb (suc n) x) (calls_field (b n)) ≡ false) e (each_right n (omega (arith, e))).count)
            where
              last_some : (c : ℕ) → miscounted (eqb (suc n) (suc n)) c ≡ false → 1 ≤ c
              last_some zero h = let q : miscounted true 0 ≡ false = rw (eq-eqb (suc n) (suc n) refl) at h in let z : ◌≡◌ {A = ℕ} (cond true 0 1) (cond false 0 1) = cc in absurd (omega (arith, z))
              last_some (suc c) h = omega arith

  piece-at : (i : ℕ) → i < k → part 500 i (list_of j) ≡ f i
  piece-at i h =
      ap (part 500 i) pieces
      ∙ part-piece f 500 k i h (λ q l. piece-length q (omega arith) ∙ ap (λ (c : ℕ). 4 * c) (full q l)) (omega (arith, piece-length i h, few i h))

  pub journal-back : Bytes j → journal_of (list_of j) ≡ j
  unfolding journal_of
  journal-back hb =
      ap (cat (λ i. journal_block i (part 500 i (list_of j)))) blocks-back
      ∙ cat-ext (λ i. journal_block i (part 500 i (list_of j))) b k
      (λ i h. ap (journal_block i) (piece-at i h) ∙ block_back k i (b i) (bytes-part 512 (512 * i) j hb) (block-length i h) (each_right i h) (few i h))
      ∙ cat-parts 512 k j
      ∙ take_all (512 * k) j (omega (arith, len))
