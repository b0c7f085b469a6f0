-- One block of a journal: "Blocks of 512 bytes with the check of 01: bytes 0 to 1 block number from 0, 2 to 3 count of calls, then up to 125 calls of four
-- bytes, zeros to byte 503."
use Rattle.std.specs.Prelude.{ℕ, suc, ◌+◌, ◌-◌, ◌*◌, ◌/◌, Bool, ◌||◌, not, cond, List, ◌++◌, eqb, ltb, length, get_or, take, drop, replicate}
use Rattle.block.specs.Block.{seal, sealed}
use Rattle.ground.specs.Search.{some}
use Rattle.le.specs.Le.{digits, field}
use Rattle.refusals.specs.First.{or_else, refuse}
use Rattle.refusals.specs.Check.{Check}
use Rattle.refusals.specs.declared.Refusal.TheVariants.{Sums, Numbering, Filler}

abbrev pub number_field : List ℕ → ℕ
number_field b = field 2 b 0

abbrev pub calls_field : List ℕ → ℕ
calls_field b = field 2 b 2

-- "Every block but the last holds 125, the last 1 to 125.": a count that may not stand in the last block, or in one before it
abbrev pub miscounted : Bool → ℕ → Bool
miscounted last calls = cond last (eqb calls 0 || ltb 125 calls) (not (eqb calls 125))

-- "20 for number or count": of the block b at place i of k
unfoldable pub misnumbered : ℕ → ℕ → List ℕ → Bool
misnumbered k i b = not (eqb (number_field b) i) || miscounted (eqb (suc i) k) (calls_field b)

-- 8: a byte behind the last call, 4 + 4 * count to 503, is not zero
unfoldable pub calls_unfilled : List ℕ → Bool
unfolding some
calls_unfilled b = let from = 4 + 4 * calls_field b in some (504 - from) (λ j. not (eqb (get_or b (from + j) 0) 0))

-- "then per block 2, 20 for number or count, 8", and "a fault in a block carries its number"
unfoldable pub journal_block_check : ℕ → ℕ → List ℕ → Check
unfolding misnumbered calls_unfilled
journal_block_check k i b =
    or_else (refuse (not (sealed b)) (Sums i))
    (or_else (refuse (misnumbered k i b) (Numbering i))
    (refuse (calls_unfilled b) (Filler i)))

-- the bytes of a block's calls
abbrev pub calls_in : List ℕ → List ℕ
calls_in b = take (4 * calls_field b) (drop 4 b)

-- the same as they are written: "then up to 125 calls of four bytes, zeros to byte 503"
unfoldable pub call_bytes : List ℕ → List ℕ
call_bytes calls = calls ++ replicate (500 - length calls) 0

-- the block at place i that holds these calls
unfoldable pub journal_body : ℕ → List ℕ → List ℕ
unfolding call_bytes
journal_body i calls = digits 2 i ++ (digits 2 (length calls / 4) ++ call_bytes calls)

unfoldable pub journal_block : ℕ → List ℕ → List ℕ
unfolding journal_body seal
journal_block i calls = seal (journal_body i calls)
