-- The check of one block of 512 bytes.
use Rattle.std.specs.Prelude.{ℕ, zero, suc, ◌+◌, ◌*◌, ◌%◌, ◌^◌, Bool, cond, ◌&&◌, List, ◌++◌, length, ◌==◌}
use Rattle.le.specs.Le.{digits, field}

-- the k-th four-byte word of b
unfoldable pub word : List ℕ → ℕ → ℕ
word b k = field 4 b (4 * k)

-- "both start at 0; for each word w, s becomes s + w, then t becomes t + s": the two sums after the first k words
unfoldable pub sum_s : List ℕ → ℕ → ℕ
sum_s b zero = 0
sum_s b (suc k) = sum_s b k + word b k

unfoldable pub sum_t : List ℕ → ℕ → ℕ
sum_t b zero = 0
sum_t b (suc k) = sum_t b k + sum_s b (suc k)

-- "two sums modulo 2^32 over the first 126 four-byte words"
unfoldable pub check_s : List ℕ → ℕ
check_s b = sum_s b 126 % 2 ^ 32

unfoldable pub check_t : List ℕ → ℕ
check_t b = sum_t b 126 % 2 ^ 32

-- "Bytes 504 to 507 hold s, 508 to 511 hold t."
unfoldable pub sealed : List ℕ → Bool
sealed b = field 4 b 504 == check_s b && field 4 b 508 == check_t b

-- the same as it is written: 504 bytes, with their check behind them
unfoldable pub seal : List ℕ → List ℕ
seal b = b ++ (digits 4 (check_s b) ++ digits 4 (check_t b))

-- the lone block's answer: 1 if it is not 512 bytes, 2 if its check differs, else 0
unfoldable pub check : List ℕ → ℕ
check b = cond (length b == 512) (cond (sealed b) 0 2) 1
