-- What the programs print, as bytes: words, numbers and masks, and a mask that was typed.
use Prim.Native.Char.{code}
use Rattle.std.specs.Prelude.{ℕ, zero, suc, ◌+◌, ◌-◌, ◌*◌, ◌^◌, ◌&&◌, not, cond, List, [] as nothing, ◌∷◌ as ◌then◌, ltb, length, get_or, Option, Some, None}
use Prim.Native.String.{String, [], ◌∷◌}
use Rattle.ground.specs.Search.{least, every}
use Rattle.io.specs.Digits.{last_digits}

-- the bytes of a text, one a character
abbrev pub ascii : String → List ℕ
ascii [] = nothing
ascii (c ∷ s) = code c then ascii s

-- "numbers decimal": the fewest decimal digits that hold a 64-bit number, one at least
unfoldable pub digit_count : ℕ → ℕ
digit_count x = suc (least 19 (λ k. ltb x (10 ^ suc k)))

unfoldable pub decimal : ℕ → List ℕ
decimal x = last_digits 10 (digit_count x) x

-- "Masks are 16 lower-case hexadecimal digits"
unfoldable pub mask : ℕ → List ℕ
mask m = last_digits 16 16 m

-- a hexadecimal digit typed by a person, in either case: what it is worth, 16 for a byte that is none
unfoldable pub worth : ℕ → ℕ
worth b =
    cond (not (ltb b 48) && ltb b 58) (b - 48)
    (cond (not (ltb b 97) && ltb b 103) (b - 87)
    (cond (not (ltb b 65) && ltb b 71) (b - 55)
    16))

-- the number that the first k of the digits are
unfoldable pub value : List ℕ → ℕ → ℕ
value l zero = 0
value l (suc k) = 16 * value l k + worth (get_or l k 0)

-- "1 to 16 hexadecimal digits"
unfoldable pub typed : List ℕ → Option ℕ
typed l =
    cond (not (ltb (length l) 1) && (not (ltb 16 (length l)) && every (length l) (λ i. ltb (worth (get_or l i 0)) 16)))
    (Some (value l (length l)))
    None
