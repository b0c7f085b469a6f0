-- The faulty sites as a person types them: "the mask as now, or site numbers behind an `s`: `s3,12`; `s` alone is nobody".
use Rattle.std.specs.Prelude.{ℕ, ◌+◌, ◌-◌, ◌*◌, ◌&&◌, not, cond, List, [], ◌∷◌, eqb, ltb, length, Option, Some, None}
use Rattle.std.specs.Int.Bits.{bit_or}
use Rattle.masks.specs.Mask.{has, single}
use Rattle.text.specs.Text.{typed}

-- the site typed so far and one character more, in decimal digits: 64 before the first digit, 65 for what is no site
unfoldable pub digit_after : ℕ → ℕ → ℕ
digit_after x b =
    cond (not (ltb b 48) && ltb b 58)
    (cond (eqb x 64) (b - 48) (cond (ltb (10 * x + (b - 48)) 64) (10 * x + (b - 48)) 65))
    65

-- the site typed so far as a number: 64 before the first digit
abbrev pub so_far : Option ℕ → ℕ
so_far None = 64
so_far (Some x) = x

-- the sites of m, the site x that is being typed, and what is still to be read: numbers below 64 with commas between them, none of them twice
unfoldable pub sites_typed : ℕ → ℕ → List ℕ → Option ℕ
unfolding has digit_after
sites_typed m x [] = cond (ltb x 64 && not (has m x)) (Some (bit_or m (single x))) None
sites_typed m x (b ∷ l) =
    cond (eqb b 44) (cond (ltb x 64 && not (has m x)) (sites_typed (bit_or m (single x)) 64 l) None)
    (sites_typed m (digit_after x b) l)

-- what stands behind an `s` is sites, anything else a mask
unfoldable pub faulty_typed : List ℕ → Option ℕ
unfolding typed sites_typed
faulty_typed [] = None
faulty_typed (b ∷ l) = cond (eqb b 115) (cond (eqb (length l) 0) (Some 0) (sites_typed 0 64 l)) (typed (b ∷ l))
