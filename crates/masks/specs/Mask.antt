-- A set of sites as a mask: a natural number, bit v for site v.
use Rattle.std.specs.Prelude.{◌≡◌, ℕ, zero, suc, ◌+◌, ◌-◌, ◌/◌, ◌%◌, ◌^◌, Bool, true, cond, eqb}
use Rattle.std.specs.Int.Bits.{bit_and, bit_xor}
use Rattle.std.specs.Int.Count.{ones}

-- site v is in the set m: bit v of m is 1
unfoldable pub has : ℕ → ℕ → Bool
has m v = eqb (m / 2 ^ v % 2) 1

-- the set of site v alone
abbrev pub single : ℕ → ℕ
single v = 2 ^ v

-- every member of q is in u
unfoldable pub within : ℕ → ℕ → Bool
within q u = eqb (bit_and q u) q

-- the members of a that are not in b
unfoldable pub minus : ℕ → ℕ → ℕ
minus a b = bit_xor a (bit_and a b)

-- the members of a but for site v
abbrev pub others : ℕ → ℕ → ℕ
others a v = minus a (single v)

-- all sites below n
abbrev pub all_below : ℕ → ℕ
all_below n = 2 ^ n - 1

-- how many sites are in m
abbrev pub size : ℕ → ℕ
size m = ones m

-- the sites below n that pass the test p
unfoldable pub gather : ℕ → (ℕ → Bool) → ℕ
gather zero p = 0
gather (suc n) p = gather n p + cond (p n) (single n) 0

-- as statements: v is in m; every member of q is in u
infix 40 ◌∈◌
infix 40 ◌⊆◌
pub record ◌∈◌ (v m : ℕ) : Type 0 where
  pub holds : has m v ≡ true

pub record ◌⊆◌ (q u : ℕ) : Type 0 where
  pub each : (v : ℕ) → v ∈ q → v ∈ u
