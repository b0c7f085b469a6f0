-- Tests of the numbers below a bound.
use Rattle.std.specs.Prelude.{ℕ, zero, suc, Bool, true, false, ◌&&◌, ◌||◌, cond, List, [], ◌∷◌, ◌++◌, ltb}

-- one of the numbers below k passes
unfoldable pub some : ℕ → (ℕ → Bool) → Bool
some zero p = false
some (suc k) p = some k p || p k

-- all numbers below k pass
unfoldable pub every : ℕ → (ℕ → Bool) → Bool
every zero p = true
every (suc k) p = every k p && p k

-- the least number below k that passes, k if none does
unfoldable pub least : ℕ → (ℕ → Bool) → ℕ
least zero p = 0
least (suc k) p = let r = least k p in cond (ltb r k) r (cond (p k) k (suc k))

-- the numbers below k that pass, in order
unfoldable pub those : ℕ → (ℕ → Bool) → List ℕ
those zero p = []
those (suc k) p = those k p ++ cond (p k) (k ∷ []) []
