-- `join` meets its contract: each of the eight words is what it has and those below it.
-- the eight places as they are written
use Prim.Native.Nat.{ℕ, zero, suc, ◌+◌, ◌*◌}
use mathlib.Core.List.{List}
use mathlib.Core.Path.{◌≡◌, refl, ap}
use native.Mathlib.Omega.{arith}
use Rattle.spread_words.specs.Inner.{join_eight, puts, joins}
use Rattle.spread_words.proofs.join.Goals as goal

place_at : ℕ → ℕ → ℕ → ℕ
place_at start step zero = start
place_at start step (suc zero) = start + step
place_at start step (suc (suc i)) = start + suc (suc i) * step

place_is : (start step i : ℕ) → place_at start step i ≡ start + i * step
unfolding place_at
place_is start step zero = omega arith
place_is start step (suc zero) = omega arith
place_is start step (suc (suc i)) = refl

pub returns : goal.returns
unfolding joins puts join_eight place_at
returns c =
    let a = c.args in same a.start a.step a.words.now
  where
    same : (start step : ℕ) (words : List ℕ) → joins (place_at start step) words ≡ joins (λ i. start + i * step) words
    same start step words = ap (λ (p : ℕ → ℕ). joins p words) (λ x i. place_is start step i x)
