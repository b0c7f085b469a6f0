-- Quorums and the largest quorum inside a set. `s v u` says that site v has some slice inside u; n is the number of sites.
use Prim.Native.Nat.{ℕ, zero, suc}
use Rattle.std.specs.Prelude.{Bool, ◌&&◌, ◌||◌, eqb}
use Rattle.std.proofs.Math.Bool.{not, cond}
use Rattle.ground.specs.Search.{every}
use Rattle.masks.specs.Mask.{has, within, all_below, gather}

module _ (s : ℕ → ℕ → Bool) (n : ℕ) where
  -- "A quorum is a non-empty set in which every member has some slice inside the set."
  unfoldable pub quorum : ℕ → Bool
  unfolding every
  quorum q = not (eqb q 0) && (within q (all_below n) && every n (λ v. not (has q v) || s v q))

  -- "each round drops, all together, the members with no slice inside the set as it stood before the round": those that stay
  unfoldable pub round : ℕ → ℕ
  round u = gather n (λ v. has u v && s v u)

  -- the set after k rounds
  unfoldable pub after : ℕ → ℕ → ℕ
  after zero w = w
  after (suc k) w = round (after k w)

  -- "stop when a round drops nobody": the set left, and the number of rounds that dropped somebody, with f rounds allowed
  unfoldable pub left : ℕ → ℕ → ℕ
  unfolding round
  left zero u = u
  left (suc f) u = cond (eqb (round u) u) u (left f (round u))

  unfoldable pub dropping : ℕ → ℕ → ℕ
  unfolding round
  dropping zero u = 0
  dropping (suc f) u = cond (eqb (round u) u) 0 (suc (dropping f (round u)))

  -- "The largest quorum inside W: start with W; .. The answer is the set left (0 if none) and the number of rounds that dropped somebody."
  -- No more than n + 1 rounds drop somebody, whatever W is.
  unfoldable pub largest : ℕ → ℕ
  unfolding left
  largest w = left (suc n) w

  unfoldable pub rounds : ℕ → ℕ
  unfolding dropping
  rounds w = dropping (suc n) w
