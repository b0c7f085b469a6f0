-- When a site's sets are met, wherever they are kept: "sets of ten bytes in preorder: threshold, number of inner sets, mask of plain sites".
use Prim.Native.Nat.{ℕ, zero, suc, ◌+◌}
use Rattle.std.specs.Prelude.{Bool, cond, leb, ltb}
use Rattle.std.specs.Int.Bits.{bit_and}
use Rattle.std.proofs.Math.Dec.{eqb}
use Rattle.masks.specs.Mask.{size}

-- the sets of one site: how many they are, and of set i its threshold, the number of its inner sets and the mask of its plain sites
pub record ThresholdSets : Type 0 where
  pub count : ℕ
  pub threshold : ℕ → ℕ
  pub inner : ℕ → ℕ
  pub plain : ℕ → ℕ

-- after some sets: how many of them are met, and the place behind them and all that is in them
pub record AfterSets : Type 0 where
  pub met : ℕ
  pub next : ℕ

abbrev pub none_met : ℕ → AfterSets
none_met i = record { met = 0; next = i }

-- one set, and then others
abbrev pub join : AfterSets → AfterSets → AfterSets
join a b = record { met = a.met + b.met; next = b.next }

module _ (S : ThresholdSets) (u : ℕ) where
  -- "A set is met when plain sites present plus inner sets met reach the threshold": set i, given its inner sets
  abbrev pub reach : ℕ → AfterSets → AfterSets
  reach i m = record { met = cond (leb (S.threshold i) (size (bit_and (S.plain i) u) + m.met)) 1 0; next = m.next }

  -- "a set is met through its members": k sets from place i on, each asked by `set`. Sets that are not refused have so many.
  unfoldable pub members_at : (ℕ → AfterSets) → ℕ → ℕ → AfterSets
  members_at set zero i = none_met i
  members_at set (suc k) i = cond (ltb i S.count) (join (set i) (members_at set k (set i).next)) (none_met i)

  -- "and members through their sets, at most four levels": set i, with so many levels left. Of sets that are not refused they are enough.
  unfoldable pub set_at : ℕ → ℕ → AfterSets
  unfolding members_at
  set_at zero i = none_met (i + 1)
  set_at (suc levels) i = reach i (members_at (set_at levels) (S.inner i) (i + 1))

  -- "the root the first": the root set is met by u
  unfoldable pub root_met : Bool
  unfolding set_at
  root_met = eqb (set_at 4 0).met 1
