-- The ways out of the check of one set.
use Rattle.std.specs.Prelude.{Ok, Err}
use Prim.Native.Nat.{ℕ, ◌+◌, ◌≤◌, ◌<◌}
use mathlib.Core.Bool.{true, false, or-true}
use mathlib.Core.Path.{◌≡◌, refl}
use lib.ListN.{length}
use borrow.Author.Tests.{eq-eqb, ne_eqb, lt-ltb, le-ltb}
use Rattle.masks.specs.Mask.{within, all_below, size}
use Rattle.refusals.specs.declared.Refusal.TheVariants.{Slice, Threshold, Nesting}
use Rattle.threshold_sets.specs.Check.{owed, alien, unreachable, misplaced, one_set_check}
use Rattle.threshold_sets.specs.Met.{ThresholdSets}

module _ (n place : ℕ) (S : ThresholdSets) (i : ℕ) where
  pub names-alien : within (S.plain i) (all_below n) ≡ false → one_set_check n place S i ≡ Err (Slice place)
  unfolding one_set_check alien
  names-alien e = rw e refl

  module _ (w : within (S.plain i) (all_below n) ≡ true) where
    pub threshold-zero : S.threshold i ≡ 0 → one_set_check n place S i ≡ Err (Threshold place)
    unfolding one_set_check alien unreachable
    threshold-zero e = rw (w, eq-eqb (S.threshold i) 0 e) refl

    pub threshold-above : size (S.plain i) + S.inner i < S.threshold i → one_set_check n place S i ≡ Err (Threshold place)
    unfolding one_set_check alien unreachable
    threshold-above l = rw (w, lt-ltb (size (S.plain i) + S.inner i) (S.threshold i) l, or-true) refl

    module _ (z : S.threshold i ≡ 0 → ⊥) (r : S.threshold i ≤ size (S.plain i) + S.inner i) where
      pub after-root : length (owed S i) ≡ 0 → one_set_check n place S i ≡ Err (Nesting place)
      unfolding one_set_check alien unreachable misplaced
      after-root e =
          rw (w, ne_eqb (S.threshold i) 0 z, le-ltb (size (S.plain i) + S.inner i) (S.threshold i) r, eq-eqb (length (owed S i)) 0 e) refl

      pub too-deep : 4 < length (owed S i) → one_set_check n place S i ≡ Err (Nesting place)
      unfolding one_set_check alien unreachable misplaced
      too-deep l =
          rw (w, ne_eqb (S.threshold i) 0 z, le-ltb (size (S.plain i) + S.inner i) (S.threshold i) r, lt-ltb 4 (length (owed S i)) l, or-true) refl

      pub well-placed : (length (owed S i) ≡ 0 → ⊥) → length (owed S i) ≤ 4 → one_set_check n place S i ≡ Ok tt
      unfolding one_set_check alien unreachable misplaced
      well-placed f l =
          rw (
            w,
            ne_eqb (S.threshold i) 0 z,
            le-ltb (size (S.plain i) + S.inner i) (S.threshold i) r,
            ne_eqb (length (owed S i)) 0 f,
            le-ltb 4 (length (owed S i)) l,
          ) refl
