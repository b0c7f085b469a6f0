-- The check takes exactly the sound sets with filler of zeros.
use Rattle.std.specs.Prelude.{Ok}
use Prim.Native.Nat.{ℕ, ◌+◌, ◌≤◌, ◌<◌}
use mathlib.Core.Bool.{Bool, true, false, ◌||◌}
use mathlib.Core.List.{List, [], ◌∷◌}
use mathlib.Core.Path.{◌≡◌, refl, ap}
use native.Mathlib.Omega.{arith}
use lib.Dec.{eqb, ltb}
use lib.ListN.{length}
use borrow.Author.Tests.{eqb-true, eqb-false, ltb-false, le-ltb, ne_eqb}
use Rattle.ground.proofs.Logic.{or-none}
use Rattle.masks.proofs.Laws.Subsets.{within-⊆, ⊆-within}
use Rattle.masks.specs.Mask.{within, all_below, size}
use Rattle.refusals.proofs.First.{first-all, first-sound, missed, passed, kept, or_else-sound}
use Rattle.refusals.specs.First.{or_else, refuse, first}
use Rattle.refusals.specs.declared.Refusal.TheVariants.{Count, Slice, Filler, Threshold, Nesting}
use Rattle.threshold_sets.specs.Check.{owed, alien, unreachable, misplaced, one_set_check, owing, sets_check, SoundSets}
use Rattle.threshold_sets.specs.Met.{ThresholdSets}
use Rattle.threshold_sets.proofs.Ways.{well-placed}

-- what is sound of one set
pub record SoundSet (n : ℕ) (S : ThresholdSets) (i : ℕ) : Type 0 where
  pub own_below : within (S.plain i) (all_below n) ≡ true
  pub own-not-zero : 1 ≤ S.threshold i
  pub own-reachable : S.threshold i ≤ size (S.plain i) + S.inner i
  pub own-in-root : 1 ≤ length (owed S i)
  pub own-level : length (owed S i) ≤ 4

pub set-sound : (n place : ℕ) (S : ThresholdSets) (i : ℕ) → one_set_check n place S i ≡ Ok tt → SoundSet n S i
unfolding one_set_check alien unreachable misplaced
set-sound n place S i h =
    let a = passed (within (S.plain i) (all_below n)) (Slice place) (or_else (refuse (unreachable S i) (Threshold place)) (refuse (misplaced S i) (Nesting place))) h in
    let b = missed (unreachable S i) (Threshold place) (refuse (misplaced S i) (Nesting place)) a.1 in
    let t = or-none (eqb (S.threshold i) 0) (ltb (size (S.plain i) + S.inner i) (S.threshold i)) b.0 in
    let m = or-none (eqb (length (owed S i)) 0) (ltb 4 (length (owed S i))) (kept (misplaced S i) (Nesting place) b.1) in
    let z = eqb-false (S.threshold i) 0 t.0 in
    let y = eqb-false (length (owed S i)) 0 m.0 in
    record {
      own_below = a.0;
      own-not-zero = omega arith;
      own-reachable = ltb-false (size (S.plain i) + S.inner i) (S.threshold i) t.1;
      own-in-root = omega arith;
      own-level = ltb-false 4 (length (owed S i)) m.1;
    }

sound-set : (n place : ℕ) (S : ThresholdSets) (i : ℕ) → SoundSet n S i → one_set_check n place S i ≡ Ok tt
sound-set n place S i s =
    well-placed n place S i s.own_below (λ e. omega (arith, s.own-not-zero)) s.own-reachable (λ e. omega (arith, s.own-in-root)) s.own-level

none-owed : (l : List ℕ) → length l ≡ 0 → l ≡ []
none-owed [] e = refl
none-owed (x ∷ l) e = absurd (omega arith)

-- what gets through is sound
pub sets-checked : (n place : ℕ) (S : ThresholdSets) (unfilled : Bool) → sets_check n place S unfilled ≡ Ok tt → SoundSets n S × (unfilled ≡ false)
unfolding sets_check owing
sets-checked n place S unfilled h =
    let rest = or_else (refuse (owing S) (Nesting place)) (refuse unfilled (Filler place)) in
    let a = missed (eqb S.count 0 || ltb 49 S.count) (Count place) (or_else (first (one_set_check n place S) S.count) rest) h in
    let many = or-none (eqb S.count 0) (ltb 49 S.count) a.0 in
    let b = or_else-sound (first (one_set_check n place S) S.count) rest a.1 in
    let d = passed (eqb (length (owed S S.count)) 0) (Nesting place) (refuse unfilled (Filler place)) b.1 in
    let each : (i : ℕ) → i < S.count → SoundSet n S i = λ i l. set-sound n place S i (first-all (one_set_check n place S) S.count i b.0 l) in
    let z = eqb-false S.count 0 many.0 in (
      record {
        some-set = omega arith;
        few-sets = ltb-false 49 S.count many.1;
        below = λ i l. within-⊆ (S.plain i) (all_below n) (each i l).own_below;
        not-zero = λ i l. (each i l).own-not-zero;
        reachable = λ i l. (each i l).own-reachable;
        in-root = λ i l. (each i l).own-in-root;
        four-levels = λ i l. (each i l).own-level;
        whole = none-owed (owed S S.count) (eqb-true (length (owed S S.count)) 0 d.0);
      },
      kept unfilled (Filler place) d.1,
    )

-- what is sound gets through
pub sets-sound : (n place : ℕ) (S : ThresholdSets) (unfilled : Bool) → SoundSets n S → unfilled ≡ false → sets_check n place S unfilled ≡ Ok tt
unfolding sets_check owing
sets-sound n place S unfilled s e =
    let q : first (one_set_check n place S) S.count ≡ Ok tt =
    first-sound (one_set_check n place S) S.count
    (λ i l. sound-set n place S i
    (record {
      own_below = ⊆-within (s.below i l);
      own-not-zero = s.not-zero i l;
      own-reachable = s.reachable i l;
      own-in-root = s.in-root i l;
      own-level = s.four-levels i l;
    })) in
    let z : eqb (length (owed S S.count)) 0 ≡ true = ap (λ (l : List ℕ). eqb (length l) 0) s.whole in
    rw (ne_eqb S.count 0 (λ y. omega (arith, s.some-set)), le-ltb 49 S.count s.few-sets, q, z, e) refl
