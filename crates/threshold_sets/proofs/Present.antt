-- Of the sites present, those that no set names do not matter.
use Prim.Native.Nat.{ℕ, ◌≤◌, ◌<◌}
use mathlib.Core.Path.{◌≡◌, refl}
use native.Mathlib.Omega.{arith}
use lib.Bits.{bit_and}
use Rattle.masks.proofs.Laws.Subsets.{⊆-antisym, and-⊆-l, and-⊆-r, ∈-and}
use Rattle.masks.specs.Mask.{all_below, ◌⊆◌}
use Rattle.threshold_sets.specs.Met.{ThresholdSets, root_met}
use Rattle.threshold_sets.proofs.Alike.{root_alike}

-- two sets of sites that have the same of each set's plain sites meet alike
pub met-present : (S : ThresholdSets) → 1 ≤ S.count → (u w : ℕ) → ((i : ℕ) → i < S.count → bit_and (S.plain i) u ≡ bit_and (S.plain i) w)
    → root_met S u ≡ root_met S w
met-present S h u w f = root_alike S S u w S.count (omega arith) refl (λ i l. refl) (λ i l. refl) f h

-- no set names a site at or above n, and so those that are present there do not matter
pub met-of-sites : (S : ThresholdSets) → 1 ≤ S.count → (n : ℕ) → ((i : ℕ) → i < S.count → S.plain i ⊆ all_below n) → (u : ℕ)
    → root_met S (bit_and u (all_below n)) ≡ root_met S u
met-of-sites S h n below u =
    met-present S h (bit_and u (all_below n)) u
    (λ i l. let q = S.plain i in
    let v = bit_and u (all_below n) in
    ⊆-antisym
    (record { each = λ x m. ∈-and ((and-⊆-l q v).each x m) ((and-⊆-l u (all_below n)).each x ((and-⊆-r q v).each x m)) })
    (record {
      each = λ x m. let p = (and-⊆-l q u).each x m in ∈-and p (∈-and ((and-⊆-r q u).each x m) ((below i l).each x p));
    }))
