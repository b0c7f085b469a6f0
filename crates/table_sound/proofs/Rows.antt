-- The row of a site so far: its groups, ascending, then zeros. A group that is taken joins them in its place.
use Rattle.std.specs.Prelude.{Ok}
use Prim.Native.Nat.{ℕ, suc, ◌+◌, ◌-◌, ◌^◌, ◌≤◌, ◌<◌}
use mathlib.Core.Bool.{true, false}
use mathlib.Core.List.{List, [], ◌∷◌, ◌++◌}
use mathlib.Core.Path.{◌≡◌, refl, sym, ap, ◌∙◌}
use native.Mathlib.Numerals.{add-one}
use native.Mathlib.Omega.{arith}
use lib.Dec.{eqb, ltb}
use lib.ListN.{length, drop, get_or, replicate, length-append, length-replicate, get_or-replicate, get_or-append}
use lib.Seq.{take-append_seam, drop-append-add, get_or-append-add}
use borrow.Author.Tests.{ltb-false, eqb-false}
use Rattle.ground.proofs.Some.{none_each}
use Rattle.group_order.proofs.Sorted.{Each, none, Ascends, empty, each_of, length-sift, each-sift, ascends-sift}
use Rattle.group_order.specs.Joined.{sift, joined, known}
use Rattle.masks.proofs.Laws.Subsets.{mem}
use Rattle.masks.specs.Mask.{has, ◌∈◌}
use Rattle.refusals.proofs.First.{missed, passed, kept}
use Rattle.refusals.specs.First.{refuse}
use Rattle.refusals.specs.declared.Refusal.TheVariants.{Slice, Order}
use Rattle.refusals.specs.declared.Refusal.TheVariants.{Count as Groups}
use Rattle.rows.specs.Site.{count, slice}
use Rattle.table_reading.specs.Groups.{group_check}

-- the row of these groups
abbrev pub filled : List ℕ → List ℕ
filled l = length l ∷ (l ++ replicate (62 - length l) 0)

pub length-filled : (l : List ℕ) → length l ≤ 62 → length (filled l) ≡ 63
length-filled l h = omega (arith, length-append l (replicate (62 - length l) 0), length-replicate {A = ℕ} (62 - length l) 0)

pub slice_in : (l : List ℕ) (i : ℕ) → i < length l → slice (filled l) i ≡ get_or l i 0
slice_in l i h = ap (λ (j : ℕ). get_or (filled l) j 0) (one_more i) ∙ get_or-append l (replicate (62 - length l) 0) 0 i h
  where
    one_more : (i : ℕ) → 1 + i ≡ suc i
    one_more i = omega arith

pub slice-past : (l : List ℕ) (i : ℕ) → length l ≤ i → i < 62 → slice (filled l) i ≡ 0
slice-past l i h b =
    let e : 1 + i ≡ suc (length l + (i - length l)) = omega arith in
    ap (λ (j : ℕ). get_or (filled l) j 0) e ∙ get_or-append-add l (replicate (62 - length l) 0) (i - length l) 0
    ∙ get_or-replicate (62 - length l) (i - length l) 0 0 (omega arith)

-- one group more
pub joined-filled : (q : ℕ) (l : List ℕ) → length l < 62 → joined q (filled l) ≡ filled (sift q l)
unfolding joined
joined-filled q l h =
    let Z : List ℕ = replicate (62 - length l) 0 in
    let a : 2 + length l ≡ suc (length l + 1) = omega arith in
    let b : 62 - length l ≡ suc (62 - length (sift q l)) = omega (arith, length-sift q l) in
    let c : drop (2 + length l) (filled l) ≡ replicate (62 - length (sift q l)) 0 =
    ap (λ (j : ℕ). drop j (filled l)) a ∙ drop-append-add l Z 1 ∙ ap (λ (j : ℕ). drop 1 (replicate j 0)) b in
    rw (take-append_seam l Z, c, add-one (length l), ← length-sift q l) refl

pub unlike : (q : ℕ) (l : List ℕ) → known q (filled l) ≡ false → Each (λ x. x ≡ q → ⊥) l
unfolding known
unlike q l e =
    each_of (λ x. x ≡ q → ⊥) l
    (λ i h. eqb-false (get_or l i 0) q (sym (ap (λ (x : ℕ). eqb x q) (slice_in l i h)) ∙ none_each (length l) (λ k. eqb (slice (filled l) k) q) i e h))

-- a group of site v in a table of n sites
abbrev pub Group : ℕ → ℕ → ℕ → Type 0
Group n v q = (v ∈ q) × (q < 2 ^ n)

-- the 63 numbers of site v while its line is read, and after it
pub record Holds (n v : ℕ) (m : List ℕ) : Type 0 where
  pub groups : List ℕ
  pub few : length groups ≤ 62
  pub shape : m ≡ filled groups
  pub each : Each (Group n v) groups
  pub up : Ascends groups

pub holds-none : (n v : ℕ) (m : List ℕ) → m ≡ replicate 63 0 → Holds n v m
holds-none n v m e = record { groups = []; few = omega arith; shape = e; each = none; up = empty }

pub holds-eq : {n v : ℕ} {m : List ℕ} (x : List ℕ) → x ≡ m → Holds n v m → Holds n v x
holds-eq x e r = record { groups = r.groups; few = r.few; shape = e ∙ r.shape; each = r.each; up = r.up }

-- no group yet: it may be of any number of sites
pub holds-any : {n v : ℕ} {m : List ℕ} (k : ℕ) → count m ≡ 0 → Holds n v m → Holds k v m
holds-any {n} {v} {m} k e r = of r.groups r.shape (sym (ap count r.shape) ∙ e)
  where
    of : (l : List ℕ) → m ≡ filled l → length l ≡ 0 → Holds k v m
    of [] s z = holds-none k v m s
    of (x ∷ l) s z = absurd (omega arith)

-- a group that passes its check
module _ (n v q : ℕ) (m : List ℕ) (r : Holds n v m) (f : q < 2 ^ n) (c : group_check v q m ≡ Ok tt) where
  passes : (count m ≤ 61) × (has q v ≡ true) × (known q m ≡ false)
  unfolding group_check
  passes =
      let a = missed (ltb 61 (count m)) (Groups v) _ c in
      let b = passed (has q v) (Slice v) (refuse (known q m) (Order v)) a.1 in
      (ltb-false 61 (count m) a.0, b.0, kept (known q m) (Order v) b.1)

  room : length r.groups < 62
  room = omega (arith, passes.0, ap count r.shape)

  shaped : joined q m ≡ filled (sift q r.groups)
  shaped = ap (joined q) r.shape ∙ joined-filled q r.groups room

  pub joins : Holds n v (joined q m)
  joins =
      let p = passes in
      record {
        groups = sift q r.groups;
        few = omega (arith, room, length-sift q r.groups);
        shape = shaped;
        each = each-sift (Group n v) q r.groups (mem p.1, f) r.each;
        up = ascends-sift q r.groups (unlike q r.groups (sym (ap (known q) r.shape) ∙ p.2)) r.up;
      }

  pub joins_long : length (joined q m) ≡ 63
  joins_long = ap length shaped ∙ length-filled (sift q r.groups) (omega (arith, room, length-sift q r.groups))

  pub joins-some : 1 ≤ count (joined q m)
  joins-some = omega (arith, ap count shaped, length-sift q r.groups)
