-- 7 and 9 never arise: what is refused block by block and site by site is 2 to 6 or 8, a checked table holds a quorum, and the desk's rooms are large enough.
use Rattle.refusals.specs.Check.{Answer, Check}
use Rattle.std.specs.Prelude.{Ok, Err}
use Prim.Native.Nat.{ℕ, zero, suc, ◌*◌, ◌/◌, ◌%◌, ◌≤◌, ◌<◌}
use mathlib.Core.Bool.{Bool, true, false, ◌||◌, not}
use mathlib.Core.List.{List}
use mathlib.Core.Logic.{◌⊎◌, inl, inr, ⊎_elim}
use mathlib.Core.Path.{◌≡◌, refl, sym, ap, ◌∙◌, subst}
use native.Mathlib.Omega.{arith}
use borrow.Author.Tests.{le-ltb, lt-ltb}
use lib.Dec.{eqb, ltb}
use lib.ListN.{length}
use Rattle.block.specs.Block.{sealed}
use Rattle.check_text.specs.Table.{image_check}
use Rattle.ground.proofs.Logic.{clash}
use Rattle.ground.specs.Pieces.{part}
use Rattle.image.proofs.ReadLaws.{blocks-shape, loads-table, some-quorum}
use Rattle.image_blocks.specs.Image.{image_misshapen, blocks_check, loads}
use Rattle.image.specs.Read.{read, read_check, quorumless, to_reading}
use Rattle.masks.specs.Mask.{within, all_below}
use Rattle.refusals.specs.First.{or_else, refuse, first}
use Rattle.refusals.specs.Refusal.{number}
use Rattle.refusals.specs.declared.Refusal.{Refusal}
use Rattle.refusals.specs.declared.Refusal.TheVariants.{Length, NoQuorum, Room, Set, Sums, Header, Count, Slice, Order, Filler, Threshold, Nesting}
use Rattle.refusals.specs.declared.Refusal as Refusals
use Rattle.rules.specs.State.{width}
use Rattle.run.specs.Run.{run_check, roomless, list_misshapen}
use Rattle.site_block.specs.Block.{count_field, slice_field, misheaded, block_unfilled, block_row_check, block_check}
use Rattle.rows.specs.Row.{strange, unordered, slice_check, row_check}
use Rattle.rows.specs.Site.{count, slice, row_unfilled, site_check}
use Rattle.sets.proofs.Groups.{few-in, set-checked}
use Rattle.sets.specs.Groups.{Groups, lists, thresholds, sites_of, groups_check, outsider, set_check}
use Rattle.table.specs.Table.{site_of, sites, table_misshapen, check, sites_check}
use Rattle.threshold_block.specs.Block.{sets_in, sets_unfilled, threshold_block_check}
use Rattle.threshold_image.specs.Image.{image_sites, threshold_blocks_check, thresholds_check}
use Rattle.threshold_sets.specs.Check.{alien, unreachable, misplaced, one_set_check, owing, sets_check}
use Rattle.threshold_sets.specs.Met.{ThresholdSets}
use Rattle.published.specs.Files.{SevenNever, NineNever}

-- a check whose refusals have other numbers than k
abbrev Avoids : ℕ → Check → Type 0
Avoids k c = (r : Refusal) → c ≡ Err r → number r ≡ k → ⊥

refused-inj : {r s : Refusal} → ◌≡◌ {A = Check} (Err r) (Err s) → r ≡ s
refused-inj e = cc

module _ (k : ℕ) where
  sound-avoids : Avoids k (Ok tt)
  sound-avoids r e h = let z : ◌≡◌ {A = ℕ} 0 1 = cc in omega (arith, z)

  refuse-avoids : (b : Bool) (s : Refusal) → (number s ≡ k → ⊥) → Avoids k (refuse b s)
  refuse-avoids true s f = λ r e h. f (ap number (refused-inj e) ∙ h)
  refuse-avoids false s f = sound-avoids

  or_else-avoids : (a b : Check) → Avoids k a → Avoids k b → Avoids k (or_else a b)
  or_else-avoids (Ok _) b x y = y
  or_else-avoids (Err r) b x y = x

  first-avoids : (f : ℕ → Check) (n : ℕ) → ((i : ℕ) → Avoids k (f i)) → Avoids k (first f n)
  unfolding first
  first-avoids f zero h = sound-avoids
  first-avoids f (suc n) h = or_else-avoids (first f n) (f n) (first-avoids f n h) (h n)

  -- 7 and 9, and no others
  module _ (o : (k ≡ 7) ⊎ (k ≡ 9)) where
    other : (m : ℕ) → (m ≡ 7 → ⊥) → (m ≡ 9 → ⊥) → m ≡ k → ⊥
    other m f g e = ⊎_elim (λ p. f (e ∙ p)) (λ p. g (e ∙ p)) o

    slice-avoids : (n owner place : ℕ) (slice : ℕ → ℕ) (i : ℕ) → Avoids k (slice_check n owner place slice i)
    unfolding slice_check
    slice-avoids n owner place slice i =
        or_else-avoids (refuse (strange n owner (slice i)) (Slice place)) (refuse (unordered slice i) (Order place))
        (refuse-avoids (strange n owner (slice i)) (Slice place) (other 5 (λ z. omega (arith, z)) (λ z. omega (arith, z))))
        (refuse-avoids (unordered slice i) (Order place) (other 6 (λ z. omega (arith, z)) (λ z. omega (arith, z))))

    row-avoids : (each : ℕ → Check) (place many : ℕ) (bad : Bool) → ((i : ℕ) → Avoids k (each i)) → Avoids k (row_check each place many bad)
    unfolding row_check
    row-avoids each place many bad h =
        let counted = eqb many 0 || ltb 62 many in
        let rest = or_else (first each many) (refuse bad (Filler place)) in
        or_else-avoids (refuse counted (Count place)) rest (refuse-avoids counted (Count place) (other 4 (λ z. omega (arith, z)) (λ z. omega (arith, z))))
        (or_else-avoids (first each many) (refuse bad (Filler place)) (first-avoids each many h)
        (refuse-avoids bad (Filler place) (other 8 (λ z. omega (arith, z)) (λ z. omega (arith, z)))))

    block-avoids : (n i : ℕ) (b : List ℕ) → Avoids k (block_check n i i b)
    unfolding block_check block_row_check
    block-avoids n i b =
        let each = slice_check n i i (slice_field b) in
        let row = block_row_check n i i b in
        or_else-avoids (refuse (not (sealed b)) (Sums i)) (or_else (refuse (misheaded n i b) (Header i)) row)
        (refuse-avoids (not (sealed b)) (Sums i) (other 2 (λ z. omega (arith, z)) (λ z. omega (arith, z))))
        (or_else-avoids (refuse (misheaded n i b) (Header i)) row (refuse-avoids (misheaded n i b) (Header i) (other 3 (λ z. omega (arith, z)) (λ z. omega (arith, z))))
        (row-avoids each i (count_field b) (block_unfilled b) (slice-avoids n i i (slice_field b))))

    blocks-avoid : (n : ℕ) (image : List ℕ) → Avoids k (blocks_check n image)
    unfolding blocks_check
    blocks-avoid n image =
        first-avoids (λ i. block_check n i i (part 512 i image)) n (λ i. block-avoids n i (part 512 i image))

    set-of-avoids : (n place : ℕ) (S : ThresholdSets) (i : ℕ) → Avoids k (one_set_check n place S i)
    unfolding one_set_check
    set-of-avoids n place S i =
        or_else-avoids (refuse (alien n S i) (Slice place)) (or_else (refuse (unreachable S i) (Threshold place)) (refuse (misplaced S i) (Nesting place)))
        (refuse-avoids (alien n S i) (Slice place) (other 5 (λ z. omega (arith, z)) (λ z. omega (arith, z))))
        (or_else-avoids (refuse (unreachable S i) (Threshold place)) (refuse (misplaced S i) (Nesting place))
        (refuse-avoids (unreachable S i) (Threshold place) (other 21 (λ z. omega (arith, z)) (λ z. omega (arith, z))))
        (refuse-avoids (misplaced S i) (Nesting place) (other 22 (λ z. omega (arith, z)) (λ z. omega (arith, z)))))

    sets-avoid : (n place : ℕ) (S : ThresholdSets) (bad : Bool) → Avoids k (sets_check n place S bad)
    unfolding sets_check
    sets-avoid n place S bad =
        let counted = eqb S.count 0 || ltb 49 S.count in
        let end = or_else (refuse (owing S) (Nesting place)) (refuse bad (Filler place)) in
        or_else-avoids (refuse counted (Count place)) (or_else (first (one_set_check n place S) S.count) end)
        (refuse-avoids counted (Count place) (other 4 (λ z. omega (arith, z)) (λ z. omega (arith, z))))
        (or_else-avoids (first (one_set_check n place S) S.count) end (first-avoids (one_set_check n place S) S.count (set-of-avoids n place S))
        (or_else-avoids (refuse (owing S) (Nesting place)) (refuse bad (Filler place))
        (refuse-avoids (owing S) (Nesting place) (other 22 (λ z. omega (arith, z)) (λ z. omega (arith, z))))
        (refuse-avoids bad (Filler place) (other 8 (λ z. omega (arith, z)) (λ z. omega (arith, z))))))

    threshold-block-avoids : (n i : ℕ) (b : List ℕ) → Avoids k (threshold_block_check n i i b)
    unfolding threshold_block_check
    threshold-block-avoids n i b =
        let sets = sets_check n i (sets_in b) (sets_unfilled b) in
        or_else-avoids (refuse (not (sealed b)) (Sums i)) (or_else (refuse (misheaded n i b) (Header i)) sets)
        (refuse-avoids (not (sealed b)) (Sums i) (other 2 (λ z. omega (arith, z)) (λ z. omega (arith, z))))
        (or_else-avoids (refuse (misheaded n i b) (Header i)) sets (refuse-avoids (misheaded n i b) (Header i) (other 3 (λ z. omega (arith, z)) (λ z. omega (arith, z))))
        (sets-avoid n i (sets_in b) (sets_unfilled b)))

    table-avoids : (t : Groups) → Avoids k (groups_check t)
    unfolding check sites_check site_check thresholds_check threshold_blocks_check
    table-avoids (lists t) =
        let n = sites (length t) in
        or_else-avoids (refuse (table_misshapen (length t)) Length) (sites_check n t) (refuse-avoids (table_misshapen (length t)) Length (other 1 (λ z. omega (arith, z)) (λ z. omega (arith, z))))
        (first-avoids (λ v. site_check n v v (site_of t v)) n
        (λ v. let m = site_of t v in row-avoids (slice_check n v v (slice m)) v (count m) (row_unfilled m) (slice-avoids n v v (slice m))))
    table-avoids (thresholds image) =
        let n = image_sites (length image) in
        or_else-avoids (refuse (image_misshapen (length image)) Length) (threshold_blocks_check n image)
        (refuse-avoids (image_misshapen (length image)) Length (other 1 (λ z. omega (arith, z)) (λ z. omega (arith, z))))
        (first-avoids (λ i. threshold_block_check n i i (part 512 i image)) n (λ i. threshold-block-avoids n i (part 512 i image)))

    set-avoids : (t : Groups) (F : ℕ) → Avoids k (set_check t F)
    unfolding set_check outsider
    set-avoids t F =
        let out = not (within F (all_below (sites_of t))) in
        or_else-avoids (groups_check t) (refuse out Set) (table-avoids t) (refuse-avoids out Set (other 10 (λ z. omega (arith, z)) (λ z. omega (arith, z))))

-- the reader: 7
reading-inv : (n : ℕ) (c : Check) (r : Refusal) → to_reading n c ≡ Err r → c ≡ Err r
reading-inv n (Ok _) r e = let z : ◌≡◌ {A = ℕ} 0 1 = cc in absurd (omega (arith, z))
reading-inv n (Err s) r e = ap Err (inner e)
  where
    inner : ◌≡◌ {A = Answer ℕ} (Err s) (Err r) → s ≡ r
    inner p = cc

-- of a check in front of another: what comes behind is asked only where the first is sound
behind : (k : ℕ) (a b : Check) → Avoids k a → (a ≡ Ok tt → Avoids k b) → Avoids k (or_else a b)
behind k (Ok _) b x y = y refl
behind k (Err r) b x y = x

unrefused : (b : Bool) (s : Refusal) → refuse b s ≡ Ok tt → b ≡ false
unrefused true s e = let z : ◌≡◌ {A = ℕ} 0 1 = cc in absurd (omega (arith, z))
unrefused false s e = refl

reader-avoids : (image : List ℕ) (room : ℕ) → Avoids 7 (read_check image room)
unfolding read_check
reader-avoids image room =
    let n = length image / 512 in
    let last = refuse (quorumless n (loads n image)) NoQuorum in
    let blocks = or_else (blocks_check n image) last in
    behind 7 (refuse (image_misshapen (length image)) Length) (or_else (refuse (ltb room (63 * n)) Room) blocks)
    (refuse-avoids 7 (image_misshapen (length image)) Length (λ z. omega (arith, z)))
    (λ a. behind 7 (refuse (ltb room (63 * n)) Room) blocks (refuse-avoids 7 (ltb room (63 * n)) Room (λ z. omega (arith, z)))
    (λ b. behind 7 (blocks_check n image) last (blocks-avoid 7 (inl refl) n image)
    (λ c. let s = blocks-shape (length image) (unrefused (image_misshapen (length image)) Length a) in
    let q = some-quorum n (loads n image) (loads-table n image s.1 s.2 c) in
    subst (λ (x : Bool). Avoids 7 (refuse x NoQuorum)) (sym q) (sound-avoids 7))))

pub seven-never : SevenNever
unfolding read
seven-never image room e = reader-avoids image room NoQuorum (reading-inv (length image / 512) (read_check image room) NoQuorum e) refl

-- the desk: 9
nine-image : (image : List ℕ) → Avoids 9 (read_check image (63 * 64))
unfolding read_check
nine-image image =
    let n = length image / 512 in
    let blocks = or_else (blocks_check n image) (refuse (quorumless n (loads n image)) NoQuorum) in
    behind 9 (refuse (image_misshapen (length image)) Length) (or_else (refuse (ltb (63 * 64) (63 * n)) Room) blocks)
    (refuse-avoids 9 (image_misshapen (length image)) Length (λ z. omega (arith, z)))
    (λ a. let s = blocks-shape (length image) (unrefused (image_misshapen (length image)) Length a) in
    subst (λ (b : Bool). Avoids 9 (or_else (refuse b Room) blocks)) (sym (le-ltb (63 * 64) (63 * n) (omega (arith, s.2))))
    (or_else-avoids 9 (blocks_check n image) (refuse (quorumless n (loads n image)) NoQuorum) (blocks-avoid 9 (inr refl) n image)
    (refuse-avoids 9 (quorumless n (loads n image)) NoQuorum (λ z. omega (arith, z)))))

few_bytes : (many : ℕ) → list_misshapen many ≡ false → many ≤ 16384
unfolding list_misshapen
few_bytes many e = le_of_not_lt (λ h. absurd (over h))
  where
    le_of_not_lt : (16384 < many → ⊥) → many ≤ 16384
    le_of_not_lt f = omega (arith, f)

    over : 16384 < many → ⊥
    over h = false-or (not (eqb (many % 4) 0)) (ltb 16384 many) e (lt-true h)
      where
        lt-true : 16384 < many → ltb 16384 many ≡ true
        lt-true l = lt-ltb 16384 many l

        false-or : (a b : Bool) → (a || b) ≡ false → b ≡ true → ⊥
        false-or true b p q = clash refl p
        false-or false b p q = clash q p

enough : (n many : ℕ) → n ≤ 64 → many ≤ 16384 → roomless n many (width 64) 4096 ≡ false
unfolding roomless
enough n many few short = rw (le-ltb (width 64) (width n) (omega arith), le-ltb 4096 (many / 4) (omega arith)) refl

nine-list : (t : Groups) (F : ℕ) (list : List ℕ) → Avoids 9 (run_check t F (length list) (width 64) 4096)
unfolding run_check
nine-list t F list =
    let n = sites_of t in
    let many = length list in
    let room = refuse (roomless n many (width 64) 4096) Room in
    behind 9 (set_check t F) (or_else (refuse (list_misshapen many) Refusals.Refusal.List) room) (set-avoids 9 (inr refl) t F)
    (λ a. behind 9 (refuse (list_misshapen many) Refusals.Refusal.List) room
    (refuse-avoids 9 (list_misshapen many) Refusals.Refusal.List (λ z. omega (arith, z)))
    (λ b. let few = few-in t (set-checked t F a) in
    let short = few_bytes many (unrefused (list_misshapen many) Refusals.Refusal.List b) in
    subst (λ (x : Bool). Avoids 9 (refuse x Room)) (sym (enough n many few short)) (sound-avoids 9)))

pub nine-never : NineNever
unfolding image_check
nine-never = (
  λ image e. nine-image image Room e refl,
  λ t F list e. nine-list t F list Room e refl,
)
