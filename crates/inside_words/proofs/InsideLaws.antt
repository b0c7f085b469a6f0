-- Laws of the sets that have a slice inside: how marks and handing on lead to them; and of those in which each member has one.
use Prim.Native.Nat.{ℕ, zero, suc, ◌+◌, ◌-◌, ◌*◌, ◌/◌, ◌%◌, ◌≤◌, ◌<◌}
use mathlib.Core.Bool.{Bool, true, false, ◌&&◌, ◌||◌, not, cond}
use mathlib.Core.List.{List}
use mathlib.Core.Logic.{⊎_elim}
use mathlib.Core.Path.{◌≡◌, refl, sym, ap, ap₂, ◌∙◌, subst}
use native.Mathlib.Nat.{le_refl, not-suc-le-zero, mod-lt}
use native.Mathlib.Omega.{arith}
use lib.Bits.{bit_and, bit_or}
use lib.Dec.{eqb}
use lib.ListN.{length, get_or, set, replicate, length-replicate, get_or-replicate, length-set}
use lib.Pow.{ones_lt}
use lib.Seq.{get_or-set_same, get_or-set_other}
use borrow.Author.Tests.{eqb-true, eqb-false}
use Rattle.ground.proofs.Every.{every-none, every-suc}
use Rattle.ground.proofs.Logic.{iff, is_false, cases}
use Rattle.ground.proofs.Numbers.{same?}
use Rattle.masks.proofs.Laws.AllBelow.{in_all}
use Rattle.masks.proofs.Laws.Members.{has-and, has-or, has-zero}
use Rattle.masks.proofs.Laws.Single.{∈-or, ∈-eq}
use Rattle.masks.proofs.Laws.Subsets.{mem, not-in-zero, ⊆-refl, ⊆-trans, ⊆-within, within-⊆, ∈-below, or-⊆-l, or-⊆-r}
use Rattle.masks.specs.Mask.{has, ◌∈◌, ◌⊆◌}
use Rattle.sets.specs.Slices.{Slices, slices_of}
use Rattle.sets.proofs.Slices.{inside_of, inside-ex}
use Rattle.sets.proofs.Rows.{lists-inside, rows-lawful}
use Rattle.sets.specs.Inner.Rows.{of_sets, Rows, ListedRow, rules_of}
use Rattle.table.specs.Table.{count_of, slice_of}
use Rattle.set_words.specs.Inner.{Says, in_family, Above, Lacking}
use Rattle.spread_words.specs.Inner.{Spread}
use Rattle.set_words.proofs.Places.{parts-⊆, low-⊆, high-⊆}
use Rattle.set_words.proofs.WordLaws.{said_at, says_at, says-change}
use Rattle.inside_words.specs.Inner.{Empty, Marked, Marking, fits}

zeros : (n y : ℕ) → ◌≡◌ {A = ℕ} (get_or (replicate n 0) y 0) 0
zeros zero y = refl
zeros (suc n) zero = refl
zeros (suc n) (suc y) = zeros n y

pub empty-zeros : Empty (replicate 64 0)
empty-zeros = record { long = length-replicate {A = ℕ} 64 0; none = λ w. zeros 64 w }

-- a set in its two parts
whole : (u : ℕ) → u / 64 * 64 + u % 64 ≡ u
whole u = omega arith

module _ (y u : ℕ) (s : y ⊆ u) where
  both : y / 64 * 64 + y % 64 ⊆ u / 64 * 64 + u % 64
  both = subst (λ (z : ℕ). z ⊆ u / 64 * 64 + u % 64) (sym (whole y)) (subst (λ (z : ℕ). y ⊆ z) (sym (whole u)) s)

  high_part : y / 64 ⊆ u / 64
  high_part = high-⊆ 6 (y / 64) (u / 64) (mod-lt y (omega arith)) (mod-lt u (omega arith)) both

  low_part : y % 64 ⊆ u % 64
  low_part = low-⊆ 6 (y / 64) (u / 64) (mod-lt y (omega arith)) (mod-lt u (omega arith)) both

module _ (t : List ℕ) (v : ℕ) where
  pub inside-up : {a b : ℕ} → a ⊆ b → (slices_of t).inside v a ≡ true → (slices_of t).inside v b ≡ true
  inside-up {a} s e = let r = inside-ex t v a e in inside_of t v r.0 r.1 (⊆-trans r.2 s)

  -- the marks: none, one slice more

  pub marked-none : {words : List ℕ} → Empty words → Marked t v 0 words
  marked-none h = record { long = h.long; right = λ w j l k. absurd (not-in-zero (∈-eq (h.none w) k)); each = λ k j l. absurd (not-suc-le-zero l) }

  pub marked_more : {list words : List ℕ} (i : ℕ) → Above 64 list → i < count_of t v → slice_of t v i < 4096 → Marked t v i words
      → Marked t v (i + 1) (set words (slice_of t v i / 64) (bit_or (get_or words (slice_of t v i / 64) 0) (get_or list (slice_of t v i % 64) 0)))
  marked_more {list} {words} i a own below m =
      record {
        long = length-set words w new ∙ m.long;
        right = λ y j l h.
            ⊎_elim
            (λ e.
            subst (λ (z : ℕ). (slices_of t).inside v (z * 64 + j) ≡ true) (sym e)
            (⊎_elim (λ k. m.right w j l k) (λ k. fresh j l k) (∈-or old more (∈-eq (ap (λ (z : ℕ). get_or (set words w new) z 0) e ∙ get_or-set_same words w new 0 short) h))))
            (λ ne. m.right y j l (∈-eq (get_or-set_other words w y new 0 ne) h)) (same? y w);
        each = λ k j lk l s.
            ⊎_elim (λ e. subst (λ (z : ℕ). j ∈ get_or (set words w new) (slice_of t v z / 64) 0) (sym e) (marks j l (subst (λ (z : ℕ). slice_of t v z % 64 ⊆ j) e s)))
            (λ ne. kept (slice_of t v k / 64) j (m.each k j (less k lk ne) l s)) (same? k i);
      }
    where
      q : ℕ
      q = slice_of t v i

      w : ℕ
      w = q / 64

      old : ℕ
      old = get_or words w 0

      more : ℕ
      more = get_or list (q % 64) 0

      new : ℕ
      new = bit_or old more

      short : w < length words
      short = subst (λ (k : ℕ). w < k) (sym m.long) (part below)
        where
          part : q < 4096 → q / 64 < 64
          part b = omega arith

      fresh : (j : ℕ) → j < 64 → j ∈ more → (slices_of t).inside v (w * 64 + j) ≡ true
      fresh j l h =
          inside_of t v i own
          (subst (λ (z : ℕ). z ⊆ w * 64 + j) (whole q)
          (parts-⊆ 6 w w (mod-lt q (omega arith)) l (⊆-refl w) (within-⊆ (q % 64) j (sym (a.each (q % 64) j (mod-lt q (omega arith)) l) ∙ h.holds))))

      marks : (j : ℕ) → j < 64 → q % 64 ⊆ j → j ∈ get_or (set words w new) w 0
      marks j l s = ∈-eq (sym (get_or-set_same words w new 0 short)) ((or-⊆-r old more).each j (mem (a.each (q % 64) j (mod-lt q (omega arith)) l ∙ ⊆-within s)))

      kept : (y j : ℕ) → j ∈ get_or words y 0 → j ∈ get_or (set words w new) y 0
      kept y j h =
          ⊎_elim
          (λ e. ∈-eq (sym (ap (λ (z : ℕ). get_or (set words w new) z 0) e ∙ get_or-set_same words w new 0 short)) ((or-⊆-l old more).each j (∈-eq (ap (λ (z : ℕ). get_or words z 0) e) h)))
          (λ ne. ∈-eq (sym (get_or-set_other words w y new 0 ne)) h) (same? y w)

      less : (k : ℕ) → k < i + 1 → (k ≡ i → ⊥) → k < i
      less k h ne = omega arith

  pub marking-none : {words : List ℕ} → Empty words → Marking t v 0 0 0 words
  marking-none h = record { marked = marked-none h; here = h.none 0; behind = λ y l. h.none y; next = λ k l lk. omega arith }

  -- with all slices marked, and handed on
  pub marked-spread : {old new : List ℕ} → Marked t v (count_of t v) old → Spread old new → Says ((slices_of t).inside v) new
  marked-spread {old} {new} m s =
      record {
        long = s.long;
        each = λ w j lw lj.
            iff (has (get_or new w 0) j) ((slices_of t).inside v (w * 64 + j))
            (λ e. let r = s.right w j lw (mem e) in inside-up (parts-⊆ 6 r.0 w lj lj r.1 (⊆-refl j)) (m.right r.0 j lj r.2))
            (λ e.
            let r = inside-ex t v (w * 64 + j) e in
            let q = slice_of t v r.0 in
            ((s.full (q / 64) w lw (subst (λ (z : ℕ). q / 64 ⊆ z) (word w j lj) (high_part q (w * 64 + j) r.2))
            ).each j (m.each r.0 j r.1 lj (subst (λ (z : ℕ). q % 64 ⊆ z) (bit w j lj) (low_part q (w * 64 + j) r.2)))).holds);
      }
    where
      word : (w j : ℕ) → j < 64 → (w * 64 + j) / 64 ≡ w
      word w j l = omega arith

      bit : (w j : ℕ) → j < 64 → (w * 64 + j) % 64 ≡ j
      bit w j l = omega arith

-- slices ascend

module _ {t : List ℕ} {n v : ℕ} (row : ListedRow t n v) where
  ascend-by : (i d : ℕ) → i + d < count_of t v → slice_of t v i ≤ slice_of t v (i + d)
  ascend-by i zero l = subst (λ (k : ℕ). slice_of t v i ≤ slice_of t v k) (plus_none i) (le_refl (slice_of t v i))
    where
      plus_none : (k : ℕ) → k ≡ k + zero
      plus_none k = omega arith
  ascend-by i (suc d) l =
      subst (λ (k : ℕ). slice_of t v i ≤ slice_of t v k) (next i d)
      (more (ascend-by i d (less l)) (row.ascend (i + d) (subst (λ (k : ℕ). k < count_of t v) (sym (next i d)) l)))
    where
      next : (i d : ℕ) → suc (i + d) ≡ i + suc d
      next i d = omega arith

      less : i + suc d < count_of t v → i + d < count_of t v
      less l = omega arith

      more : {a b c : ℕ} → a ≤ b → b < c → a ≤ c
      more p q = omega arith

  pub ascend-le : (i k : ℕ) → i ≤ k → k < count_of t v → slice_of t v i ≤ slice_of t v k
  ascend-le i k l h = subst (λ (y : ℕ). slice_of t v i ≤ slice_of t v y) (back l) (ascend-by i (k - i) (subst (λ (y : ℕ). y < count_of t v) (sym (back l)) h))
    where
      back : i ≤ k → i + (k - i) ≡ k
      back l = omega arith

  -- one slice more
  pub marking-more : {list words : List ℕ} (i at word : ℕ) → Above 64 list → i < count_of t v → slice_of t v i < 4096 → Marking t v i at word words
      → Marking t v (i + 1) (slice_of t v i / 64) (bit_or (cond (eqb (slice_of t v i / 64) at) word 0) (get_or list (slice_of t v i % 64) 0))
      (set words (slice_of t v i / 64) (bit_or (cond (eqb (slice_of t v i / 64) at) word 0) (get_or list (slice_of t v i % 64) 0)))
  marking-more {list} {words} i at word a own below m =
      subst (λ (x : ℕ). Marking t v (i + 1) w (bit_or x more) (set words w (bit_or x more))) old
      (record {
        marked = marked_more t v i a own below m.marked;
        here = get_or-set_same words w (bit_or (get_or words w 0) more) 0 short;
        behind = λ y l. get_or-set_other words w y (bit_or (get_or words w 0) more) 0 (λ e. bad l e) ∙ m.behind y (far (m.next i (le_refl i) own) l);
        next = λ k l lk. part (ascend-le i k (less l) lk);
      })
    where
      w : ℕ
      w = slice_of t v i / 64

      more : ℕ
      more = get_or list (slice_of t v i % 64) 0

      old : get_or words w 0 ≡ cond (eqb w at) word 0
      old =
          ⊎_elim (λ e. ap (λ (y : ℕ). get_or words y 0) (eqb-true w at e) ∙ m.here ∙ sym (ap (λ (c : Bool). cond c word 0) e))
          (λ e. m.behind w (apart (m.next i (le_refl i) own) (eqb-false w at e)) ∙ sym (ap (λ (c : Bool). cond c word 0) e)) (cases (eqb w at))
        where
          apart : at ≤ w → (w ≡ at → ⊥) → at < w
          apart l ne = omega arith

      short : w < length words
      short = subst (λ (k : ℕ). w < k) (sym m.marked.long) (word-few below)
        where
          word-few : slice_of t v i < 4096 → slice_of t v i / 64 < 64
          word-few b = omega arith

      bad : {y : ℕ} → w < y → y ≡ w → ⊥
      bad l e = omega arith

      far : {y : ℕ} → at ≤ w → w < y → at < y
      far l h = omega arith

      less : {k : ℕ} → i + 1 ≤ k → i ≤ k
      less l = omega arith

      part : {a b : ℕ} → a ≤ b → a / 64 ≤ b / 64
      part l = omega arith

-- who has a slice is a site
pub inside-site : {t : List ℕ} {n : ℕ} → Rows t n → (v u : ℕ) → (rules_of t).inside v u ≡ true → v < n
inside-site {t} {n} rows v u e = let x = (rows-lawful rows).slice_inside v u e in ∈-below (ones_lt n) (x.1.1.each v x.1.2)

-- by the rows' rules: of a listed row, and of a site that is none

module _ {t : List ℕ} {n : ℕ} (rows : Rows t n) (v : ℕ) where
  pub says-listed : {words : List ℕ} → of_sets t v ≡ false → Says ((slices_of t).inside v) words → Says ((rules_of t).inside v) words
  says-listed o = says-change (λ s ls. sym (lists-inside t v o s))

  pub says-nobody : {words : List ℕ} → n ≤ v → Empty words → Says ((rules_of t).inside v) words
  says-nobody l h =
      record {
        long = h.long;
        each = λ w j lw lj. ap (λ (x : ℕ). has x j) (h.none w) ∙ has-zero j ∙ sym (is_false ((rules_of t).inside v (w * 64 + j)) (λ e. none (inside-site rows v (w * 64 + j) e)));
      }
    where
      none : v < n → ⊥
      none h = omega arith

-- all sets, and those in which one site more has a slice

pub fits-none : (r : Slices) (b : ℕ) → Says (fits r b 0) (replicate 64 18446744073709551615)
unfolding fits
fits-none r b =
    record {
      long = length-replicate {A = ℕ} 64 18446744073709551615;
      each = λ w j lw lj. ap (λ (x : ℕ). has x j) (get_or-replicate 64 w 18446744073709551615 0 lw) ∙ (in_all lj).holds ∙ sym (every-none (λ v. has b v || (not (has (w * 64 + j) v) || r.inside v (w * 64 + j))));
    }

-- of a set that one site more is asked of
pub narrowed : (old words : List ℕ) (v w : ℕ) {here rest : ℕ} → here ≡ get_or old w 0 → Lacking v w rest → (j : ℕ) → j < 64
    → has (bit_and here (bit_or rest (get_or words w 0))) j ≡ in_family old (w * 64 + j) && (not (has (w * 64 + j) v) || in_family words (w * 64 + j))
narrowed old words v w {here} {rest} e l j lj =
    has-and here (bit_or rest (get_or words w 0)) j
    ∙ ap₂ (λ a b. a && b) (ap (λ (x : ℕ). has x j) e ∙ sym (said_at old w j lj))
    (has-or rest (get_or words w 0) j ∙ ap₂ (λ a b. a || b) (l.each j lj) (sym (said_at words w j lj)))

module _ (r : Slices) (v : ℕ) {old words new : List ℕ} where
  pub fits_more : Says (fits r 0 v) old → Says (r.inside v) words → Says (λ s. in_family old s && (not (has s v) || in_family words s)) new → Says (fits r 0 (v + 1)) new
  unfolding fits
  fits_more p q =
      says-change
      (λ s l.
      ap₂ (λ a b. a && (not (has s v) || b)) (says_at p s l) (says_at q s l)
      ∙ ap (λ c. fits r 0 v s && c) (ap (λ c. c || (not (has s v) || r.inside v s)) (sym (has-zero v)))
      ∙ sym (every-suc v (λ y. has 0 y || (not (has s y) || r.inside y s))))
