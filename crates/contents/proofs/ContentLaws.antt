-- Laws of the contents of the sites: one word more, one site more, and the sets that fit all.
use Prim.Native.Nat.{ℕ, ◌+◌, ◌*◌, ◌/◌, ◌%◌, ◌<◌}
use mathlib.Core.Bool.{Bool, true, false, ◌&&◌, ◌||◌, not}
use mathlib.Core.List.{List}
use mathlib.Core.Logic.{⊎_elim}
use mathlib.Core.Path.{◌≡◌, refl, sym, ap, ap₂, ◌∙◌, subst}
use native.Mathlib.Omega.{arith}
use lib.Bits.{bit_and, bit_or}
use lib.ListN.{length, get_or, set, length-set}
use lib.Seq.{get_or-set_same, get_or-set_other}
use Rattle.ground.proofs.Every.{every-suc}
use Rattle.ground.proofs.Numbers.{same?}
use Rattle.ground.specs.Search.{every}
use Rattle.masks.proofs.Laws.Members.{has-and, has-or}
use Rattle.masks.proofs.Laws.Single.{not_in}
use Rattle.masks.specs.Mask.{has}
use Rattle.sets.specs.Slices.{Slices}
use Rattle.set_words.specs.Inner.{Says, in_family, Lacking}
use Rattle.set_words.proofs.WordLaws.{said_at, says_at, says-change}
use Rattle.inside_words.specs.Inner.{fits}
use Rattle.contents.specs.Inner.{Kept, Contents, content, content_at}

module _ (r : Slices) (b : ℕ) where
  -- one word more of site v
  module _ (v w : ℕ) (lv : v < 12) (lw : w < 64) (kept : List ℕ) {words : List ℕ} {rest : ℕ} (s : Says (r.inside v) words) (l : Lacking v w rest) where
    abbrev more : List ℕ
    more = set kept (64 * v + w) (bit_or rest (get_or words w 0))

    other : (y z : ℕ) → z < 64 → (y ≡ v → z ≡ w → ⊥) → get_or more (64 * y + z) 0 ≡ get_or kept (64 * y + z) 0
    other y z lz ne = get_or-set_other kept (64 * v + w) (64 * y + z) (bit_or rest (get_or words w 0)) 0 (λ e. ne (site y z lz e) (word y z lz e))
      where
        site : (y z : ℕ) → z < 64 → 64 * y + z ≡ 64 * v + w → y ≡ v
        site y z lz e = omega arith

        word : (y z : ℕ) → z < 64 → 64 * y + z ≡ 64 * v + w → z ≡ w
        word y z lz e = omega arith

    pub kept-others : Contents r b v kept → Contents r b v more
    kept-others c =
        record {
          long = length-set kept (64 * v + w) (bit_or rest (get_or words w 0)) ∙ c.long;
          each = λ y ly o. record { each = λ z j lz lj. ap (λ (x : ℕ). has x j) (other y z lz (λ e f. not-here y ly e)) ∙ (c.each y ly o).each z j lz lj };
        }
      where
        not-here : (y : ℕ) → y < v → y ≡ v → ⊥
        not-here y l e = omega arith

    pub kept_more : length kept ≡ 768 → Kept r v w kept → Kept r v (w + 1) more
    kept_more long k =
        record {
          each = λ z j lz lj.
              ⊎_elim
              (λ e. subst (λ (y : ℕ). has (get_or more (64 * v + y) 0) j ≡ content r v (y * 64 + j)) (sym e) (here j lj))
              (λ ne. ap (λ (x : ℕ). has x j) (other v z (few z lz) (λ e f. ne f)) ∙ k.each z j (less z lz ne) lj) (same? z w);
        }
      where
        less : (z : ℕ) → z < w + 1 → (z ≡ w → ⊥) → z < w
        less z h ne = omega arith

        few : (z : ℕ) → z < w + 1 → z < 64
        few z h = omega (arith, lw)

        here : (j : ℕ) → j < 64 → has (get_or more (64 * v + w) 0) j ≡ content r v (w * 64 + j)
        here j lj =
            ap (λ (x : ℕ). has x j) (get_or-set_same kept (64 * v + w) (bit_or rest (get_or words w 0)) 0 (omega (arith, long, lv, lw)))
            ∙ has-or rest (get_or words w 0) j ∙ ap₂ (λ x y. x || y) (l.each j lj) (s.each w j lw lj)

  -- the sets that fit one site more

  pub fits-over : {sets : List ℕ} (v : ℕ) → has b v ≡ true → Says (fits r b v) sets → Says (fits r b (v + 1)) sets
  unfolding fits
  fits-over v e =
      says-change
      (λ s l.
      sym (every-suc v (λ y. has b y || (not (has s y) || r.inside y s))
      ∙ ap (λ c. every v (λ y. has b y || (not (has s y) || r.inside y s)) && (c || (not (has s v) || r.inside v s))) e
      ∙ and-t (every v (λ y. has b y || (not (has s y) || r.inside y s)))))
    where
      and-t : (a : Bool) → a && true ≡ a
      and-t true = refl
      and-t false = refl

  pub fits-asked : {old new kept : List ℕ} (v : ℕ) → v < 12 → has b v ≡ false → Contents r b 12 kept → Says (fits r b v) old
      → Says (λ s. in_family old s && content_at kept v s) new → Says (fits r b (v + 1)) new
  unfolding fits content_at
  fits-asked {old} {new} {kept} v lv e c p =
      says-change
      (λ s l.
      ap₂ (λ x y. x && y) (says_at p s l) ((c.each v lv (not_in e)).each (s / 64) (s % 64) (omega arith) (omega arith) ∙ ap (content r v) (whole s))
      ∙ ap (λ x. every v (λ y. has b y || (not (has s y) || r.inside y s)) && (x || (not (has s v) || r.inside v s))) (sym e)
      ∙ sym (every-suc v (λ y. has b y || (not (has s y) || r.inside y s))))
    where
      whole : (s : ℕ) → s / 64 * 64 + s % 64 ≡ s
      whole s = omega arith

-- of a set that one site more is asked of
pub asked : (old kept : List ℕ) (v w : ℕ) {here : ℕ} → here ≡ get_or old w 0 → (j : ℕ) → j < 64
    → has (bit_and here (get_or kept (64 * v + w) 0)) j ≡ in_family old (w * 64 + j) && content_at kept v (w * 64 + j)
unfolding content_at
asked old kept v w {here} e j lj =
    has-and here (get_or kept (64 * v + w) 0) j
    ∙ ap₂ (λ x y. x && y) (ap (λ (x : ℕ). has x j) e ∙ sym (said_at old w j lj)) (ap₂ (λ x y. has (get_or kept (64 * v + x) 0) y) (word w j lj) (bit w j lj))
  where
    word : (w j : ℕ) → j < 64 → w ≡ (w * 64 + j) / 64
    word w j l = omega arith

    bit : (w j : ℕ) → j < 64 → j ≡ (w * 64 + j) % 64
    bit w j l = omega arith
