-- Rows of text, one behind the other, and how long they are at most.
use Prim.Native.Nat.{ℕ, zero, suc, ◌+◌, ◌*◌, ◌≤◌, ◌<◌}
use mathlib.Core.Bool.{Bool, true, false, cond}
use mathlib.Core.List.{List, ◌++◌, append_assoc}
use mathlib.Core.Path.{◌≡◌, refl, sym, ap}
use native.Mathlib.Numerals.{add-one}
use native.Mathlib.Omega.{arith}
use lib.Dec.{eqb, ltb}
use borrow.Author.Tests.{lt-ltb, le-ltb}
use lib.ListN.{length, length-append}
use Rattle.ground.proofs.Pieces.{cat-ext}
use Rattle.ground.specs.Pieces.{cat}
use Rattle.lines.proofs.Chain.{as-text}
use Rattle.lines.proofs.Lengths.{length-line}
use Rattle.lines.specs.Lines.{newline, line}
use Rattle.mark.specs.Mark.{mark as mark_of}
use Rattle.masks.specs.Mask.{has}
use Rattle.register.specs.Register.{worth_of, site_line}
use Rattle.text.proofs.Width.{length-decimal}
use Rattle.text.proofs.Written.{then, written-nothing}
use Rattle.text.specs.Text.{ascii, decimal}
use Rattle.text.specs.Written.{Writes}

-- the words of a mark
pub mark-drill : (drill live v : ℕ) → mark_of v drill live ≡ 1 → ascii " drill" ≡ cond (eqb (mark_of v drill live) 1) (ascii " drill") (ascii " live")
mark-drill drill live v e = rw e refl

pub mark-live : (drill live v : ℕ) → eqb (mark_of v drill live) 1 ≡ false → ascii " live" ≡ cond (eqb (mark_of v drill live) 1) (ascii " drill") (ascii " live")
mark-live drill live v e = rw e refl

-- what an entry is worth: one law for each way out
module _ (n F whole v : ℕ) where
  pub worth-faulty : has F v ≡ true → ascii " faulty\n" ≡ worth_of n F whole v ++ newline
  unfolding worth_of
  worth-faulty f = rw f refl

  module _ (f : has F v ≡ false) where
    pub worth-unknown : 12 < n → ascii " unknown\n" ≡ worth_of n F whole v ++ newline
    unfolding worth_of
    worth-unknown l = rw (f, lt-ltb 12 n l) refl

    module _ (l : n ≤ 12) where
      pub worth-intact : has whole v ≡ true → ascii " intact\n" ≡ worth_of n F whole v ++ newline
      unfolding worth_of
      worth-intact w = rw (f, le-ltb 12 n l, w) refl

      pub worth-befouled : has whole v ≡ false → ascii " befouled\n" ≡ worth_of n F whole v ++ newline
      unfolding worth_of
      worth-befouled w = rw (f, le-ltb 12 n l, w) refl

-- above 12 sites the lines do not depend on who is intact
module _ (n F whole other drill live : ℕ) (l : 12 < n) where
  line-above-twelve : (v : ℕ) → site_line n F whole drill live v ≡ site_line n F other drill live v
  unfolding site_line worth_of
  line-above-twelve v = rw (lt-ltb 12 n l) refl

  pub lines-above-twelve : (k : ℕ) → cat (site_line n F whole drill live) k ≡ cat (site_line n F other drill live) k
  lines-above-twelve k = cat-ext (site_line n F whole drill live) (site_line n F other drill live) k (λ v h. line-above-twelve v)

-- the line of a site: its number, the word of the mark, what the entry is worth
pub site-line : (n F whole drill live v : ℕ)
    → ascii "site " ++ (decimal v ++ (cond (eqb (mark_of v drill live) 1) (ascii " drill") (ascii " live") ++ (worth_of n F whole v ++ newline))) ≡ site_line n F whole drill live v
unfolding site_line line
site-line n F whole drill live v = simp append_assoc

-- no row
pub no_row : (f : ℕ → List ℕ) (room : List ℕ) (at : ℕ) → at ≤ length room → Writes (cat f 0) room at at room
unfolding cat
no_row f room at h = record { place = omega arith; memory = sym (written-nothing room at); inside = h }

-- one row more
pub row_more : (f : ℕ → List ℕ) (k : ℕ) {before room after : List ℕ} {at mid end : ℕ}
    → Writes (cat f k) before at mid room → Writes (f k) room mid end after → at ≤ length before → Writes (cat f (k + 1)) before at end after
unfolding cat
row_more f k a b h = as-text (ap (cat f) (sym (add-one k))) (then a b h)

-- rows of at most w bytes each
pub length-rows : (f : ℕ → List ℕ) (w k : ℕ) → ((i : ℕ) → length (f i) ≤ w) → length (cat f k) ≤ w * k
unfolding cat
length-rows f w zero h = omega arith
length-rows f w (suc k) h = rw (length-append (cat f k) (f k)) (omega (arith, length-rows f w k h, h k))

-- how long the words are at most
pub long-mark : (b : Bool) → length (cond b (ascii " drill") (ascii " live")) ≤ 6
long-mark true = omega arith
long-mark false = omega arith

long-worth : (f u w : Bool) → length (cond f (ascii " faulty") (cond u (ascii " unknown") (cond w (ascii " intact") (ascii " befouled")))) ≤ 9
long-worth true u w = omega arith
long-worth false true w = omega arith
long-worth false false true = omega arith
long-worth false false false = omega arith

length-worth : (n F whole v : ℕ) → length (worth_of n F whole v) ≤ 9
unfolding worth_of
length-worth n F whole v = long-worth (has F v) (ltb 12 n) (has whole v)

pub length-site : (n F whole drill live v : ℕ) → length (site_line n F whole drill live v) ≤ 41
unfolding site_line
length-site n F whole drill live v =
    let m = cond (eqb (mark_of v drill live) 1) (ascii " drill") (ascii " live") in
    let w = worth_of n F whole v in
    rw (length-line (ascii "site ") (decimal v ++ (m ++ w))) (omega (
      arith,
      length-append (decimal v) (m ++ w),
      length-append m w,
      length-decimal v,
      long-mark (eqb (mark_of v drill live) 1),
      length-worth n F whole v,
    ))
