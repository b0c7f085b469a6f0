-- The ways out of the report of a risk, one law for each; and how long its lines are at most.
use Rattle.std.specs.Prelude.{Ok, Err}
use Prim.Native.Nat.{ℕ, ◌*◌, ◌≤◌, ◌<◌}
use mathlib.Core.List.{List, ◌++◌, append_assoc}
use mathlib.Core.Path.{◌≡◌, refl, sym, ap, ◌∙◌}
use native.Mathlib.Omega.{arith}
use lib.ListN.{length, drop, take, length-append}
use borrow.Author.Tests.{lt-ltb, le-ltb}
use Rattle.check_text.proofs.Ways.{image-sound, image-refused}
use Rattle.ground.specs.Pieces.{cat}
use Rattle.image.specs.Read.{read, read_into}
use Rattle.image_blocks.proofs.Load.{loads-front}
use Rattle.image_blocks.specs.Image.{loads}
use Rattle.lines.proofs.Lengths.{length-line}
use Rattle.lines.specs.Lines.{newline, line}
use Rattle.masks.specs.Mask.{size}
use Rattle.refusal_lines.specs.Refused.{explained}
use Rattle.refusals.specs.declared.Refusal.{Refusal}
use Rattle.refusals.specs.declared.Refusal.TheVariants.{Large}
use Rattle.risk.proofs.RiskLaws.{first-counts}
use Rattle.risk.specs.Risk.{taken_along, first_ruin}
use Rattle.sets.proofs.Groups.{same-rules}
use Rattle.sets.specs.Groups.{Groups, lists, sites_of, slices_in, groups_check, Checked}
use Rattle.sets.specs.Inner.Rows.{rules_of}
use Rattle.sets.specs.Slices.{Slices}
use Rattle.text.proofs.Width.{length-decimal}
use Rattle.text.specs.Text.{ascii, decimal}
use Rattle.risk_text.specs.Inner.{risk_read, first_lines}
use Rattle.risk_text.specs.RiskText.{risk_line, risk_lines, risk_text}

-- a word, a number, and a line of a blank and a number are a line of the word and both
grouped : (A B C D E : List ℕ) → A ++ (B ++ (C ++ (D ++ E))) ≡ A ++ ((B ++ (C ++ D)) ++ E)
grouped A B C D E = simp append_assoc

module _ (r : Slices) (n : ℕ) where
  pub site-line : (v k : ℕ) → k ≡ taken_along r n v → ascii "site " ++ (decimal v ++ line (ascii " ") (decimal k)) ≡ risk_line r n v
  unfolding risk_line line
  site-line v k e = rw e (grouped (ascii "site ") (decimal v) (ascii " ") (decimal (taken_along r n v)) newline)

  pub length-site : (v : ℕ) → length (risk_line r n v) ≤ 47
  unfolding risk_line
  length-site v =
      let k = taken_along r n v in
      omega (
        arith,
        length-line (ascii "site ") (decimal v ++ (ascii " " ++ decimal k)),
        length-append (decimal v) (ascii " " ++ decimal k),
        length-append (ascii " ") (decimal k),
        length-decimal v,
        length-decimal k,
      )

  pub all_lines : (first : ℕ) → first ≡ first_ruin r n → cat (risk_line r n) n ++ first_lines (size first) first ≡ risk_lines n r
  unfolding risk_lines first_lines
  all_lines first e = rw (e, first-counts r n) refl

-- on a table that is read
module _ (t : Groups) where
  pub read-refused : (r : Refusal) → groups_check t ≡ Err r → explained r ≡ risk_read t
  unfolding risk_read
  read-refused r e = rw e refl

  pub read-large : Checked t → 12 < sites_of t → explained Large ≡ risk_read t
  unfolding risk_read
  read-large e l = rw (e, lt-ltb 12 (sites_of t) l) refl

  table-lines : Checked t → sites_of t ≤ 12 → risk_lines (sites_of t) (slices_in t) ≡ risk_read t
  unfolding risk_read
  table-lines e l = rw (e, le-ltb 12 (sites_of t) l) refl

-- its rows say the same
pub read-lines : (t : List ℕ) → Checked (lists t) → sites_of (lists t) ≤ 12 → risk_lines (sites_of (lists t)) (rules_of t) ≡ risk_read (lists t)
read-lines t e l = ap (risk_lines (sites_of (lists t))) (same-rules t e) ∙ table-lines (lists t) e l

-- on an image
module _ (image : List ℕ) where
  pub risk-refused : (r : Refusal) → read image 4032 ≡ Err r → explained r ≡ risk_text image
  unfolding risk_text
  risk-refused r h = rw (image-refused image r h) refl

  pub risk-taken : (n : ℕ) (t room : List ℕ) → read image 4032 ≡ Ok n → t ≡ take (63 * n) (read_into (Ok n) image room)
      → risk_read (lists t) ≡ risk_text image
  unfolding risk_text risk_read read_into
  risk-taken n t room h e =
      let s = image-sound image n h in
      ap (λ (x : List ℕ). risk_read (lists x)) (e ∙ loads-front n image (drop (63 * n) room) ∙ ap (λ (k : ℕ). loads k image) (sym s.1)) ∙ rw s.0 refl
