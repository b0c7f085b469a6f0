-- What is shown of a sound table makes the same table.
use Prim.Native.Nat.{ℕ, zero, suc, ◌+◌, ◌-◌, ◌*◌, ◌≤◌, ◌<◌}
use mathlib.Core.Bool.{Bool, cond}
use mathlib.Core.List.{List, [], ◌++◌, append_assoc}
use mathlib.Core.Path.{◌≡◌, refl, sym, ap, ◌∙◌}
use native.Mathlib.Numerals.{add-one}
use native.Mathlib.Omega.{arith}
use lib.ListN.{length, take, drop, replicate, replicate-append-replicate}
use lib.Seq.{length-take-le, take_all, take_at, take-add}
use borrow.Author.Tests.{le-ltb}
use Rattle.ground.proofs.Pieces.{length_part}
use Rattle.ground.specs.Pieces.{cat}
use Rattle.table.proofs.Exact.{checked}
use Rattle.table.proofs.Table.{slice-lt}
use Rattle.table.specs.Table.{site_of, sites, Table}
use Rattle.table_words.specs.Words.{opens, counts, spelt, plain, spelled}
use Rattle.table_words.specs.declared.Begun.TheVariants.{Fresh, Gap, Digits}
use Rattle.table_words.specs.declared.Sign.TheVariants.{Note}
use Rattle.table_words.specs.declared.Token.TheVariants.{Number, End}
use Rattle.table_grammar.specs.Grammar.{many, spoken}
use Rattle.table_grammar.specs.declared.Phase.TheVariants.{Count, Tail, Owner}
use Rattle.table_grammar.specs.declared.Spot.{Spot}
use Rattle.table_reading.proofs.Steps.{undone}
use Rattle.table_reading.specs.Groups.{judged, kept}
use Rattle.table_reading.specs.Reading.{Here, here, full, hearing, read_on, start, finished, text_read}
use Rattle.table_made.specs.Made.{answer_of, made_of, numbers, or_short, made, leaves, table_in}
use Rattle.std.specs.Prelude.{Result, Ok, Err}
use Rattle.table_made.specs.declared.Fault.{Fault}
use Rattle.table_made.specs.declared.Fault.TheVariants.{Room}
use Rattle.table_round.proofs.Group.{spot}
use Rattle.table_round.proofs.Heard.{gap, heard-quiet, read-both, read_byte, read_none, read_number, ready-number, line}
use Rattle.table_round.proofs.Line.{SoundRow, line_read}
use Rattle.table_round.specs.Theorems.{ShowThenMake, ShowThenLeft}
use Rattle.table_shown.specs.Show.{row, rows, head_line, show}
use Rattle.text.specs.Text.{ascii, decimal}

-- the row of site u in a sound table
row_of : (t : List ℕ) (n u : ℕ) → Table t n → u < n → SoundRow n u (site_of t u)
row_of t n u s l =
    record {
      long = length_part 63 u n t l (omega (arith, s.long));
      some = s.some-slice u l;
      few = s.few-slices u l;
      owner = λ i. s.owner u i l;
      below = λ i. slice-lt s u i;
      ascend = λ i. s.ascend u i l;
      unused = λ i. s.unused u i l;
    }

-- `sites` and a blank
word_read : (t : List ℕ) → read_on (here Fresh start t) (ascii "sites ") ≡ here Gap (spot 1 0 0 0 Count) t
unfolding read_on hearing plain opens counts spelt spelled
word_read t = refl

module _ (t : List ℕ) (n : ℕ) (h : 1 ≤ n) (g : n ≤ 64) where
  counted : (b : Bool) → spoken (Number n) b (spot 1 0 0 0 Count) ≡ spot 1 n 0 0 Tail
  unfolding many
  counted b = rw (le-ltb n 1 h, le-ltb 64 n g) refl

  head-end : hearing (here (Digits n) (spot 1 0 0 0 Count) t) 10 ≡ here Fresh (spot 2 n 0 0 Owner) t
  head-end =
      let s : Spot = spot 1 0 0 0 Count in
      let r : Spot = spot 1 n 0 0 Tail in
      let z = undone r End t refl in
      line (here (Digits n) s t) t (spoken (Number n) (full s t) s) (ready-number t s n)
      ∙ ap (λ (x : Spot). here Fresh (spoken End (full s t) (judged x End t)) (kept x End t)) (counted (full s t))
      ∙ ap (λ (x : Spot). here Fresh (spoken End (full s t) x) (kept r End t)) (sym z.0)
      ∙ ap (here Fresh (spot 2 n 0 0 Owner)) (sym z.1)

  head_read : read_on (here Fresh start t) (head_line n) ≡ here Fresh (spot 2 n 0 0 Owner) t
  unfolding head_line
  head_read =
      let s : Spot = spot 1 0 0 0 Count in
      read-both (here Fresh start t) (ascii "sites ") (decimal n ++ ascii "\n")
      ∙ ap (λ (x : Here). read_on x (decimal n ++ ascii "\n")) (word_read t)
      ∙ read-both (here Gap s t) (decimal n) (ascii "\n") ∙ ap (λ (x : Here). read_on x (ascii "\n")) (read_number Gap s t n gap g)
      ∙ read_byte (here (Digits n) s t) 10 [] ∙ read_none (hearing (here (Digits n) s t) 10) ∙ head-end

-- the lines of the first u sites
module _ (t : List ℕ) (n : ℕ) (s : Table t n) where
  abbrev Z : ℕ → List ℕ
  Z u = replicate (63 * (64 - u)) 0

  next-zeros : (u : ℕ) → u < 64 → Z u ≡ replicate 63 0 ++ Z (suc u)
  next-zeros u l =
      let e : 63 * (64 - u) ≡ 63 + 63 * (64 - suc u) = omega arith in
      ap (λ (k : ℕ). replicate k 0) e ∙ sym (replicate-append-replicate 63 (63 * (64 - suc u)) 0)

  next_row : (u : ℕ) → take (63 * u) t ++ (site_of t u ++ Z (suc u)) ≡ take (63 * suc u) t ++ Z (suc u)
  next_row u =
      let e : 63 * u + 63 ≡ 63 * suc u = omega arith in
      sym (append_assoc (take (63 * u) t) (site_of t u) (Z (suc u)))
      ∙ ap (λ (x : List ℕ). x ++ Z (suc u)) (sym (take-add (63 * u) 63 t) ∙ ap (λ (k : ℕ). take k t) e)

  abbrev from : List ℕ → Here
  from z = here Fresh (spot 2 n 0 0 Owner) z

  abbrev after : ℕ → Here
  after u = here Fresh (spot (2 + u) n u 0 Owner) (take (63 * u) t ++ Z u)

  rows-read : (z : List ℕ) → z ≡ Z 0 → (u : ℕ) → u ≤ n → read_on (from z) (cat (λ v. row v (site_of t v)) u) ≡ after u
  unfolding cat
  rows-read z e zero h = read_none (from z) ∙ ap from e
  rows-read z e (suc u) h =
      let A : List ℕ = take (63 * u) t in
      let L = s.long in
      let few = s.few-sites in
      let a : length A ≡ 63 * u = length-take-le (63 * u) t (omega arith) in
      let i : 2 + u + 1 ≡ 2 + suc u = omega arith in
      read-both (from z) (cat (λ v. row v (site_of t v)) u) (row u (site_of t u))
      ∙ ap (λ (x : Here). read_on x (row u (site_of t u))) (rows-read z e u (omega arith))
      ∙ ap (λ (x : List ℕ). read_on (here Fresh (spot (2 + u) n u 0 Owner) (A ++ x)) (row u (site_of t u))) (next-zeros u (omega arith))
      ∙ line_read n u (site_of t u) (row_of t n u s h) A (Z (suc u)) (2 + u) a few h
      ∙ ap (λ (k : ℕ). here Fresh (spot k n (u + 1) 0 Owner) (A ++ (site_of t u ++ Z (suc u)))) i
      ∙ ap (λ (k : ℕ). here Fresh (spot (2 + suc u) n k 0 Owner) (A ++ (site_of t u ++ Z (suc u)))) (add-one u)
      ∙ ap (here Fresh (spot (2 + suc u) n (suc u) 0 Owner)) (next_row u)

  -- the whole text
  shown_read : (z : List ℕ) → z ≡ Z 0 → read_on (here Fresh start z) (head_line n ++ rows t n) ≡ after n
  unfolding rows
  shown_read z e =
      read-both (here Fresh start z) (head_line n) (rows t n)
      ∙ ap (λ (x : Here). read_on x (rows t n)) (head_read z n s.some-site s.few-sites) ∙ rows-read z e n (omega arith)

  done : finished (after n) ≡ after n
  unfolding finished
  done = ap (λ (x : Spot × List ℕ). here Fresh x.0 x.1) (heard-quiet Note Fresh (after n).spot (after n).table refl)

  text-read : (z : List ℕ) → z ≡ Z 0 → text_read (head_line n ++ rows t n) z ≡ after n
  unfolding text_read
  text-read z e = ap finished (shown_read z e) ∙ done

  answer : answer_of (after n).spot ≡ Ok n
  unfolding answer_of
  answer = rw (le-ltb n n (omega arith)) refl

  table : take (63 * n) (after n).table ≡ t
  table =
      let L = s.long in
      let e : take (63 * n) t ≡ t = take_all (63 * n) t (omega arith) in
      take_at (take (63 * n) t) (Z n) (63 * n) (ap length e ∙ L) ∙ e

made_as : (t : List ℕ) (n : ℕ) → Table t n → sites (length t) ≡ n
    → (answer_of (made_of (show t)).spot ≡ Ok n) × (take (63 * n) (made_of (show t)).table ≡ t)
unfolding made_of show
made_as t n s e =
    let h : text_read (head_line (sites (length t)) ++ rows t (sites (length t))) (replicate 4032 0) ≡ after t n s n =
    ap (λ (k : ℕ). text_read (head_line k ++ rows t k) (replicate 4032 0)) e ∙ text-read t n s (replicate 4032 0) refl in
    (ap (λ (x : Here). answer_of x.spot) h ∙ answer t n s, ap (λ (x : Here). take (63 * n) x.table) h ∙ table t n s)

pub show-then-make : ShowThenMake
unfolding table_in
show-then-make t c =
    let m = made_as t (sites (length t)) (checked t c) refl in
    (m.0, ap (λ (x : Result ℕ Fault). take (numbers x) (made_of (show t)).table) m.0 ∙ m.1)

pub show-then-left : ShowThenLeft
unfolding made leaves
show-then-left t room c h =
    let n : ℕ = sites (length t) in
    let s = checked t c in
    let m = made_as t n s refl in
    let L = s.long in
    let e : made (show t) (length room) ≡ Ok n =
    ap (or_short (length room)) m.0 ∙ ap (λ (b : Bool). cond b (Err Room) (Ok n)) (le-ltb (length room) (63 * n) (omega arith)) in (
      e,
      ap (λ (x : Result ℕ Fault). take (numbers x) (made_of (show t)).table ++ drop (numbers x) room) e
          ∙ ap (λ (x : List ℕ). x ++ drop (63 * n) room) m.1 ∙ ap (λ (k : ℕ). t ++ drop k room) (sym L),
    )
