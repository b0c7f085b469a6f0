-- What the bytes of a shown text do: digits, a blank, a colon, a bar, the end of a line.
use Prim.Native.Nat.{ℕ, ◌-◌, ◌≤◌, ◌<◌}
use mathlib.Core.Bool.{Bool, true, false, ◌&&◌, not}
use mathlib.Core.List.{List, [], ◌∷◌, ◌++◌}
use mathlib.Core.Path.{◌≡◌, refl, sym, ap, subst, ◌∙◌}
use native.Mathlib.Omega.{arith}
use lib.Dec.{eqb, ltb}
use lib.ListN.{length}
use borrow.Author.Tests.{eqb-true, ne_eqb, ltb-true, ltb-false, le-ltb, lt-ltb, not-true}
use Rattle.ground.proofs.Every.{every-at}
use Rattle.ground.proofs.Logic.{and_l, and_r}
use Rattle.ground.specs.Search.{every, least}
use Rattle.table_words.specs.Words.{grown, counts, opens, word_on, plain, sign_of, turn, whole, ended, said}
use Rattle.table_words.specs.declared.Begun.{Begun}
use Rattle.table_words.specs.declared.Begun.TheVariants.{Fresh, Gap, Digits}
use Rattle.table_words.specs.declared.Sign.{Sign}
use Rattle.table_words.specs.declared.Sign.TheVariants.{Line, Blank, Part}
use Rattle.table_words.specs.declared.Sign.TheVariants.{Colon as ColonSign, Bar as BarSign}
use Rattle.table_words.specs.declared.Token.{Token}
use Rattle.table_words.specs.declared.Token.TheVariants.{Number, Colon, Bar, End}
use Rattle.table_grammar.specs.Grammar.{spoken}
use Rattle.table_grammar.specs.declared.Phase.{Phase}
use Rattle.table_grammar.specs.declared.Phase.TheVariants.{Head, Count, Tail, Owner, Mark, First, More, Wrong}
use Rattle.table_grammar.specs.declared.Spot.{Spot}
use Rattle.table_reading.proofs.Steps.{undone, whole-step}
use Rattle.table_reading.specs.Groups.{completes, closes, judged, kept}
use Rattle.table_reading.specs.Reading.{Here, here, full, heard_as, hearing, read_on}
use Rattle.text.specs.Text.{decimal, digit_count}

-- one text behind another
pub read-both : (h : Here) (a b : List ℕ) → read_on h (a ++ b) ≡ read_on (read_on h a) b
unfolding read_on
read-both h [] b = refl
read-both h (x ∷ a) b = read-both (hearing h x) a b

pub read_byte : (h : Here) (b : ℕ) (l : List ℕ) → read_on h (b ∷ l) ≡ read_on (hearing h b) l
unfolding read_on
read_byte h b l = refl

pub read_none : (h : Here) → read_on h [] ≡ h
unfolding read_on
read_none h = refl

-- a byte that completes no group leaves the table
quiet : (p : Phase) (k : Token) → completes k ≡ false → closes p k ≡ false
quiet Head k e = refl
quiet Count k e = refl
quiet Tail k e = refl
quiet Owner k e = refl
quiet Mark k e = refl
quiet First k e = refl
quiet More k e = e
quiet (Wrong w) k e = refl

pub heard-quiet : (c : Sign) (w : Begun) (s : Spot) (t : List ℕ) → completes (said c) ≡ false
    → heard_as c w s t ≡ (spoken (said c) (full s t) (spoken (ended c w) (full s t) s), t)
unfolding heard_as
heard-quiet c w s t e =
    let u : Spot = spoken (ended c w) (full s t) s in
    let z = undone u (said c) t (quiet u.phase (said c) e) in
    rw (sym z.0, sym z.1) refl

-- a digit
unfoldable is_digit : ℕ → Bool
is_digit b = not (ltb b 48) && not (ltb 57 b)

module _ (b : ℕ) (e : is_digit b ≡ true) where
  from : 48 ≤ b
  unfolding is_digit
  from = ltb-false b 48 (not-true (ltb b 48) (and_l (not (ltb b 48)) _ e))

  to : b ≤ 57
  unfolding is_digit
  to = ltb-false 57 b (not-true (ltb 57 b) (and_r (not (ltb b 48)) _ e))

  digit-part : plain b ≡ Part
  unfolding plain
  digit-part =
      let f = from in
      let g = to in
      rw (
        ne_eqb b 10 (λ z. omega arith),
        ne_eqb b 35 (λ z. omega arith),
        ne_eqb b 58 (λ z. omega arith),
        ne_eqb b 124 (λ z. omega arith),
        ne_eqb b 13 (λ z. omega arith),
        ne_eqb b 32 (λ z. omega arith),
        ne_eqb b 9 (λ z. omega arith),
      ) refl

  digit-counts : (x : ℕ) → counts x b ≡ Digits (grown x (b - 48))
  unfolding counts
  digit-counts x = rw (le-ltb b 48 from, le-ltb 57 b to) refl

  digit-opens : opens b ≡ Digits (grown 0 (b - 48))
  unfolding opens
  digit-opens = let g = to in rw (lt-ltb b 58 (omega arith)) (digit-counts 0)

-- a byte by its sign
by_sign : (h : Here) (b : ℕ) (c : Sign) (r : Spot × List ℕ) → sign_of h.word b ≡ c → heard_as c h.word h.spot h.table ≡ r
    → hearing h b ≡ here (turn c h.word b) r.0 r.1
by_sign h b c r e f =
    sym (whole-step h b c (turn c h.word b) r.0 r.1 (sym e) refl (ap (λ (x : Spot × List ℕ). x.0) (sym f)) (ap (λ (x : Spot × List ℕ). x.1) (sym f)))

hear-part : (w : Begun) (s : Spot) (t : List ℕ) (b x : ℕ) → sign_of w b ≡ Part → word_on w b ≡ Digits x → hearing (here w s t) b ≡ here (Digits x) s t
hear-part w s t b x e f = by_sign (here w s t) b Part _ e (heard-quiet Part w s t refl) ∙ ap (λ (y : Begun). here y s t) f

-- a number, digit by digit
unfoldable all_digits : List ℕ → Bool
unfolding is_digit
all_digits [] = true
all_digits (b ∷ l) = is_digit b && all_digits l

unfoldable grown-by : ℕ → List ℕ → ℕ
grown-by x [] = x
grown-by x (b ∷ l) = grown-by (grown x (b - 48)) l

read-digits : (s : Spot) (t : List ℕ) (x : ℕ) (l : List ℕ) → all_digits l ≡ true → read_on (here (Digits x) s t) l ≡ here (Digits (grown-by x l)) s t
unfolding all_digits grown-by
read-digits s t x [] e = read_none (here (Digits x) s t)
read-digits s t x (b ∷ l) e =
    let d = and_l (is_digit b) (all_digits l) e in
    read_byte (here (Digits x) s t) b l
    ∙ ap (λ (h : Here). read_on h l) (hear-part (Digits x) s t b (grown x (b - 48)) (digit-part b d) (digit-counts b d x))
    ∙ read-digits s t (grown x (b - 48)) l (and_r (is_digit b) (all_digits l) e)

-- what is in hand is none of a CR and a comment, and a word may begin
pub record Opens (w : Begun) : Type 0 where
  pub signs : (b : ℕ) → sign_of w b ≡ plain b
  pub starts : (b : ℕ) → word_on w b ≡ opens b

pub fresh : Opens Fresh
fresh = record { signs = λ b. refl; starts = λ b. refl }

pub gap : Opens Gap
gap = record { signs = λ b. refl; starts = λ b. refl }

read_opened : (w : Begun) (s : Spot) (t l : List ℕ) → Opens w → all_digits l ≡ true → 0 < length l → read_on (here w s t) l ≡ here (Digits (grown-by 0 l)) s t
unfolding all_digits grown-by
read_opened w s t [] o e h = absurd (omega arith)
read_opened w s t (b ∷ l) o e h =
    let d = and_l (is_digit b) (all_digits l) e in
    read_byte (here w s t) b l
    ∙ ap (λ (h : Here). read_on h l) (hear-part w s t b (grown 0 (b - 48)) (o.signs b ∙ digit-part b d) (o.starts b ∙ digit-opens b d))
    ∙ read-digits s t (grown 0 (b - 48)) l (and_r (is_digit b) (all_digits l) e)

-- all numbers up to 64 are shown as digits that are heard as these numbers
unfoldable good : ℕ → Bool
unfolding all_digits decimal grown-by
good x = all_digits (decimal x) && (ltb 0 (length (decimal x)) && eqb (grown-by 0 (decimal x)) x)

all-good : every 65 good ≡ true
unfolding every good all_digits is_digit decimal digit_count least grown-by grown
all-good = refl

pub read_number : (w : Begun) (s : Spot) (t : List ℕ) (x : ℕ) → Opens w → x ≤ 64 → read_on (here w s t) (decimal x) ≡ here (Digits x) s t
unfolding good
read_number w s t x o h =
    let g = every-at 65 good all-good x (omega arith) in
    let r = and_r (all_digits (decimal x)) _ g in
    read_opened w s t (decimal x) o (and_l (all_digits (decimal x)) _ g) (ltb-true 0 (length (decimal x)) (and_l (ltb 0 (length (decimal x))) _ r))
    ∙ ap (λ (y : ℕ). here (Digits y) s t) (eqb-true (grown-by 0 (decimal x)) x (and_r (ltb 0 (length (decimal x))) _ r))

-- a word in hand that makes the spot S where it ends
pub record Ready (h : Here) (t : List ℕ) (S : Spot) : Type 0 where
  pub table : h.table ≡ t
  pub signs : (b : ℕ) → sign_of h.word b ≡ plain b
  pub ends : spoken (whole h.word) (full h.spot t) h.spot ≡ S

pub ready-eq : {h : Here} {t : List ℕ} {S : Spot} (g : Here) (R : Spot) → g ≡ h → R ≡ S → Ready h t S → Ready g t R
ready-eq {h} {t} {S} g R e f r = subst (λ (x : Here). Ready x t R) (sym e) (subst (λ (x : Spot). Ready h t x) (sym f) r)

pub ready-gap : (t : List ℕ) (S : Spot) → Ready (here Gap S t) t S
ready-gap t S = record { table = refl; signs = λ b. refl; ends = refl }

pub ready-number : (t : List ℕ) (s : Spot) (x : ℕ) → Ready (here (Digits x) s t) t (spoken (Number x) (full s t) s)
ready-number t s x = record { table = refl; signs = λ b. refl; ends = refl }

module _ (h : Here) (t : List ℕ) (S : Spot) (r : Ready h t S) where
  sign : (b : ℕ) (c : Sign) → plain b ≡ c → sign_of h.word b ≡ c
  sign b c e = r.signs b ∙ e

  ended-as : (c : Sign) → (ended c h.word ≡ whole h.word) → spoken (ended c h.word) (full h.spot h.table) h.spot ≡ S
  ended-as c e =
      ap (λ (k : Token). spoken k (full h.spot h.table) h.spot) e
      ∙ ap (λ (y : List ℕ). spoken (whole h.word) (full h.spot y) h.spot) r.table ∙ r.ends

  -- the word ends, and the byte says nothing that completes a group
  passing : (c : Sign) → ended c h.word ≡ whole h.word → completes (said c) ≡ false
      → heard_as c h.word h.spot h.table ≡ (spoken (said c) (full h.spot t) S, t)
  passing c e f =
      heard-quiet c h.word h.spot h.table f
      ∙ ap (λ (u : Spot). (spoken (said c) (full h.spot h.table) u, h.table)) (ended-as c e)
      ∙ ap (λ (y : List ℕ). (spoken (said c) (full h.spot y) S, y)) r.table

  -- the word ends, and the byte may complete a group
  closing-byte : (c : Sign) → ended c h.word ≡ whole h.word
      → heard_as c h.word h.spot h.table ≡ (spoken (said c) (full h.spot t) (judged S (said c) t), kept S (said c) t)
  unfolding heard_as
  closing-byte c e =
      ap (λ (u : Spot). (spoken (said c) (full h.spot h.table) (judged u (said c) h.table), kept u (said c) h.table)) (ended-as c e)
      ∙ ap (λ (y : List ℕ). (spoken (said c) (full h.spot y) (judged S (said c) y), kept S (said c) y)) r.table

  pub blank : hearing h 32 ≡ here Gap S t
  unfolding plain
  blank = by_sign h 32 Blank _ (sign 32 Blank refl) (passing Blank refl refl)

  pub colon : hearing h 58 ≡ here Gap (spoken Colon (full h.spot t) S) t
  unfolding plain
  colon = by_sign h 58 ColonSign _ (sign 58 ColonSign refl) (passing ColonSign refl refl)

  pub bar : hearing h 124 ≡ here Gap (spoken Bar (full h.spot t) (judged S Bar t)) (kept S Bar t)
  unfolding plain
  bar = by_sign h 124 BarSign _ (sign 124 BarSign refl) (closing-byte BarSign refl)

  pub line : hearing h 10 ≡ here Fresh (spoken End (full h.spot t) (judged S End t)) (kept S End t)
  unfolding plain
  line = by_sign h 10 Line _ (sign 10 Line refl) (closing-byte Line refl)
