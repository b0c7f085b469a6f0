-- From bytes to words. A text is heard byte by byte. A word ends at a blank, a tab, a colon, a bar, the end of the line or a comment; "a line ends with
-- LF or CR LF", so that what follows a CR and is no LF is a word that is none.
use Rattle.std.specs.Prelude.{ℕ, ◌+◌, ◌-◌, ◌*◌, ◌&&◌, ◌||◌, not, cond, eqb, ltb, get_or}
use Rattle.text.specs.Text.{ascii}
use Rattle.table_words.specs.declared.Begun.{Begun}
use Rattle.table_words.specs.declared.Begun.TheVariants.{Fresh, Gap, Digits, Letters, Odd, Return, Comment}
use Rattle.table_words.specs.declared.Sign.{Sign}
use Rattle.table_words.specs.declared.Sign.TheVariants.{Line, Note, Colon, Bar, Blank, Part}
use Rattle.table_words.specs.declared.Sign.TheVariants.{Return as Back}
use Rattle.table_words.specs.declared.Token.{Token}
use Rattle.table_words.specs.declared.Token.TheVariants.{Silence, Sites, Number, End, Strange}
use Rattle.table_words.specs.declared.Token.TheVariants.{Colon as TheColon, Bar as TheBar}

-- "numbers are decimal": one digit more. 65 stands for every number over 64, so that nothing wraps
unfoldable pub grown : ℕ → ℕ → ℕ
grown x d = cond (ltb (10 * x + d) 65) (10 * x + d) 65

unfoldable pub counts : ℕ → ℕ → Begun
unfolding grown
counts x b = cond (ltb b 48 || ltb 57 b) Odd (Digits (grown x (b - 48)))

-- one letter more of the one word that there is, of which k letters are there
unfoldable pub spelt : ℕ → ℕ → Begun
spelt k b = cond (not (ltb 4 k) && eqb (get_or (ascii "sites") k 0) b) (Letters (k + 1)) Odd

-- the first byte of a word: the digits are 48 to 57
unfoldable pub opens : ℕ → Begun
unfolding counts spelt
opens b = cond (ltb b 58) (counts 0 b) (spelt 0 b)

-- a byte that is a part of a word
abbrev pub word_on : Begun → ℕ → Begun
word_on Fresh b = opens b
word_on Gap b = opens b
word_on (Digits x) b = counts x b
word_on (Letters k) b = spelt k b
word_on Odd b = Odd
word_on Return b = Odd
word_on Comment b = Comment

-- what a byte is: LF, `#`, `:`, `|`, CR, blank, tab, or a part of a word
unfoldable pub plain : ℕ → Sign
plain b =
    cond (eqb b 10) Line
    (cond (eqb b 35) Note
    (cond (eqb b 58) Colon
    (cond (eqb b 124) Bar
    (cond (eqb b 13) Back
    (cond (eqb b 32) Blank
    (cond (eqb b 9) Blank
    Part))))))

unfoldable pub or_line : ℕ → Sign → Sign
or_line b other = cond (eqb b 10) Line other

-- behind a CR all but LF is strange, and "in a comment every byte is taken"
abbrev pub sign_of : Begun → ℕ → Sign
sign_of Fresh b = plain b
sign_of Gap b = plain b
sign_of (Digits x) b = plain b
sign_of (Letters k) b = plain b
sign_of Odd b = plain b
sign_of Return b = or_line b Part
sign_of Comment b = or_line b Note

-- what is in hand after the byte
abbrev pub turn : Sign → Begun → ℕ → Begun
turn Line w b = Fresh
turn Note w b = Comment
turn Colon w b = Gap
turn Bar w b = Gap
turn Back w b = Return
turn Blank w b = Gap
turn Part w b = word_on w b

-- a word that is complete
unfoldable pub spelled : ℕ → Token
spelled k = cond (eqb k 5) Sites Strange

abbrev pub whole : Begun → Token
whole Fresh = Silence
whole Gap = Silence
whole (Digits x) = Number x
whole (Letters k) = spelled k
whole Odd = Strange
whole Return = Silence
whole Comment = Silence

-- the word that ends at the byte, and what the byte says itself
abbrev pub ended : Sign → Begun → Token
ended Line w = whole w
ended Note w = whole w
ended Colon w = whole w
ended Bar w = whole w
ended Back w = whole w
ended Blank w = whole w
ended Part w = Silence

abbrev pub said : Sign → Token
said Line = End
said Note = Silence
said Colon = TheColon
said Bar = TheBar
said Back = Silence
said Blank = Silence
said Part = Silence

-- "the last line's end may be missing": the end of the text is heard as LF, but not where a line has just begun. A CR there has no LF.
abbrev pub closing : Begun → Sign
closing Fresh = Note
closing Gap = Line
closing (Digits x) = Line
closing (Letters k) = Line
closing Odd = Line
closing Return = Line
closing Comment = Line

abbrev pub stopped : Begun → Begun
stopped Fresh = Fresh
stopped Gap = Gap
stopped (Digits x) = Digits x
stopped (Letters k) = Letters k
stopped Odd = Odd
stopped Return = Odd
stopped Comment = Comment
