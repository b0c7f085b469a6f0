-- From bytes to words. A text is heard byte by byte. A word ends at a blank, a tab, a colon, a bracket, the end of the line or a comment; a line ends with
-- LF or CR LF, so that what follows a CR and is no LF is a word that is none.
use Rattle.std.specs.Prelude.{ℕ, ◌+◌, ◌-◌, ◌*◌, ◌&&◌, ◌||◌, not, cond, eqb, ltb, get_or}
use Rattle.text.specs.Text.{ascii}
use Rattle.threshold_words.specs.declared.Begun.{Begun}
use Rattle.threshold_words.specs.declared.Begun.TheVariants.{Fresh, Gap, Digits, Letters, Oh, Odd, Return, Comment}
use Rattle.threshold_words.specs.declared.Begun.TheVariants.{Of as OhEff}
use Rattle.threshold_words.specs.declared.Sign.{Sign}
use Rattle.threshold_words.specs.declared.Sign.TheVariants.{Line, Note, Colon, Open, Close, Blank, Part}
use Rattle.threshold_words.specs.declared.Sign.TheVariants.{Return as Back}
use Rattle.threshold_words.specs.declared.Token.{Token}
use Rattle.threshold_words.specs.declared.Token.TheVariants.{Silence, Sites, Of, Number, End, Strange}
use Rattle.threshold_words.specs.declared.Token.TheVariants.{Colon as TheColon, Open as TheOpen, Close as TheClose}

-- numbers are decimal: one digit more. 256 stands for every number over 255, so that nothing wraps
unfoldable pub threshold_grown : ℕ → ℕ → ℕ
threshold_grown x d = cond (ltb (10 * x + d) 256) (10 * x + d) 256

unfoldable pub threshold_counts : ℕ → ℕ → Begun
unfolding threshold_grown
threshold_counts x b = cond (ltb b 48 || ltb 57 b) Odd (Digits (threshold_grown x (b - 48)))

-- one letter more of `sites`, of which k letters are there
unfoldable pub threshold_spelt : ℕ → ℕ → Begun
threshold_spelt k b = cond (not (ltb 4 k) && eqb (get_or (ascii "sites") k 0) b) (Letters (k + 1)) Odd

-- the second letter of `of`
unfoldable pub oh : ℕ → Begun
oh b = cond (eqb b 102) OhEff Odd

-- the first byte of a word: the digits are 48 to 57, `o` is 111
unfoldable pub threshold_opens : ℕ → Begun
unfolding threshold_counts threshold_spelt
threshold_opens b = cond (ltb b 58) (threshold_counts 0 b) (cond (eqb b 111) Oh (threshold_spelt 0 b))

-- a byte that is a part of a word
abbrev pub threshold_word_on : Begun → ℕ → Begun
threshold_word_on Fresh b = threshold_opens b
threshold_word_on Gap b = threshold_opens b
threshold_word_on (Digits x) b = threshold_counts x b
threshold_word_on (Letters k) b = threshold_spelt k b
threshold_word_on Oh b = oh b
threshold_word_on OhEff b = Odd
threshold_word_on Odd b = Odd
threshold_word_on Return b = Odd
threshold_word_on Comment b = Comment

-- what a byte is: LF, `#`, `:`, `(`, `)`, CR, blank, tab, or a part of a word
unfoldable pub threshold_plain : ℕ → Sign
threshold_plain b =
    cond (eqb b 10) Line
    (cond (eqb b 35) Note
    (cond (eqb b 58) Colon
    (cond (eqb b 40) Open
    (cond (eqb b 41) Close
    (cond (eqb b 13) Back
    (cond (eqb b 32) Blank
    (cond (eqb b 9) Blank
    Part)))))))

unfoldable pub threshold_or_line : ℕ → Sign → Sign
threshold_or_line b other = cond (eqb b 10) Line other

-- behind a CR all but LF is strange, and in a comment every byte is taken
abbrev pub threshold_sign_of : Begun → ℕ → Sign
threshold_sign_of Fresh b = threshold_plain b
threshold_sign_of Gap b = threshold_plain b
threshold_sign_of (Digits x) b = threshold_plain b
threshold_sign_of (Letters k) b = threshold_plain b
threshold_sign_of Oh b = threshold_plain b
threshold_sign_of OhEff b = threshold_plain b
threshold_sign_of Odd b = threshold_plain b
threshold_sign_of Return b = threshold_or_line b Part
threshold_sign_of Comment b = threshold_or_line b Note

-- what is in hand after the byte
abbrev pub threshold_turn : Sign → Begun → ℕ → Begun
threshold_turn Line w b = Fresh
threshold_turn Note w b = Comment
threshold_turn Colon w b = Gap
threshold_turn Open w b = Gap
threshold_turn Close w b = Gap
threshold_turn Back w b = Return
threshold_turn Blank w b = Gap
threshold_turn Part w b = threshold_word_on w b

-- a word that is complete
unfoldable pub threshold_spelled : ℕ → Token
threshold_spelled k = cond (eqb k 5) Sites Strange

abbrev pub threshold_whole : Begun → Token
threshold_whole Fresh = Silence
threshold_whole Gap = Silence
threshold_whole (Digits x) = Number x
threshold_whole (Letters k) = threshold_spelled k
threshold_whole Oh = Strange
threshold_whole OhEff = Of
threshold_whole Odd = Strange
threshold_whole Return = Silence
threshold_whole Comment = Silence

-- the word that ends at the byte, and what the byte says itself
abbrev pub threshold_ended : Sign → Begun → Token
threshold_ended Line w = threshold_whole w
threshold_ended Note w = threshold_whole w
threshold_ended Colon w = threshold_whole w
threshold_ended Open w = threshold_whole w
threshold_ended Close w = threshold_whole w
threshold_ended Back w = threshold_whole w
threshold_ended Blank w = threshold_whole w
threshold_ended Part w = Silence

abbrev pub threshold_said : Sign → Token
threshold_said Line = End
threshold_said Note = Silence
threshold_said Colon = TheColon
threshold_said Open = TheOpen
threshold_said Close = TheClose
threshold_said Back = Silence
threshold_said Blank = Silence
threshold_said Part = Silence

-- the last line's end may be missing: the end of the text is heard as LF, but not where a line has just begun. A CR there has no LF.
abbrev pub threshold_closing : Begun → Sign
threshold_closing Fresh = Note
threshold_closing Gap = Line
threshold_closing (Digits x) = Line
threshold_closing (Letters k) = Line
threshold_closing Oh = Line
threshold_closing OhEff = Line
threshold_closing Odd = Line
threshold_closing Return = Line
threshold_closing Comment = Line

abbrev pub threshold_stopped : Begun → Begun
threshold_stopped Fresh = Fresh
threshold_stopped Gap = Gap
threshold_stopped (Digits x) = Digits x
threshold_stopped (Letters k) = Letters k
threshold_stopped Oh = Oh
threshold_stopped OhEff = OhEff
threshold_stopped Odd = Odd
threshold_stopped Return = Odd
threshold_stopped Comment = Comment
