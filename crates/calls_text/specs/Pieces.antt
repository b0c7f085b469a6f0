-- A text in lines, and a line in words.
use Rattle.std.specs.Prelude.{ℕ, suc, ◌-◌, Bool, ◌&&◌, ◌||◌, cond, List, [], ◌∷◌, eqb, length, take, get_or}
use Rattle.call_words.specs.Grammar.{hear_all}
use Rattle.call_words.specs.declared.Heard.TheVariants.{Nothing}
use Rattle.call_words.specs.declared.Line.{Line}

-- the byte ends a line (10, line feed), begins a comment (35, `#`), or parts words (32): "blanks, tabs, commas or semicolons"
unfoldable pub stops : ℕ → ℕ → Bool
stops kind b = eqb b kind || (eqb kind 32 && (eqb b 9 || (eqb b 44 || eqb b 59)))

-- how many bytes stand before the first that stops
abbrev pub upto : (ℕ → Bool) → List ℕ → ℕ
upto stop [] = 0
upto stop (b ∷ t) = cond (stop b) 0 (suc (upto stop t))

-- a byte in front of the first piece
abbrev pub onto : ℕ → List (List ℕ) → List (List ℕ)
onto b [] = (b ∷ []) ∷ []
onto b (p ∷ ps) = (b ∷ p) ∷ ps

-- the pieces between the bytes that stop, empty ones too
abbrev pub pieces : (ℕ → Bool) → List ℕ → List (List ℕ)
pieces stop [] = [] ∷ []
pieces stop (b ∷ t) = cond (stop b) ([] ∷ pieces stop t) (onto b (pieces stop t))

-- "any run" of partings: empty pieces are no words
abbrev pub filled : List (List ℕ) → List (List ℕ)
filled [] = []
filled ([] ∷ ps) = filled ps
filled ((b ∷ p) ∷ ps) = (b ∷ p) ∷ filled ps

-- what a line says, without its end: its words up to a comment, "in a comment every byte is taken"
unfoldable pub says : List ℕ → Line
unfolding stops
says line = hear_all Nothing (filled (pieces (stops 32) (take (upto (stops 35) line) line)))

-- "a line ends with LF or CR LF": where a line feed comes behind it, a line without the CR that is its last byte
unfoldable pub unreturned : List ℕ → List ℕ
unreturned line = cond (eqb (get_or line (length line - 1) 0) 13) (take (length line - 1) line) line

-- a line, of which those behind it are known: the last of a text has no end, and nothing of it is cut off
abbrev pub line_of : List ℕ → List (List ℕ) → List ℕ
line_of line [] = line
line_of line (p ∷ ps) = unreturned line
