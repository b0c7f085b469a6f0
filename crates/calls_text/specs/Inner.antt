-- What the functions below the reader ask of each other.
use Rattle.std.specs.Prelude.{ℕ, ◌-◌, cond, List, [], ◌∷◌, ◌++◌, Result, Ok, Err, ltb, length, take, drop}
use Rattle.call_words.specs.Grammar.{hear}
use Rattle.call_words.specs.Word.{meant}
use Rattle.call_words.specs.declared.Heard.{Heard}
use Rattle.call_words.specs.declared.Line.{Line}
use Rattle.call_words.specs.declared.Wanted.{Wanted}
use Rattle.calls_text.specs.Pieces.{says, unreturned}
use Rattle.calls_text.specs.Reading.{Grown}

-- a piece of a line is heard if it is a word
abbrev pub hear_piece : Heard → List ℕ → Heard
hear_piece s [] = s
hear_piece s (b ∷ w) = hear s (meant (b ∷ w))

-- the line from a place to its end
abbrev pub line_at : List ℕ → ℕ → ℕ → Line
line_at text at end = says (cond (ltb end (length text)) (unreturned (take (end - at) (drop at text))) (take (end - at) (drop at text)))

-- how many bytes of calls the room holds then, or what was wanted
abbrev pub took_of : Grown → Result ℕ Wanted
took_of (Ok out) = Ok (length out)
took_of (Err wanted) = Err wanted

abbrev pub took_into : Grown → List ℕ → List ℕ
took_into (Ok out) room = out ++ drop (length out) room
took_into (Err wanted) room = room
