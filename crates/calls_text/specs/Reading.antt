-- A text of calls: the list that it makes, or the first line that is none.
use Rattle.std.specs.Prelude.{ℕ, suc, cond, List, [], ◌∷◌, ◌++◌, Result, Ok, Err, ltb, length, drop}
use Rattle.call_words.specs.declared.Line.{Line}
use Rattle.call_words.specs.declared.Line.TheVariants.{Empty, Call}
use Rattle.call_words.specs.declared.Wanted.{Wanted}
use Rattle.calls_text.specs.Pieces.{stops, pieces, says, line_of}
use Rattle.calls_text.specs.declared.Fault.{Fault}

-- the calls so far with those of a line behind them, or what was wanted where the line is wrong
abbrev pub Grown : Type 0
Grown = Result (List ℕ) Wanted

-- fewer calls: "a 4,097th is number 17"; anything else was wanted in the line
abbrev pub with_line : List ℕ → Line → Grown
with_line out Empty = Ok out
with_line out (Call a b c d) = cond (ltb (length out) 16384) (Ok (out ++ (a ∷ b ∷ c ∷ d ∷ []))) (Err Wanted.Fewer)
with_line out (Line.Fault wanted) = Err wanted

abbrev pub fault : ℕ → Wanted → Fault
fault line wanted = record { line = line; wanted = wanted }

-- how many bytes the list has, or the first line that is wrong and what was wanted there; and the calls of all lines before it
pub record Reading : Type 0 where
  pub answer : Result ℕ Fault
  pub bytes : List ℕ

abbrev pub then_on : Grown → (List ℕ → Reading) → (Wanted → Reading) → Reading
then_on (Ok out) on stop = on out
then_on (Err wanted) on stop = stop wanted

-- the lines from number L on, with the calls of those before
abbrev pub reading : ℕ → List ℕ → List (List ℕ) → Reading
reading L out [] = record { answer = Ok (length out); bytes = out }
reading L out (l ∷ ls) =
    then_on (with_line out (says (line_of l ls))) (λ more. reading (suc L) more ls) (λ wanted. record { answer = Err (fault L wanted); bytes = out })

-- a text: "lines counted from 1, empty and comment lines too"
unfoldable pub read_text : List ℕ → Reading
unfolding stops says
read_text text = reading 1 [] (pieces (stops 10) text)

-- what the room holds then: those calls in front, and the rest kept
unfoldable pub text_into : List ℕ → List ℕ → List ℕ
unfolding read_text
text_into text room = (read_text text).bytes ++ drop (length (read_text text).bytes) room
