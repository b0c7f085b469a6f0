-- What the words of a line say of a call.
--
--   line = nothing
--        | `propose` site side                    the call 0, site, site, side
--        | `vote` site site side                  the call 1, from, to, side
--        | `accept` site site side                the call 2, from, to, side
--        | number number number number            the call of these four bytes
--   site and number are 0 to 255; side is `drill`, 0, or `live`, 1
use Rattle.std.specs.Prelude.{ℕ, cond, List, [], ◌∷◌, eqb}
use Rattle.call_words.specs.Word.{meant}
use Rattle.call_words.specs.declared.Heard.{Heard}
use Rattle.call_words.specs.declared.Heard.TheVariants.{Nothing, Kind, From, Ends, One, Two, Three, Whole, Wrong}
use Rattle.call_words.specs.declared.Line.{Line}
use Rattle.call_words.specs.declared.Line.TheVariants.{Empty, Fault}
use Rattle.call_words.specs.declared.Wanted.{Wanted}
use Rattle.call_words.specs.declared.Word.{Word}

-- the first word is a kind of call or a number
abbrev pub first_word : Word → Heard
first_word (Word.Number n) = One n
first_word (Word.Kind kind) = Kind kind
first_word (Word.Side side) = Wrong Wanted.Kind
first_word Word.Other = Wrong Wanted.Kind

-- a number, where one is wanted
abbrev pub with_number : Word → (ℕ → Heard) → Heard
with_number (Word.Number n) heard = heard n
with_number (Word.Kind kind) heard = Wrong Wanted.Number
with_number (Word.Side side) heard = Wrong Wanted.Number
with_number Word.Other heard = Wrong Wanted.Number

-- a side, where one is wanted
abbrev pub with_side : Word → (ℕ → Heard) → Heard
with_side (Word.Number n) heard = Wrong Wanted.Side
with_side (Word.Kind kind) heard = Wrong Wanted.Side
with_side (Word.Side side) heard = heard side
with_side Word.Other heard = Wrong Wanted.Side

-- one word more, or what was wanted where the word does not fit. Behind a whole call the end of the line is wanted.
unfoldable pub hear : Heard → Word → Heard
hear Nothing w = first_word w
hear (Kind kind) w = with_number w (λ n. cond (eqb kind 0) (Ends 0 n n) (From kind n))
hear (From kind from) w = with_number w (λ n. Ends kind from n)
hear (Ends kind from to) w = with_side w (λ side. Whole kind from to side)
hear (One a) w = with_number w (λ n. Two a n)
hear (Two a b) w = with_number w (λ n. Three a b n)
hear (Three a b c) w = with_number w (λ n. Whole a b c n)
hear (Whole a b c d) w = Wrong Wanted.End
hear (Wrong what) w = Wrong what

-- the end of the line: nothing, a whole call, or what was wanted there
unfoldable pub closed : Heard → Line
closed Nothing = Empty
closed (Kind kind) = Fault Wanted.Number
closed (From kind from) = Fault Wanted.Number
closed (Ends kind from to) = Fault Wanted.Side
closed (One a) = Fault Wanted.Number
closed (Two a b) = Fault Wanted.Number
closed (Three a b c) = Fault Wanted.Number
closed (Whole a b c d) = Line.Call a b c d
closed (Wrong what) = Fault what

-- the words of a line, one after the other
abbrev pub hear_all : Heard → List (List ℕ) → Line
hear_all s [] = closed s
hear_all s (w ∷ ws) = hear_all (hear s (meant w)) ws
