-- A call as a line of words.
use Rattle.std.specs.Prelude.{ℕ, Bool, ◌&&◌, ◌||◌, not, cond, List, [], ◌∷◌, ◌++◌, eqb, ltb}
use Rattle.lines.specs.Lines.{newline}
use Rattle.text.specs.Text.{ascii, decimal}

-- "another kind or side, a proposal with two sites" cannot be said in words
unfoldable pub worded : ℕ → ℕ → ℕ → ℕ → Bool
worded kind from to side = ltb side 2 && (ltb kind 3 && (not (eqb kind 0) || eqb from to))

unfoldable pub kind_name : ℕ → List ℕ
kind_name kind = cond (eqb kind 0) (ascii "propose") (cond (eqb kind 1) (ascii "vote") (ascii "accept"))

unfoldable pub side_name : ℕ → List ℕ
side_name side = cond (eqb side 0) (ascii "drill") (ascii "live")

-- "`propose 0 drill`, `vote 1 0 drill` (from, to), `accept 2 0 live`"; "bytes that are no such call .. as four decimal numbers"
unfoldable pub call_words : ℕ → ℕ → ℕ → ℕ → List (List ℕ)
unfolding decimal worded kind_name side_name
call_words kind from to side =
    cond (worded kind from to side)
    (cond (eqb kind 0)
    (kind_name kind ∷ decimal from ∷ side_name side ∷ [])
    (kind_name kind ∷ decimal from ∷ decimal to ∷ side_name side ∷ []))
    (decimal kind ∷ decimal from ∷ decimal to ∷ decimal side ∷ [])

-- words with one blank between
abbrev pub spaced : List (List ℕ) → List ℕ
spaced [] = []
spaced (w ∷ []) = w
spaced (w ∷ (v ∷ ws)) = w ++ (ascii " " ++ spaced (v ∷ ws))

-- the line of a call
unfoldable pub said_call : ℕ → ℕ → ℕ → ℕ → List ℕ
unfolding call_words
said_call kind from to side = spaced (call_words kind from to side) ++ newline
