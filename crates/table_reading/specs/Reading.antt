-- The reading of a text: byte after byte.
use Rattle.std.specs.Prelude.{ℕ, ◌*◌, Bool, List, [], ◌∷◌, ltb, get_or}
use Rattle.table_words.specs.Words.{sign_of, turn, ended, said, closing, stopped}
use Rattle.table_words.specs.declared.Begun.{Begun}
use Rattle.table_words.specs.declared.Begun.TheVariants.{Fresh}
use Rattle.table_words.specs.declared.Sign.{Sign}
use Rattle.table_grammar.specs.Grammar.{own, spoken}
use Rattle.table_grammar.specs.declared.Phase.TheVariants.{Head}
use Rattle.table_grammar.specs.declared.Spot.{Spot}
use Rattle.table_reading.specs.Groups.{judged, kept}

-- where a reading is: what is in hand, the spot in the grammar, the table so far
pub record Here : Type 0 where
  pub word : Begun
  pub spot : Spot
  pub table : List ℕ

abbrev pub here : Begun → Spot → List ℕ → Here
here w s t = record { word = w; spot = s; table = t }

-- the site whose line is read has 62 groups
abbrev pub full : Spot → List ℕ → Bool
full s t = ltb 61 (get_or t (63 * own s.v) 0)

-- the word that ends at a byte is heard, then the byte itself, which may complete a group
unfoldable pub heard_as : Sign → Begun → Spot → List ℕ → Spot × List ℕ
unfolding judged kept
heard_as c w s t =
    let u = spoken (ended c w) (full s t) s in
    (spoken (said c) (full s t) (judged u (said c) t), kept u (said c) t)

-- after a byte
unfoldable pub hearing : Here → ℕ → Here
unfolding heard_as
hearing h b =
    let c = sign_of h.word b in
    let r = heard_as c h.word h.spot h.table in
    here (turn c h.word b) r.0 r.1

-- after all of them
unfoldable pub read_on : Here → List ℕ → Here
read_on h [] = h
read_on h (b ∷ l) = read_on (hearing h b) l

-- "counted from 1, empty and comment lines too"
abbrev pub start : Spot
start = record { line = 1; n = 0; v = 0; q = 0; phase = Head }

-- the end of the text ends its last line
unfoldable pub finished : Here → Here
unfolding heard_as
finished h =
    let r = heard_as (closing h.word) (stopped h.word) h.spot h.table in
    here Fresh r.0 r.1

-- a text, read into a table of zeros
unfoldable pub text_read : List ℕ → List ℕ → Here
unfolding finished read_on
text_read text zeros = finished (read_on (here Fresh start zeros) text)
