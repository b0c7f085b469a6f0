-- The reading of a text: byte after byte.
use Rattle.std.specs.Prelude.{ℕ, List, [], ◌∷◌}
use Rattle.threshold_words.specs.Words.{threshold_sign_of, threshold_turn, threshold_ended, threshold_said, threshold_closing, threshold_stopped}
use Rattle.threshold_words.specs.declared.Begun.{Begun}
use Rattle.threshold_words.specs.declared.Begun.TheVariants.{Fresh}
use Rattle.threshold_words.specs.declared.Sign.{Sign}
use Rattle.threshold_words.specs.declared.Token.{Token}
use Rattle.threshold_grammar.specs.Grammar.{outside}
use Rattle.threshold_grammar.specs.declared.Phase.TheVariants.{Head}
use Rattle.threshold_grammar.specs.declared.Spot.{Spot}
use Rattle.threshold_nesting.specs.Nesting.{threshold_spoken}
use Rattle.threshold_reading.specs.Lines.{held, enacted}

-- where a reading is: what is in hand, the spot in the grammar, the sets so far
pub record ThresholdHere : Type 0 where
  pub word : Begun
  pub spot : Spot
  pub lines : List ℕ

abbrev pub threshold_here : Begun → Spot → List ℕ → ThresholdHere
threshold_here w s t = record { word = w; spot = s; lines = t }

-- a word is heard: the spot after it, and the sets
unfoldable pub word_after : Token → Spot → List ℕ → Spot
word_after k s t = threshold_spoken k (held s t) s

unfoldable pub word_leaves : Token → Spot → List ℕ → List ℕ
unfolding word_after
word_leaves k s t = let r = word_after k s t in enacted r.deed r t

-- the word that ends at a byte is heard, then the byte itself
unfoldable pub threshold_heard_as : Sign → Begun → Spot → List ℕ → Spot × List ℕ
unfolding word_after word_leaves
threshold_heard_as c w s t =
    let u = word_after (threshold_ended c w) s t in
    let l = word_leaves (threshold_ended c w) s t in
    (word_after (threshold_said c) u l, word_leaves (threshold_said c) u l)

-- after a byte
unfoldable pub threshold_hearing : ThresholdHere → ℕ → ThresholdHere
unfolding threshold_heard_as
threshold_hearing h b =
    let c = threshold_sign_of h.word b in
    let r = threshold_heard_as c h.word h.spot h.lines in
    threshold_here (threshold_turn c h.word b) r.0 r.1

-- after all of them
unfoldable pub threshold_read_on : ThresholdHere → List ℕ → ThresholdHere
threshold_read_on h [] = h
threshold_read_on h (b ∷ l) = threshold_read_on (threshold_hearing h b) l

-- lines are counted from 1, empty and comment lines too
abbrev pub threshold_start : Spot
threshold_start = outside 1 0 0 Head

-- the end of the text ends its last line
unfoldable pub threshold_finished : ThresholdHere → ThresholdHere
unfolding threshold_heard_as
threshold_finished h =
    let r = threshold_heard_as (threshold_closing h.word) (threshold_stopped h.word) h.spot h.lines in
    threshold_here Fresh r.0 r.1

-- a text, read into zeros
unfoldable pub threshold_text_read : List ℕ → List ℕ → ThresholdHere
unfolding threshold_finished threshold_read_on
threshold_text_read text zeros = threshold_finished (threshold_read_on (threshold_here Fresh threshold_start zeros) text)
