-- What a text is, and what it leaves in a lent room: the image of a table of thresholds, or nothing.
use Rattle.std.specs.Prelude.{ℕ, ◌*◌, Bool, false, not, cond, List, ◌++◌, ltb, length, drop, replicate, Result, Ok, Err}
use Rattle.ground.specs.Pieces.{cat}
use Rattle.threshold_grammar.specs.Grammar.{threshold_expected}
use Rattle.threshold_grammar.specs.declared.Phase.{Phase}
use Rattle.threshold_grammar.specs.declared.Phase.TheVariants.{Head, Count, Tail, Owner, Mark, Threshold, Of, Members, Wrong}
use Rattle.threshold_grammar.specs.declared.Spot.{Spot}
use Rattle.threshold_reading.specs.Lines.{sets_heard}
use Rattle.threshold_reading.specs.Reading.{ThresholdHere, threshold_text_read}
use Rattle.threshold_write.specs.Store.{store_sets}
use Rattle.threshold_made.specs.declared.Fault.{Fault}
use Rattle.threshold_made.specs.declared.Fault.TheVariants.{Line, Room}

-- all lines of sites were there, and no more are expected
abbrev pub threshold_is_whole : Phase → Bool → Bool
threshold_is_whole Head more = false
threshold_is_whole Count more = false
threshold_is_whole Tail more = false
threshold_is_whole Owner more = not more
threshold_is_whole Mark more = false
threshold_is_whole Threshold more = false
threshold_is_whole Of more = false
threshold_is_whole Members more = false
threshold_is_whole (Wrong why) more = false

-- a table, or the first fault. Where the text ends too early every line was passed: the fault is in the line after its last
unfoldable pub threshold_answer_of : Spot → Result ℕ Fault
threshold_answer_of s =
    cond (threshold_is_whole s.phase (ltb s.v s.n))
    (Ok s.n)
    (Err (Line s.line (threshold_expected s.phase (ltb s.v s.n) (ltb 1 s.depth))))

-- the text is read into 64 times 148 zeros
unfoldable pub threshold_made_of : List ℕ → ThresholdHere
unfolding threshold_text_read
threshold_made_of text = threshold_text_read text (replicate 9472 0)

abbrev pub made_blocks : Result ℕ Fault → ℕ
made_blocks (Ok n) = n
made_blocks (Err fault) = 0

-- 9: "room lent too short"
abbrev pub threshold_or_short : ℕ → Result ℕ Fault → Result ℕ Fault
threshold_or_short room m = cond (ltb room (512 * made_blocks m)) (Err Room) m

-- the answer for a text and a room of so many bytes
unfoldable pub threshold_made : List ℕ → ℕ → Result ℕ Fault
unfolding threshold_answer_of threshold_made_of
threshold_made text room = threshold_or_short room (threshold_answer_of (threshold_made_of text).spot)

-- the first k blocks of a table of n sites, whose sets the lines hold
unfoldable pub image_to : ℕ → List ℕ → ℕ → List ℕ
unfolding store_sets cat
image_to n lines k = cat (λ v. store_sets n v (sets_heard lines v)) k

-- the room after it: the image in its first bytes and the rest kept; where there is none all is kept
unfoldable pub threshold_leaves : List ℕ → List ℕ → List ℕ
unfolding threshold_made threshold_made_of image_to
threshold_leaves text room =
    let k = made_blocks (threshold_made text (length room)) in
    image_to k (threshold_made_of text).lines k ++ drop (512 * k) room

-- the image that a text is
unfoldable pub image_made : List ℕ → List ℕ
unfolding threshold_answer_of threshold_made_of image_to
image_made text = let k = made_blocks (threshold_answer_of (threshold_made_of text).spot) in image_to k (threshold_made_of text).lines k
