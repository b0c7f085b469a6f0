-- Writing a list as a journal into a lent room: the answer, and what the room holds then.
use Rattle.std.specs.Prelude.{ℕ, ◌*◌, List, ◌++◌, Ok, Err, ltb, length, drop}
use Rattle.journal_blocks.specs.Journal.{blocks_for, journal_of}
use Rattle.refusals.specs.First.{or_else, refuse}
use Rattle.refusals.specs.Check.{Answer, Check}
use Rattle.refusals.specs.declared.Refusal.{Refusal}
use Rattle.refusals.specs.declared.Refusal.TheVariants.{Room}
use Rattle.run.specs.Run.{list_misshapen}

-- "writer 17, 9"
unfoldable pub keep_check : List ℕ → ℕ → Check
unfolding list_misshapen
keep_check list room = or_else (refuse (list_misshapen (length list)) Refusal.List) (refuse (ltb room (512 * blocks_for (length list))) Room)

abbrev pub to_kept : ℕ → Check → Answer ℕ
to_kept blocks (Ok _) = Ok blocks
to_kept blocks (Err r) = Err r

-- the answer for a room of so many bytes: the number of blocks, or the refusal
unfoldable pub keep : List ℕ → ℕ → Answer ℕ
unfolding keep_check
keep list room = to_kept (blocks_for (length list)) (keep_check list room)

-- what the room holds then: the journal in its first blocks and the rest kept; on refusal all is kept
unfoldable pub keep_into : Answer ℕ → List ℕ → List ℕ → List ℕ
keep_into (Ok k) list room = journal_of list ++ drop (512 * k) room
keep_into (Err r) list room = room
