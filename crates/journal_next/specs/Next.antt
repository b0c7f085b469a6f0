-- The reader: "holds the journal and its place and gives one call at a time, and after the last says that none is left".
use Rattle.std.specs.Prelude.{ℕ, suc, ◌+◌, ◌*◌, ◌/◌, ◌%◌, Bool, true, false, ◌&&◌, List, Option, Some, None, ltb, length, get_or}
use Rattle.ground.specs.Pieces.{part}
use Rattle.journal_next.specs.declared.Next.{Next}
use Rattle.journal_block.specs.Block.{calls_field}
use Rattle.journal_blocks.specs.Journal.{blocks_in}
use Rattle.votes.specs.Call.{Call, call}

-- a call, and the place behind it
abbrev pub gives : Call → ℕ → Option Next
gives c place = Some (record { kind = c.kind; from = c.from; to = c.to; side = c.side; place = place })

abbrev pub if_left : Bool → Option Next → Option Next
if_left true x = x
if_left false x = None

-- the call at a place, counted in calls from 0: it stands in block place / 125, and none is left where that is no block or has no so many calls. For
-- whatever bytes; what it is of a journal that was checked, `Gives` says.
unfoldable pub next : List ℕ → ℕ → Option Next
next journal place =
    let b = part 512 (place / 125) journal in
    let at = 4 + 4 * (place % 125) in
    if_left (ltb (place / 125) (blocks_in (length journal)) && ltb (place % 125) (calls_field b))
    (gives (call (get_or b at 0) (get_or b (at + 1) 0) (get_or b (at + 2) 0) (get_or b (at + 3) 0)) (suc place))
