-- Reading an image into a lent room: the answer, and what the room holds then.
use Rattle.refusals.specs.Check.{Answer, Check}
use Rattle.std.specs.Prelude.{ℕ, ◌*◌, ◌/◌, Bool, List, ◌++◌, eqb, ltb, length, drop, Ok, Err}
use Rattle.image_blocks.specs.Image.{image_misshapen, blocks_check, loads}
use Rattle.masks.specs.Mask.{all_below}
use Rattle.refusals.specs.First.{or_else, refuse}
use Rattle.refusals.specs.declared.Refusal.TheVariants.{Length, NoQuorum, Room}
use Rattle.sets.specs.Quorum.{largest}
use Rattle.sets.specs.Slices.{slices_of}

-- 7: "the table holds no quorum"
unfoldable pub quorumless : ℕ → List ℕ → Bool
unfolding largest slices_of
quorumless n t = eqb (largest (slices_of t).inside n (all_below n)) 0

-- "Order, reading: 1, 9, then block by block 2, 3, 4, each slice 5 then 6, then 8; after all blocks 7." 9 is "room lent too short".
unfoldable pub read_check : List ℕ → ℕ → Check
unfolding image_misshapen blocks_check quorumless
read_check image room =
    let n = length image / 512 in
    or_else (refuse (image_misshapen (length image)) Length)
    (or_else (refuse (ltb room (63 * n)) Room)
    (or_else (blocks_check n image)
    (refuse (quorumless n (loads n image)) NoQuorum)))

abbrev pub to_reading : ℕ → Check → Answer ℕ
to_reading n (Ok _) = Ok n
to_reading n (Err r) = Err r

-- the answer for a room of so many numbers: n, or the refusal
unfoldable pub read : List ℕ → ℕ → Answer ℕ
unfolding read_check
read image room = to_reading (length image / 512) (read_check image room)

-- what the room holds then: the table in its first 63 n numbers and the rest kept; on refusal all is kept
unfoldable pub read_into : Answer ℕ → List ℕ → List ℕ → List ℕ
read_into (Ok n) image room = loads n image ++ drop (63 * n) room
read_into (Err r) image room = room
