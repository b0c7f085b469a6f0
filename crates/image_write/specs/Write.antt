-- Writing a table in memory as an image into a lent room: the answer, and what the room holds then.
use Rattle.refusals.specs.Check.{Answer, Check}
use Rattle.std.specs.Prelude.{ℕ, ◌*◌, List, ◌++◌, ltb, length, drop, Ok, Err}
use Rattle.image_blocks.specs.Image.{stores}
use Rattle.refusals.specs.First.{or_else, refuse}
use Rattle.refusals.specs.declared.Refusal.TheVariants.{Length, Room}
use Rattle.table.specs.Table.{sites, table_misshapen, sites_check}

-- "Writing: 1, 9, then site by site 4, each slice 5 then 6, then 8"
unfoldable pub write_check : List ℕ → ℕ → Check
unfolding table_misshapen sites_check
write_check t room =
    or_else (refuse (table_misshapen (length t)) Length)
    (or_else (refuse (ltb room (512 * sites (length t))) Room)
    (sites_check (sites (length t)) t))

abbrev pub to_writing : ℕ → Check → Answer ℕ
to_writing n (Ok _) = Ok n
to_writing n (Err r) = Err r

-- the answer for a room of so many bytes: n, or the refusal
unfoldable pub write : List ℕ → ℕ → Answer ℕ
unfolding write_check
write t room = to_writing (sites (length t)) (write_check t room)

-- what the room holds then: the image in its first 512 n bytes and the rest kept; on refusal all is kept
unfoldable pub write_into : Answer ℕ → List ℕ → List ℕ → List ℕ
write_into (Ok n) t room = stores n t ++ drop (512 * n) room
write_into (Err r) t room = room
