-- The table that an image holds, and the answer of `desk check`.
use Rattle.refusals.specs.Check.{Check}
use Rattle.std.specs.Prelude.{ℕ, ◌*◌, ◌/◌, List, length, Ok, Err}
use Rattle.image_blocks.specs.Image.{loads}
use Rattle.image.specs.Read.{read_check}
use Rattle.lines.specs.Lines.{line}
use Rattle.refusal_lines.specs.Refused.{explained}
use Rattle.refusals.specs.declared.Refusal.{Refusal}
use Rattle.sets.specs.Groups.{Groups, lists}
use Rattle.text.specs.Text.{ascii, decimal}

-- one block a site
abbrev pub sites_on : List ℕ → ℕ
sites_on image = length image / 512

-- the rows that are read of it, and the table that they are
abbrev pub rows_on : List ℕ → List ℕ
rows_on image = loads (sites_on image) image

abbrev pub table_on : List ℕ → Groups
table_on image = lists (rows_on image)

-- what refuses an image: the reader, which is lent room for 64 sites
unfoldable pub image_check : List ℕ → Check
unfolding read_check
image_check image = read_check image (63 * 64)

-- the text where nothing is refused, or what is said of the refusal
abbrev pub unless : Check → (Refusal → List ℕ) → List ℕ → List ℕ
unless (Ok _) said text = text
unless (Err r) said text = said r

-- `sound N`, or the refusal and what it means
unfoldable pub check_text : List ℕ → List ℕ
unfolding image_check explained line decimal
check_text image = unless (image_check image) explained (line (ascii "sound ") (decimal (sites_on image)))
