-- Texts and tables on file: what a text makes is taken there, and what is shown of a table on file makes the same file.
use Rattle.std.specs.Prelude.{ℕ, ◌*◌, ◌≤◌, List, ◌++◌, ◌≡◌, length, take, drop, Ok}
use Rattle.check_text.specs.Table.{sites_on, image_check, rows_on}
use Rattle.image_write.specs.Write.{write, write_into}
use Rattle.le.specs.Le.{Bytes}
use Rattle.refusals.specs.Check.{Answer}
use Rattle.table_made.specs.Made.{answer_of, made_of, table_in}
use Rattle.table_shown.specs.Show.{show}

-- "what is made is taken by `desk check`": every text that is answered with n sites, and every room for n blocks
abbrev pub MadeThenChecked : Type 0
MadeThenChecked =
    (text out : List ℕ) (n : ℕ) → answer_of (made_of text).spot ≡ Ok n → 512 * n ≤ length out →
    let answer : Answer ℕ = Ok n in
    (write (table_in text) (length out) ≡ answer) × (image_check (take (512 * n) (write_into answer (table_in text) out)) ≡ Ok tt)

-- every image that is not refused: the table of the text that its table is shown as is written, and gives the image, byte for byte
abbrev pub ShowThenWrite : Type 0
ShowThenWrite =
    (image out : List ℕ) → Bytes image → image_check image ≡ Ok tt → length image ≤ length out →
    let t = table_in (show (rows_on image)) in
    let answer : Answer ℕ = Ok (sites_on image) in
    (write t (length out) ≡ answer) × (write_into answer t out ≡ image ++ drop (length image) out)
