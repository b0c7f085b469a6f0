-- "Tables survive reading and writing unchanged, either one first": of the public answers and of the rooms as they are left. `Words` says that
-- a list holds 64-bit numbers, as every lent slice of them does.
use Rattle.std.specs.Prelude.{ℕ, ◌*◌, ◌^◌, ◌≤◌, ◌<◌, List, ◌++◌, ◌≡◌, length, get_or, take, drop, Ok}
use Rattle.image.specs.Read.{read, read_into}
use Rattle.image_write.specs.Write.{write, write_into}
use Rattle.le.specs.Le.{Bytes}

abbrev pub Words : List ℕ → Type 0
Words t = (i : ℕ) → get_or t i 0 < 2 ^ 64

-- whatever image is read, the table that the room then begins with is written, and gives the image's bytes
abbrev pub ReadThenWrite : Type 0
ReadThenWrite =
    (image room out : List ℕ) (n : ℕ) → Bytes image → read image (length room) ≡ Ok n → 512 * n ≤ length out →
    let t = take (63 * n) (read_into (Ok n) image room) in
    (write t (length out) ≡ Ok n) × (write_into (Ok n) t out ≡ image ++ drop (512 * n) out)

-- whatever table is written, the image that the room then begins with is read, and gives the table
abbrev pub WriteThenRead : Type 0
WriteThenRead =
    (t room out : List ℕ) (n : ℕ) → Words t → write t (length room) ≡ Ok n → 63 * n ≤ length out →
    let image = take (512 * n) (write_into (Ok n) t room) in
    (read image (length out) ≡ Ok n) × (read_into (Ok n) image out ≡ t ++ drop (63 * n) out)
