-- That reading and writing a journal undo each other, of the public answers and of the rooms as they are left.
use Rattle.std.specs.Prelude.{ℕ, ◌*◌, ◌/◌, ◌≤◌, List, ◌++◌, Ok, ◌≡◌, length, take, drop}
use Rattle.journal.specs.Journal.{call_count, size_of, check, listed, list_into}
use Rattle.journal_blocks.specs.Journal.{list_of}
use Rattle.journal_next.specs.Theorems.{Gives}
use Rattle.journal_write.specs.Keep.{keep, keep_into}
use Rattle.le.specs.Le.{Bytes}

-- "Reading what was written gives the list": the journal that the room then begins with is sound, its list is the list, and the reader gives it
abbrev pub WriteThenRead : Type 0
WriteThenRead =
    (list room out : List ℕ) (k : ℕ) → keep list (length room) ≡ Ok k → length list ≤ length out →
    let journal = take (512 * k) (keep_into (Ok k) list room) in
    (check journal ≡ Ok (size_of k (call_count list)))
    × (listed journal (length out) ≡ Ok (length list))
    × (list_into (Ok (length list)) journal out ≡ list ++ drop (length list) out)
    × Gives journal list

-- "writing what was read gives the bytes", and the room beyond them is kept
abbrev pub ReadThenWrite : Type 0
ReadThenWrite =
    (journal room out : List ℕ) (n : ℕ) → Bytes journal → listed journal (length room) ≡ Ok n → length journal ≤ length out →
    let list = take n (list_into (Ok n) journal room) in
    (n ≡ length (list_of journal)) × (list ≡ list_of journal)
    × (keep list (length out) ≡ Ok (length journal / 512))
    × (keep_into (Ok (length journal / 512)) list out ≡ journal ++ drop (length journal) out)
