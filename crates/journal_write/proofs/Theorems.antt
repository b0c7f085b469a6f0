-- Reading and writing a journal undo each other.
use Prim.Native.Nat.{ℕ, ◌*◌, ◌≤◌}
use mathlib.Core.List.{List, ◌++◌}
use mathlib.Core.Path.{◌≡◌, sym, ap, subst, ◌∙◌}
use native.Mathlib.Omega.{arith}
use lib.ListN.{length, take, drop}
use lib.Seq.{take_at}
use Rattle.journal.proofs.Checking.{whole, taken, listed-taken, list_read}
use Rattle.journal_write.proofs.Keep.{writable, written}
use Rattle.journal_next.proofs.Reading.{gives-list}
use Rattle.journal.specs.Journal.{call_count, journal_check, size_of, to_checked, check, list_check, listed, list_into}
use Rattle.journal_write.specs.Keep.{keep, keep_into}
use Rattle.journal_next.specs.Theorems.{Gives}
use Rattle.journal_write.specs.Theorems.{WriteThenRead, ReadThenWrite}
use Rattle.journal_blocks.proofs.Journal.{journal-long, list_written, written-sound, blocks-back, journal-back}
use Rattle.journal_blocks.specs.Journal.{blocks_in, blocks_for, journal_blocks_check, list_of, journal_of}
use Rattle.refusals.proofs.First.{or_else-sound}
use Rattle.std.specs.Prelude.{Ok}

pub write-then-read : WriteThenRead
unfolding keep_into list_into
write-then-read list room out k h fits =
    let w = writable list (length room) k h in
    let m = call_count list in
    let four : length list ≡ 4 * m = omega (arith, w.calls) in
    let long = journal-long list m four w.short in
    let j = journal_of list in
    let len : length j ≡ 512 * k = long ∙ ap (λ (x : ℕ). 512 * x) w.blocks in
    let n : blocks_in (length j) ≡ k = omega (arith, len) in
    let back : list_of j ≡ list = list_written list m four w.short in
    let sound : journal_blocks_check k j ≡ Ok tt = subst (λ (x : ℕ). journal_blocks_check x j ≡ Ok tt) w.blocks (written-sound list m four w.short) in
    let front : take (512 * k) (j ++ drop (512 * k) room) ≡ j = take_at j (drop (512 * k) room) (512 * k) len in
    let checks : check j ≡ Ok (size_of k m) =
    taken j (omega (arith, len)) (omega (arith, len, w.short, w.blocks)) (subst (λ (x : ℕ). journal_blocks_check x j ≡ Ok tt) (sym n) sound)
    (subst (λ (x : List ℕ). call_count x ≤ 4096) (sym back) (omega (arith, w.short)))
    ∙ (λ t. Ok (size_of (n t) (call_count (back t)))) in
    let reads : listed j (length out) ≡ Ok (length list) =
    list_read j (length out) (whole j k m checks).passed (subst (λ (x : List ℕ). length x ≤ length out) (sym back) fits)
    ∙ ap (λ (x : List ℕ). Ok (length x)) back in (
      ap check front ∙ checks,
      ap (λ (x : List ℕ). listed x (length out)) front ∙ reads,
      ap (λ (x : List ℕ). list_of x ++ drop (length list) out) front ∙ ap (λ (x : List ℕ). x ++ drop (length list) out) back,
      subst (λ (x : List ℕ). Gives x list) (sym front) (subst (λ (x : List ℕ). Gives j x) back (gives-list j k len sound)),
    )

-- the answer that a list was read, taken apart
read-list : (j : List ℕ) (room n : ℕ) → listed j room ≡ Ok n → (journal_check j ≡ Ok tt) × (length (list_of j) ≡ n)
unfolding listed list_check
read-list j room n h = let a = listed-taken (length (list_of j)) n (list_check j room) h in ((or_else-sound (journal_check j) _ a.0).0, a.1)

pub read-then-write : ReadThenWrite
unfolding keep_into list_into check
read-then-write j room out n hb h fits =
    let a = read-list j (length room) n h in
    let k = blocks_in (length j) in
    let w = whole j k (call_count (list_of j)) (ap (to_checked k (call_count (list_of j))) a.0) in
    let l = list_of j in
    let back : blocks_for (length l) ≡ k = blocks-back j k w.long w.sound in
    let e : take n (l ++ drop n room) ≡ l = take_at l (drop n room) n a.1 in
    let writes : keep l (length out) ≡ Ok k =
    written l (length out) (omega (arith, w.bytes)) (omega (arith, w.bytes, w.few-calls)) (omega (arith, back, w.long, fits)) ∙ ap (λ (x : ℕ). Ok x) back in (
      sym a.1,
      e,
      ap (λ (x : List ℕ). keep x (length out)) e ∙ writes,
      ap (λ (x : List ℕ). journal_of x ++ drop (512 * k) out) e ∙ ap (λ (x : List ℕ). x ++ drop (512 * k) out) (journal-back j k w.long w.sound hb)
          ∙ ap (λ (x : ℕ). j ++ drop x out) (sym w.long),
    )
