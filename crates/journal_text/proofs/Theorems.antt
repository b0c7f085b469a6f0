-- A list that is kept reads back, and so its journal prints what it prints.
use Prim.Native.Nat.{ℕ, ◌*◌, ◌≤◌}
use mathlib.Core.List.{List}
use mathlib.Core.Path.{◌≡◌, refl, sym, ap, subst}
use native.Mathlib.Omega.{arith}
use lib.ListN.{length}
use Rattle.journal.proofs.Checking.{whole, taken}
use Rattle.journal_write.proofs.Keep.{Writable, writable}
use Rattle.journal.specs.Journal.{call_count, journal_check}
use Rattle.journal_write.specs.Keep.{keep_check, to_kept, keep}
use Rattle.journal_blocks.proofs.Journal.{journal-long, list_written, written-sound}
use Rattle.journal_blocks.specs.Journal.{blocks_in, blocks_for, journal_blocks_check, list_of, journal_of}
use Rattle.journal_text.specs.JournalText.{journal_text, kept_text}
use Rattle.journal_text.specs.Theorems.{KeptSaysSo}
use Rattle.std.specs.Prelude.{Ok}

module _ (list : List ℕ) (h : keep_check list 16896 ≡ Ok tt) where
  w : Writable list 16896 (blocks_for (length list))
  unfolding keep
  w = writable list 16896 (blocks_for (length list)) (ap (to_kept (blocks_for (length list))) h)

  four : length list ≡ 4 * call_count list
  four = omega (arith, w.calls)

  long : length (journal_of list) ≡ 512 * blocks_for (length list)
  long = journal-long list (call_count list) four w.short

  same : blocks_in (length (journal_of list)) ≡ blocks_for (length list)
  same = omega (arith, long)

  pub back : list_of (journal_of list) ≡ list
  back = list_written list (call_count list) four w.short

  pub passed : journal_check (journal_of list) ≡ Ok tt
  passed =
      let j = journal_of list in
      let few : call_count (list_of j) ≤ 4096 = subst (λ (x : List ℕ). call_count x ≤ 4096) (sym back) (omega (arith, w.short)) in
      (whole j (blocks_in (length j)) (call_count (list_of j))
      (taken j (omega (arith, long)) (omega (arith, long, w.short))
      (subst (λ (x : ℕ). journal_blocks_check x j ≡ Ok tt) (sym same) (written-sound list (call_count list) four w.short)) few)).passed

pub kept-says-so : KeptSaysSo
unfolding journal_text kept_text
kept-says-so list h = rw (passed list h, h, back list h, same list h) refl
