-- What stands in front of the room when a list was written is its journal.
use Prim.Native.Nat.{ℕ, ◌*◌, ◌≤◌}
use mathlib.Core.List.{List}
use mathlib.Core.Path.{◌≡◌, ap, ◌∙◌}
use native.Mathlib.Omega.{arith}
use lib.ListN.{take, drop}
use lib.Seq.{take_at}
use Rattle.journal_write.proofs.Keep.{Writable, writable}
use Rattle.journal.specs.Journal.{call_count}
use Rattle.journal_write.specs.Keep.{keep, keep_into}
use Rattle.std.specs.Prelude.{Ok}
use Rattle.journal_blocks.proofs.Journal.{journal-long}
use Rattle.journal_blocks.specs.Journal.{journal_of}

module _ (list : List ℕ) (k : ℕ) (h : keep list 16896 ≡ Ok k) where
  w : Writable list 16896 k
  w = writable list 16896 k h

  pub in-room : 512 * k ≤ 16896
  in-room = w.room_for

  pub filed : (room journal : List ℕ) → journal ≡ keep_into (Ok k) list room → take (512 * k) journal ≡ journal_of list
  unfolding keep_into
  filed room journal e =
      let long = journal-long list (call_count list) (omega (arith, w.calls)) w.short in
      ap (take (512 * k)) e ∙ take_at (journal_of list) (drop (512 * k) room) (512 * k) (long ∙ ap (λ (x : ℕ). 512 * x) w.blocks)
