-- The ways out of what is printed of a journal: one law for each.
use Prim.Native.Nat.{ℕ, ◌/◌}
use mathlib.Core.List.{List}
use mathlib.Core.Path.{◌≡◌, refl}
use native.Mathlib.Omega.{arith}
use lib.ListN.{length}
use Rattle.journal.proofs.Checking.{whole, answer-refused}
use Rattle.journal_write.proofs.Keep.{kept-taken, kept-stopped}
use Rattle.journal.specs.Journal.{call_count, journal_check, size_of, check}
use Rattle.journal_write.specs.Keep.{keep_check, keep}
use Rattle.std.specs.Prelude.{Ok, Err}
use Rattle.journal_blocks.specs.Journal.{blocks_in, blocks_for, list_of}
use Rattle.journal_text.specs.JournalText.{kept_lines, journal_text, kept_text}
use Rattle.refusal_lines.specs.Refused.{explained}
use Rattle.refusals.specs.declared.Refusal.{Refusal}

module _ (journal : List ℕ) where
  -- of a journal
  pub check_sound : (blocks calls : ℕ) → check journal ≡ Ok (size_of blocks calls) → kept_lines blocks calls ≡ journal_text journal
  unfolding journal_text
  check_sound blocks calls h =
      let w = whole journal blocks calls h in
      let k : blocks_in (length journal) ≡ blocks = omega (arith, w.long) in
      rw (w.passed, w.counts, k) refl

  pub check-refused : (r : Refusal) → check journal ≡ Err r → explained r ≡ journal_text journal
  unfolding journal_text check
  check-refused r h = rw (answer-refused (blocks_in (length journal)) (call_count (list_of journal)) (journal_check journal) r h) refl

-- of a list that is kept
module _ (list : List ℕ) where
  pub kept-sound : (k : ℕ) → keep list 16896 ≡ Ok k → kept_lines k (length list / 4) ≡ kept_text list
  unfolding kept_text keep
  kept-sound k h = let a = kept-taken (blocks_for (length list)) k (keep_check list 16896) h in rw (a.0, a.1) refl

  pub kept-refused : (r : Refusal) → keep list 16896 ≡ Err r → explained r ≡ kept_text list
  unfolding kept_text keep
  kept-refused r h = rw (kept-stopped (blocks_for (length list)) (keep_check list 16896) r h) refl
