-- The ways out of what is printed of a replay: one law for each.
use Prim.Native.Nat.{ℕ, ◌≤◌}
use mathlib.Core.List.{List}
use mathlib.Core.Path.{◌≡◌, refl, sym, ap, ◌∙◌}
use native.Mathlib.Omega.{arith}
use lib.Dec.{ltb}
use lib.ListN.{length, take, drop}
use lib.Seq.{take_at}
use borrow.Author.Tests.{le-ltb}
use Rattle.check_text.proofs.Ways.{image-sound, image-refused, loaded, loaded-sites}
use Rattle.image.specs.Read.{read}
use Rattle.journal.proofs.Checking.{Whole, whole, listed-taken, listed-stopped}
use Rattle.journal.specs.Journal.{call_count, journal_check, to_checked, check, list_check, listed, list_into}
use Rattle.journal_blocks.specs.Journal.{blocks_in, list_of}
use Rattle.refusal_lines.specs.Refused.{explained}
use Rattle.refusals.specs.First.{refuse}
use Rattle.refusals.specs.Check.{Check}
use Rattle.std.specs.Prelude.{Ok, Err}
use Rattle.refusals.specs.declared.Refusal.{Refusal}
use Rattle.refusals.specs.declared.Refusal.TheVariants.{Room}
use Rattle.replay_text.specs.Replay.{asked_check, replay_check, replay_text}
use Rattle.run_text.specs.Run.{run_text}
use Rattle.sets.specs.Groups.{outsider, set_check}

-- the list of a journal
module _ (journal : List ℕ) where
  -- the room for a list is never too short
  room-enough : journal_check journal ≡ Ok tt → length (list_of journal) ≤ 16384
  unfolding check
  room-enough p =
      let k = blocks_in (length journal) in
      let w = whole journal k (call_count (list_of journal)) (ap (to_checked k (call_count (list_of journal))) p) in
      omega (arith, w.bytes, w.few-calls)

  list-check : list_check journal 16384 ≡ journal_check journal
  unfolding list_check
  list-check = go (journal_check journal) refl
    where
      go : (s : Check) → journal_check journal ≡ s → list_check journal 16384 ≡ journal_check journal
      go (Ok _) e = rw (e, le-ltb 16384 (length (list_of journal)) (room-enough e)) refl
      go (Err r) e = rw e refl

  pub list-taken : (n : ℕ) → listed journal 16384 ≡ Ok n → (journal_check journal ≡ Ok tt) × (length (list_of journal) ≡ n)
  unfolding listed
  list-taken n h = let a = listed-taken (length (list_of journal)) n (list_check journal 16384) h in (sym list-check ∙ a.0, a.1)

  pub list-stopped : (r : Refusal) → listed journal 16384 ≡ Err r → journal_check journal ≡ Err r
  unfolding listed
  list-stopped r h = sym list-check ∙ listed-stopped (length (list_of journal)) (list_check journal 16384) r h

  pub list-short : (n : ℕ) → listed journal 16384 ≡ Ok n → n ≤ 16384
  list-short n h = let a = list-taken n h in omega (arith, room-enough a.0, a.1)

-- of the table and the mask
module _ (F : ℕ) (image : List ℕ) where
  pub asked-refused : (r : Refusal) → read image 4032 ≡ Err r → Err r ≡ asked_check F image
  unfolding asked_check
  asked-refused r h = rw (image-refused image r h) refl

  -- a table that was read is not refused, so that 10 is left
  pub asked-read : (n : ℕ) → read image 4032 ≡ Ok n → outsider n F ≡ asked_check F image
  unfolding asked_check set_check
  asked-read n h = let s = image-sound image n h in rw (s.0, s.1, loaded image n h, loaded-sites image n) refl

-- of a replay
module _ (F : ℕ) (image journal : List ℕ) where
  pub replay-unasked : (r : Refusal) → asked_check F image ≡ Err r → explained r ≡ replay_text F image journal
  unfolding replay_text replay_check
  replay-unasked r h = rw h refl

  module _ (asked : asked_check F image ≡ Ok tt) where
    pub replay-refused : (r : Refusal) → listed journal 16384 ≡ Err r → explained r ≡ replay_text F image journal
    unfolding replay_text replay_check
    replay-refused r h = rw (asked, list-stopped journal r h) refl

    pub replay-read : (n : ℕ) (list room : List ℕ) → listed journal 16384 ≡ Ok n → list ≡ take n (list_into (Ok n) journal room)
        → run_text F image list ≡ replay_text F image journal
    unfolding replay_text replay_check list_into
    replay-read n list room h e =
        let a = list-taken journal n h in
        ap (run_text F image) (e ∙ take_at (list_of journal) (drop n room) n a.1) ∙ rw (asked, a.0) refl
