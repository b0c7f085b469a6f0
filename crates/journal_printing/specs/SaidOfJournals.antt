-- What may be printed of journals: a text that the bytes of an input, or of files, have.
use Rattle.std.specs.Prelude.{ℕ, List, ◌≡◌}
use Rattle.journal_text.specs.JournalText.{journal_text, kept_text}
use Rattle.replay_text.specs.Replay.{replay_text}

pub data SaidOfJournals (text : List ℕ) : Type 0 where
  of_kept : (list : List ℕ) → text ≡ kept_text list → SaidOfJournals text
  of_journal : (journal : List ℕ) → text ≡ journal_text journal → SaidOfJournals text
  of_replay : (faulty : ℕ) (image journal : List ℕ) → text ≡ replay_text faulty image journal → SaidOfJournals text
