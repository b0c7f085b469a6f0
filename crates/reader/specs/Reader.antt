-- What a reader holds, and what it gives: "a reader that holds the journal and its place and gives one call at a time, and after the last says that none is
-- left."
use Rattle.std.specs.Prelude.{ℕ, List, [], None, Ok, Err, ◌≡◌}
use Rattle.refusals.specs.Check.{Answer}
use Rattle.journal.specs.declared.Size.{Size}
use Rattle.journal.specs.Journal.{size_of, check}
use Rattle.journal_next.specs.Next.{next}
use Rattle.journal_next.specs.Theorems.{Gives}
use Rattle.journal_blocks.specs.Journal.{list_of}
use Rattle.refusals.specs.declared.Refusal.{Refusal}

abbrev pub if_sound : Answer Size → List ℕ → List ℕ
if_sound (Ok _) journal = journal
if_sound (Err r) journal = []

-- "The journal is checked whole before its first call.": the journal if the check takes it, else nothing
unfoldable pub sound_part : List ℕ → List ℕ
sound_part journal = if_sound (check journal) journal

-- a reader of a journal that the check takes gives its list, call by call, then none
abbrev pub OpenGives : Type 0
OpenGives = (journal : List ℕ) (blocks calls : ℕ) → check journal ≡ Ok (size_of blocks calls) → Gives (sound_part journal) (list_of journal)

-- a reader of a journal that is refused gives no call, at any place
abbrev pub RefusedGivesNone : Type 0
RefusedGivesNone = (journal : List ℕ) (r : Refusal) → check journal ≡ Err r → (place : ℕ) → next (sound_part journal) place ≡ None
