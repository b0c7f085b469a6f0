-- What is proved of the reader's answers: they are the calls of the journal's list.
use Rattle.std.specs.Prelude.{ℕ, suc, ◌≤◌, ◌<◌, List, None, Ok, ◌≡◌}
use Rattle.journal.specs.Journal.{call_count, size_of, check}
use Rattle.journal_blocks.specs.Journal.{list_of}
use Rattle.journal_next.specs.Next.{gives, next}
use Rattle.pass.specs.Calls.{call_at}

-- "gives one call at a time, and after the last says that none is left", and asked again says so again: of a list, call by call
pub record Gives (journal list : List ℕ) : Type 0 where
  pub each : (i : ℕ) → i < call_count list → next journal i ≡ gives (call_at list i) (suc i)
  pub none_left : (i : ℕ) → call_count list ≤ i → next journal i ≡ None

-- the reader of a journal that the check takes gives its list
abbrev pub ReaderGives : Type 0
ReaderGives = (journal : List ℕ) (blocks calls : ℕ) → check journal ≡ Ok (size_of blocks calls) → Gives journal (list_of journal)
