-- What is proved of a list that is kept: its journal prints what it prints.
use Rattle.std.specs.Prelude.{ℕ, List, Ok, ◌≡◌}
use Rattle.journal_write.specs.Keep.{keep_check}
use Rattle.journal_blocks.specs.Journal.{journal_of}
use Rattle.journal_text.specs.JournalText.{journal_text, kept_text}

-- `desk journal` says of the journal what `desk keep` said when it was written
abbrev pub KeptSaysSo : Type 0
KeptSaysSo = (list : List ℕ) → keep_check list 16896 ≡ Ok tt → journal_text (journal_of list) ≡ kept_text list
