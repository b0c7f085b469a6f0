-- What the desk prints of a journal, and of a list that is kept as one.
use Rattle.std.specs.Prelude.{ℕ, List, ◌++◌, length}
use Rattle.check_text.specs.Table.{unless}
use Rattle.journal.specs.Journal.{call_count, journal_check}
use Rattle.journal_write.specs.Keep.{keep_check}
use Rattle.journal_blocks.specs.Journal.{blocks_in, blocks_for, list_of}
use Rattle.lines.specs.Lines.{line}
use Rattle.refusal_lines.specs.Refused.{explained}
use Rattle.text.specs.Text.{ascii, decimal}

-- `blocks K` and `calls N`
unfoldable pub kept_lines : ℕ → ℕ → List ℕ
unfolding line decimal
kept_lines blocks calls = line (ascii "blocks ") (decimal blocks) ++ line (ascii "calls ") (decimal calls)

-- `desk journal`: how many blocks and calls it has, or the refusal and what it means
unfoldable pub journal_text : List ℕ → List ℕ
unfolding journal_check explained kept_lines list_of
journal_text journal = unless (journal_check journal) explained (kept_lines (blocks_in (length journal)) (call_count (list_of journal)))

-- `desk keep`: the same of the journal that keeps a list. The room is for 33 blocks, so that 9 does not arise.
unfoldable pub kept_text : List ℕ → List ℕ
unfolding keep_check explained kept_lines
kept_text list = unless (keep_check list 16896) explained (kept_lines (blocks_for (length list)) (call_count list))
