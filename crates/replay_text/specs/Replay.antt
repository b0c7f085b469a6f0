-- The run of a journal's list on an image.
use Rattle.std.specs.Prelude.{ℕ, List}
use Rattle.check_text.specs.Table.{image_check, unless, table_on}
use Rattle.journal.specs.Journal.{journal_check}
use Rattle.journal_blocks.specs.Journal.{list_of}
use Rattle.refusal_lines.specs.Refused.{explained}
use Rattle.refusals.specs.First.{or_else}
use Rattle.refusals.specs.Check.{Check}
use Rattle.run_text.specs.Run.{run_text}
use Rattle.sets.specs.Groups.{set_check}

-- the table as in reading, then 10
unfoldable pub asked_check : ℕ → List ℕ → Check
unfolding image_check set_check
asked_check F image = or_else (image_check image) (set_check (table_on image) F)

-- the refusals of a replay: the table's, 10, then the journal's
unfoldable pub replay_check : ℕ → List ℕ → List ℕ → Check
unfolding asked_check journal_check
replay_check F image journal = or_else (asked_check F image) (journal_check journal)

-- `desk replay`: what `desk run` prints for the journal's list, or the refusal and what it means
unfoldable pub replay_text : ℕ → List ℕ → List ℕ → List ℕ
unfolding replay_check explained run_text list_of
replay_text F image journal = unless (replay_check F image journal) explained (run_text F image (list_of journal))
