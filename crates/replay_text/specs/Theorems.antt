-- What is proved of a list that is kept: its journal is run as the list is.
use Rattle.std.specs.Prelude.{ℕ, List, Ok, ◌≡◌}
use Rattle.journal_write.specs.Keep.{keep_check}
use Rattle.journal_blocks.specs.Journal.{journal_of}
use Rattle.replay_text.specs.Replay.{replay_text}
use Rattle.run_text.specs.Run.{run_text}

-- `desk replay` prints of the journal what `desk run` prints of the list, on every image and for every mask, refusals and all
abbrev pub ReplayPrintsRun : Type 0
ReplayPrintsRun = (F : ℕ) (image list : List ℕ) → keep_check list 16896 ≡ Ok tt → replay_text F image (journal_of list) ≡ run_text F image list
