-- What is printed is the text that `replay_text` wrote for the bytes that were fetched.
use Rattle.files.proofs.Told.{told}
use Rattle.journal_shell.proofs.replay_of.Goals as goal

pub say_replay-requires : goal.say_replay-requires
say_replay-requires c = told c.replay-end.ensures.text
