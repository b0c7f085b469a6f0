-- What is printed is the text that `journal_text` wrote for the bytes that were fetched.
use Rattle.files.proofs.Told.{told}
use Rattle.journal_shell.proofs.check_of.Goals as goal

pub say_journal-requires : goal.say_journal-requires
say_journal-requires c = told c.check-end.ensures.text
