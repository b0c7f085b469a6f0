-- What is printed is the text that `journal_text` wrote for the list.
use Rattle.files.proofs.Told.{told}
use Rattle.keep_shell.proofs.tell.Goals as goal

pub say_kept-requires : goal.say_kept-requires
say_kept-requires c = told c.kept-end.ensures.text
