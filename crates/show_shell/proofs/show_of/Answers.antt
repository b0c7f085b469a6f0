-- What is printed is the text that `table_text` wrote for the bytes that were fetched.
use Rattle.files.proofs.Told.{told}
use Rattle.show_shell.proofs.show_of.Goals as goal

pub say_show-requires : goal.say_show-requires
say_show-requires c = told c.show-end.ensures.text
