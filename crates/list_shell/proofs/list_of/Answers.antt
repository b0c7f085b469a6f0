-- What is printed is the text that `calls_listed` wrote for the bytes that were fetched.
use Rattle.files.proofs.Told.{told}
use Rattle.list_shell.proofs.list_of.Goals as goal

pub say_list-requires : goal.say_list-requires
say_list-requires c = told c.list-end.ensures.text
