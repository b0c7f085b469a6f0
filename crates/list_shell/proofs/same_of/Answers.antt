-- What is printed is the text that `same_text` wrote for the bytes that were fetched.
use Rattle.files.proofs.Told.{told}
use Rattle.list_shell.proofs.same_of.Goals as goal

pub say_same-requires : goal.say_same-requires
say_same-requires c = told c.same-end.ensures.text
