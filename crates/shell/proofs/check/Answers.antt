-- What is printed is the text that `check_text` wrote for the bytes that were fetched.
use Rattle.files.proofs.Told.{told}
use Rattle.shell.proofs.check.Goals as goal

pub say_check-requires : goal.say_check-requires
say_check-requires c = told c.check-end.ensures.text
