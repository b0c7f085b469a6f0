-- What is printed is the text that `run_text` wrote for the bytes that were fetched.
use Rattle.files.proofs.Told.{told}
use Rattle.run_shell.proofs.run_of.Goals as goal

pub say_run-requires : goal.say_run-requires
say_run-requires c = told c.run-end.ensures.text
