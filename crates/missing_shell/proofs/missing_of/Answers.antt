-- What is printed is the text that `missing_text` wrote for the bytes that were fetched.
use Rattle.files.proofs.Told.{told}
use Rattle.missing_shell.proofs.missing_of.Goals as goal

pub say_missing-requires : goal.say_missing-requires
say_missing-requires c = told c.missing-end.ensures.text
