-- What is printed is the text that `verdict_text` wrote for the bytes that were read.
use Rattle.files.proofs.Told.{told}
use Rattle.shell.proofs.verdict.Goals as goal

pub say_input-requires : goal.say_input-requires
say_input-requires c = told c.verdict_on-end.ensures.text
