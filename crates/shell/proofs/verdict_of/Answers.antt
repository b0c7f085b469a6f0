-- What is printed are the texts that `verdict_text` and `verdict_sites` wrote for the bytes that were fetched.
use Rattle.files.proofs.Told.{told}
use Rattle.shell.proofs.verdict_of.Goals as goal

pub say_verdict-requires : goal.say_verdict-requires
say_verdict-requires c = told c.verdict-end.ensures.text

pub say_sites-requires : goal.say_sites-requires
say_sites-requires c = told c.verdict_sites-end.ensures.text
