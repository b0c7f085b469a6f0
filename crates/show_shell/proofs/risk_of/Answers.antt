-- What is printed is the text that `risk_text` wrote for the bytes that were fetched.
use Rattle.files.proofs.Told.{told}
use Rattle.show_shell.proofs.risk_of.Goals as goal

pub say_risk-requires : goal.say_risk-requires
say_risk-requires c = told c.risk-end.ensures.text
