-- What is said is the text that `table_said` wrote.
use Rattle.files.proofs.Told.{told}
use Rattle.table_shell.proofs.tell.Goals as goal

pub say_make-requires-clause-answer_value : goal.say_make-requires-clause-answer_value
say_make-requires-clause-answer_value c = told c.make-end.ensures.text

pub blame-requires-clause-fault_value : goal.blame-requires-clause-fault_value
blame-requires-clause-fault_value c = told c.make-end.ensures.text
