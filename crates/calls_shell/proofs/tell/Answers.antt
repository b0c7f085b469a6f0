-- What is printed is the text that `calls_said` wrote for the answer.
use mathlib.Core.Path.{ap, ◌∙◌}
use Rattle.calls_said.specs.Faults.{made_lines, made_text}
use Rattle.files.proofs.Told.{told}
use Rattle.calls_shell.proofs.tell.Goals as goal

pub say_made-requires : goal.say_made-requires
unfolding made_text
say_made-requires c = told c.made-end.ensures.text ∙ ap made_lines c.requires
