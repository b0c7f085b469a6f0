-- What the answer on shared sites says, as the line `meet` has it.
use Rattle.questions.specs.Answers.{Sharing, pair_of}
use Rattle.std.specs.Prelude.{Bool, true, false, Some, None, Ok, Err}

abbrev pub met : Sharing → Bool
met (Ok None) = true
met (Ok (Some p)) = false
met (Err r) = false
