-- What a call from C or Rust says of each answer to a question about sets: a refusal as `told`, anything else as `given`.
use Rattle.refusals.specs.Check.{Answer}
use Rattle.questions.specs.Answers.{LargestSet, Sharing}
use Rattle.std.specs.Prelude.{Bool, true, false, Some, None, Ok, Err}
use Rattle.telling.specs.Telling.{Said, told, given}

-- 1 if it holds, 0 if not
abbrev pub of_holds : Answer Bool → Said
of_holds (Ok true) = given 1 0 0
of_holds (Ok false) = given 0 0 0
of_holds (Err r) = told r

-- the set, then the rounds
abbrev pub of_greatest : LargestSet → Said
of_greatest (Ok l) = given l.set l.rounds 0
of_greatest (Err r) = told r

-- 1 if the table meets; if not 0, and the two quorums
abbrev pub of_sharing : Sharing → Said
of_sharing (Ok None) = given 1 0 0
of_sharing (Ok (Some p)) = given 0 p.first p.second
of_sharing (Err r) = told r
