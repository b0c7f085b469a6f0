-- What a call from C or Rust says of a check, and of an answer that is one number: a refusal as `told`, anything else as `given`.
use Rattle.refusals.specs.Check.{Answer, Check}
use Rattle.std.specs.Prelude.{ℕ, Ok, Err}
use Rattle.telling.specs.Telling.{Said, told, given}

abbrev pub of_check : Check → Said
of_check (Ok _) = given 0 0 0
of_check (Err r) = told r

-- the number of sites read or written, of passes, of blocks written, of bytes listed; or the mask of the intact sites
abbrev pub of_number : Answer ℕ → Said
of_number (Ok n) = given n 0 0
of_number (Err r) = told r
