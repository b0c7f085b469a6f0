-- What the answer on intact sites says to the lines of a run.
use Rattle.refusals.specs.Check.{Answer}
use Rattle.std.specs.Prelude.{ℕ, Ok, Err}

-- the intact sites, or nobody where the answer is a refusal
abbrev pub whole_of : Answer ℕ → ℕ
whole_of (Ok set) = set
whole_of (Err r) = 0
