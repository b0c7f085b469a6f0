-- What is proved of the calls that are counted: they are those that answer 11, whatever the state is, and so in the last pass of every run.
use Rattle.std.specs.Prelude.{ℕ, true, List, ◌↔◌, ◌≡◌}
use Rattle.refusals.specs.Refusal.{code}
use Rattle.rules.specs.Rules.{out_of_range, answer}
use Rattle.votes.specs.Call.{Call}

abbrev pub StrangeIsEleven : Type 0
StrangeIsEleven = (n F : ℕ) (c : Call) (s : List ℕ) → (code (answer n F c s) ≡ 11) ↔ (out_of_range n c ≡ true)
