-- A run as a call from C or Rust has it, for this table, faulty set and list of bytes, with these two rooms: what it says, and what the rooms hold then.
use Rattle.std.specs.Prelude.{ℕ, List, length}
use Rattle.run.specs.Run.{ran, state_into, answers_into}
use Rattle.said.specs.Said.{of_number}
use Rattle.sets.specs.Groups.{Groups}
use Rattle.telling.specs.Telling.{Said}

abbrev pub run_says : Groups → ℕ → List ℕ → List ℕ → List ℕ → Said
run_says t F list state answers = of_number (ran t F list (length state) (length answers))

abbrev pub run_state : Groups → ℕ → List ℕ → List ℕ → List ℕ → List ℕ
run_state t F list state answers = state_into (ran t F list (length state) (length answers)) t F list state

abbrev pub run_answers : Groups → ℕ → List ℕ → List ℕ → List ℕ → List ℕ
run_answers t F list state answers = answers_into (ran t F list (length state) (length answers)) t F list answers
