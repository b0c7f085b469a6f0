-- What it says of two lists of calls that `desk same` prints `same`, and no line `both`.
use Rattle.std.specs.Prelude.{ℕ, ◌*◌, ◌/◌, ◌<◌, true, false, ◌&&◌, List, ◌↔◌, ◌≡◌, length}
use Rattle.pass.specs.Calls.{calls}
use Rattle.run.specs.Run.{list_misshapen}
use Rattle.run.specs.Theorems.{Taken, end_state}
use Rattle.same_calls.specs.Same.{same_lists, proposed}
use Rattle.sets.specs.Groups.{Groups}
use Rattle.votes.specs.Passes.{SameCalls}

-- it is exact: "the same calls, in whichever order and with whichever repeats", as demand 3 has it, of every two lists that are not refused with 17
abbrev pub SameIsExact : Type 0
SameIsExact =
    (a b : List ℕ) → list_misshapen (length a) ≡ false → list_misshapen (length b) ≡ false → (same_lists a b ≡ true) ↔ SameCalls (calls a) (calls b)

-- no line `both`
abbrev pub NoBoth : List ℕ → List ℕ → Type 0
NoBoth a b = (v : ℕ) → v < 256 → (proposed a b v 0 && proposed a b v 1) ≡ false

-- "`same` without `both` says that the registers agree": over every table, whoever is faulty, the two runs end in the same state
abbrev pub SameRegisters : Type 0
SameRegisters =
    (t : Groups) (F : ℕ) (a state_a answers_a : List ℕ) (p : ℕ) (b state_b answers_b : List ℕ) (q : ℕ) →
    Taken t F a state_a answers_a p → Taken t F b state_b answers_b q → same_lists a b ≡ true → NoBoth a b →
    end_state t F a state_a p ≡ end_state t F b state_b q
