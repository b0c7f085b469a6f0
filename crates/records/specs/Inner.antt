-- How a run of a room of bytes ends.
use Rattle.refusals.specs.Check.{Answer}
use Rattle.std.specs.Prelude.{ℕ, ◌*◌, ◌≤◌, List, ◌≡◌, length, take}
use Rattle.run.specs.Inner.{row_ran, row_state_into, row_answers_into}
use Rattle.run.specs.Run.{ran, state_into, answers_into}
use Rattle.sets.specs.Groups.{Groups}

-- how a run of n calls that stand in a room of bytes ends: as the run of any list of 4n bytes that the room begins with, and if there are more calls
-- than the room holds, as the run of any list of 4n bytes at all. What a run of a list answers and leaves comes in as `answers`, `state` and `bytes`.
pub record Ended (answers : List ℕ → Answer ℕ) (state bytes : Answer ℕ → List ℕ → List ℕ) (room : List ℕ) (n : ℕ) (r : Answer ℕ)
    (state' answers' : List ℕ) : Type 0 where
  pub answer : (list : List ℕ) → length list ≡ 4 * n → (n ≤ 4096 → take (4 * n) room ≡ list) → r ≡ answers list
  pub states : (list : List ℕ) → length list ≡ 4 * n → (n ≤ 4096 → take (4 * n) room ≡ list) → state' ≡ state r list
  pub answered : (list : List ℕ) → length list ≡ 4 * n → (n ≤ 4096 → take (4 * n) room ≡ list) → answers' ≡ bytes r list

-- of rows, and of a table
abbrev pub RowEnded : List ℕ → ℕ → ℕ → List ℕ → ℕ → List ℕ → List ℕ → Answer ℕ → List ℕ → List ℕ → Type 0
RowEnded rows sites F room n state answers =
    Ended (λ list. row_ran rows sites F list (length state) (length answers)) (λ r list. row_state_into r rows sites F list state)
    (λ r list. row_answers_into r rows sites F list answers) room n

abbrev pub TableEnded : Groups → ℕ → List ℕ → ℕ → List ℕ → List ℕ → Answer ℕ → List ℕ → List ℕ → Type 0
TableEnded t F room n state answers =
    Ended (λ list. ran t F list (length state) (length answers)) (λ r list. state_into r t F list state) (λ r list. answers_into r t F list answers) room n
