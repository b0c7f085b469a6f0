-- Text written into a lent room.
use Rattle.std.specs.Prelude.{ℕ, ◌+◌, ◌≤◌, List, ◌++◌, ◌≡◌, length, take, drop}

-- the room with the text in it from a place on; what stands before and behind is kept
unfoldable pub written : List ℕ → ℕ → List ℕ → List ℕ
written room at text = take at room ++ text ++ drop (at + length text) room

-- the text was written from a place on, and the answer is the place behind it, which is not outside the room
pub record Writes (text before : List ℕ) (at end : ℕ) (after : List ℕ) : Type 0 where
  pub place : end ≡ at + length text
  pub memory : after ≡ written before at text
  pub inside : end ≤ length after
