-- What is proved of a text that was read.
use Rattle.std.specs.Prelude.{ℕ, ◌%◌, ◌≤◌, List, Ok, ◌≡◌, length}
use Rattle.calls_text.specs.Reading.{Reading, read_text}

-- whole calls, at most 4,096 of them, and as many bytes as the answer says
pub record RightList (r : Reading) : Type 0 where
  pub few : length r.bytes ≤ 16384
  pub whole : length r.bytes % 4 ≡ 0
  pub counted : (n : ℕ) → r.answer ≡ Ok n → length r.bytes ≡ n

-- "what is made is a list of at most 4,096 calls", of every text
abbrev pub MadeRight : Type 0
MadeRight = (text : List ℕ) → RightList (read_text text)
