-- A call of a vote.
use Rattle.std.specs.Prelude.{ℕ}

-- "A call is four bytes: kind (0 propose, 1 vote, 2 accept), from, to, side."
pub record Call : Type 0 where
  pub kind : ℕ
  pub from : ℕ
  pub to : ℕ
  pub side : ℕ

abbrev pub call : ℕ → ℕ → ℕ → ℕ → Call
call kind from to side = record { kind = kind; from = from; to = to; side = side }

-- "In a proposal from equals to."
abbrev pub propose : ℕ → ℕ → Call
propose v side = call 0 v v side
