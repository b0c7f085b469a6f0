-- The number of each refusal, and the block or site that it carries: "The refusal carries the block or site number for 2 to 8 (for 7: 0)
-- and nothing else." And since there are journals: "From here on a fault in a block carries its number."
use Rattle.std.specs.Prelude.{ℕ, ◌≡◌}
use Rattle.refusals.specs.Check.{Check}
use Rattle.std.specs.Prelude.{Ok, Err}
use Rattle.refusals.specs.declared.Refusal.{Refusal}
use Rattle.refusals.specs.declared.Refusal.TheVariants.{Length, Sums, Header, Count, Slice, Order, NoQuorum, Filler, Room}
use Rattle.refusals.specs.declared.Refusal.TheVariants.{Set, Range, Receiver, Proposal, Voted, Unsent, Large, List, Unsound, Journal, Numbering}
use Rattle.refusals.specs.declared.Refusal.TheVariants.{Threshold, Nesting, Slices}

abbrev pub number : Refusal → ℕ
number Length = 1
number (Sums block) = 2
number (Header block) = 3
number (Count site) = 4
number (Slice site) = 5
number (Order site) = 6
number NoQuorum = 7
number (Filler site) = 8
number Room = 9
number Set = 10
number (Range i) = 11
number Receiver = 12
number Proposal = 13
number Voted = 14
number Unsent = 15
number Large = 16
number List = 17
number Unsound = 18
number Journal = 19
number (Numbering block) = 20
number (Threshold block) = 21
number (Nesting block) = 22
number (Slices site) = 23

-- 11 holds a place as well, which is 0 in all that refuses a call or a question
abbrev pub place : Refusal → ℕ
place (Sums block) = block
place (Header block) = block
place (Count site) = site
place (Slice site) = site
place (Order site) = site
place (Filler site) = site
place (Range i) = i
place (Numbering block) = block
place (Threshold block) = block
place (Nesting block) = block
place (Slices site) = site
place Length = 0
place NoQuorum = 0
place Room = 0
place Set = 0
place Receiver = 0
place Proposal = 0
place Voted = 0
place Unsent = 0
place Large = 0
place List = 0
place Unsound = 0
place Journal = 0

-- a refusal is settled by its number and its place
abbrev pub NumberSettles : Type 0
NumberSettles = (r s : Refusal) → number r ≡ number s → place r ≡ place s → r ≡ s

-- "A taken call answers 0": the byte of a check's answer, 0 or the refusal's number
abbrev pub code : Check → ℕ
code (Ok _) = 0
code (Err r) = number r
