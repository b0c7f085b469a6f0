-- How long the words of the leaflet are at most.
use Prim.Native.Nat.{◌≤◌}
use native.Mathlib.Omega.{arith}
use lib.ListN.{length}
use Rattle.leaflet.specs.Leaflet.{meaning}
use Rattle.refusals.specs.declared.Refusal.{Refusal}
use Rattle.refusals.specs.declared.Refusal.TheVariants.{Length, Sums, Header, Count, Slice, Order, NoQuorum, Filler, Room}
use Rattle.refusals.specs.declared.Refusal.TheVariants.{Set, Range, Receiver, Proposal, Voted, Unsent, Large, List, Unsound, Journal, Numbering, Threshold, Nesting, Slices}
use Rattle.text.specs.Text.{ascii}

pub length-meaning : (r : Refusal) → length (ascii (meaning r)) ≤ 200
length-meaning Length = omega arith
length-meaning (Sums block) = omega arith
length-meaning (Header block) = omega arith
length-meaning (Count site) = omega arith
length-meaning (Slice site) = omega arith
length-meaning (Order site) = omega arith
length-meaning NoQuorum = omega arith
length-meaning (Filler site) = omega arith
length-meaning Room = omega arith
length-meaning Set = omega arith
length-meaning (Range i) = omega arith
length-meaning Receiver = omega arith
length-meaning Proposal = omega arith
length-meaning Voted = omega arith
length-meaning Unsent = omega arith
length-meaning Large = omega arith
length-meaning List = omega arith
length-meaning Unsound = omega arith
length-meaning Journal = omega arith
length-meaning (Numbering block) = omega arith
length-meaning (Threshold block) = omega arith
length-meaning (Nesting block) = omega arith
length-meaning (Slices site) = omega arith
