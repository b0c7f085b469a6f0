-- `meaning` meets its contract: the words of each arm are those of the leaflet.
use mathlib.Core.Path.{◌≡◌, sym, ap}
use Rattle.leaflet.specs.Leaflet.{meaning}
use Rattle.refusals.specs.declared.Refusal.{Refusal}
use Rattle.text.specs.Text.{ascii}
use Rattle.leaflet.proofs.meaning.Goals as goal

said : {r s : Refusal} → r ≡ s → ascii (meaning s) ≡ ascii (meaning r)
said e = ap (λ (x : Refusal). ascii (meaning x)) (sym e)

pub returns-in-Length : goal.returns-in-Length
returns-in-Length c = said c.in-Length.is

pub returns-in-Sums : goal.returns-in-Sums
returns-in-Sums c = said c.in-Sums.is

pub returns-in-Header : goal.returns-in-Header
returns-in-Header c = said c.in-Header.is

pub returns-in-Count : goal.returns-in-Count
returns-in-Count c = said c.in-Count.is

pub returns-in-Slice : goal.returns-in-Slice
returns-in-Slice c = said c.in-Slice.is

pub returns-in-Order : goal.returns-in-Order
returns-in-Order c = said c.in-Order.is

pub returns-in-NoQuorum : goal.returns-in-NoQuorum
returns-in-NoQuorum c = said c.in-NoQuorum.is

pub returns-in-Filler : goal.returns-in-Filler
returns-in-Filler c = said c.in-Filler.is

pub returns-in-Room : goal.returns-in-Room
returns-in-Room c = said c.in-Room.is

pub returns-in-Set : goal.returns-in-Set
returns-in-Set c = said c.in-Set.is

pub returns-in-Range : goal.returns-in-Range
returns-in-Range c = said c.in-Range.is

pub returns-in-Receiver : goal.returns-in-Receiver
returns-in-Receiver c = said c.in-Receiver.is

pub returns-in-Proposal : goal.returns-in-Proposal
returns-in-Proposal c = said c.in-Proposal.is

pub returns-in-Voted : goal.returns-in-Voted
returns-in-Voted c = said c.in-Voted.is

pub returns-in-Unsent : goal.returns-in-Unsent
returns-in-Unsent c = said c.in-Unsent.is

pub returns-in-Large : goal.returns-in-Large
returns-in-Large c = said c.in-Large.is

pub returns-in-List : goal.returns-in-List
returns-in-List c = said c.in-List.is

pub returns-in-Unsound : goal.returns-in-Unsound
returns-in-Unsound c = said c.in-Unsound.is

pub returns-in-Journal : goal.returns-in-Journal
returns-in-Journal c = said c.in-Journal.is

pub returns-in-Numbering : goal.returns-in-Numbering
returns-in-Numbering c = said c.in-Numbering.is

pub returns-in-Threshold : goal.returns-in-Threshold
returns-in-Threshold c = said c.in-Threshold.is

pub returns-in-Nesting : goal.returns-in-Nesting
returns-in-Nesting c = said c.in-Nesting.is

pub returns-in-Slices : goal.returns-in-Slices
returns-in-Slices c = said c.in-Slices.is
