-- "Prove once that both forms give equal answers when one is the list of smallest slices of the other".
use Rattle.refusals.specs.Check.{Answer}
use Rattle.std.specs.Prelude.{ℕ, ◌<◌, List, ◌↔◌, ◌≡◌}
use Rattle.masks.specs.Mask.{◌⊆◌}
use Rattle.questions.specs.Answers.{quorum, largest, blocks, shared, intact}
use Rattle.run.specs.Run.{ran, state_into, answers_into}
use Rattle.sets.specs.Groups.{Groups, sites_of, fbqs_in, Checked}
use Rattle.sets.specs.Paper.{Fbqs}
use Rattle.votes.specs.Call.{Call}
use Rattle.voting.specs.Step.{sound_check, step_check, step_into}

-- a slice of site v that has no other slice of it inside
pub record Smallest (S : Fbqs) (v q : ℕ) : Type 0 where
  pub slice : S.Slice v q
  pub least : (p : ℕ) → S.Slice v p → p ⊆ q → p ≡ q

-- the slices of g are the smallest slices of h
pub record SmallestOf (g h : Groups) : Type 0 where
  pub same-sites : sites_of g ≡ sites_of h
  pub slices : (v q : ℕ) → v < sites_of h → (fbqs_in g).Slice v q ↔ Smallest (fbqs_in h) v q

-- every public call gives the same answer for both, and leaves the same in what was lent
pub record EqualAnswers (g h : Groups) : Type 0 where
  pub quorums : (set : ℕ) → quorum g set ≡ quorum h set
  pub largests : (set : ℕ) → largest g set ≡ largest h set
  pub blockings : (set site : ℕ) → blocks g set site ≡ blocks h set site
  pub sharings : shared g ≡ shared h
  pub standings : (F : ℕ) → intact g F ≡ intact h F
  pub soundnesses : (F : ℕ) (s : List ℕ) → sound_check g F s ≡ sound_check h F s
  pub steps : (F : ℕ) (c : Call) (s : List ℕ) → step_check g F c s ≡ step_check h F c s
  pub states : (F : ℕ) (c : Call) (s : List ℕ) → step_into g F c s ≡ step_into h F c s
  pub runs : (F : ℕ) (list : List ℕ) (state answers : ℕ) → ran g F list state answers ≡ ran h F list state answers
  pub run-states : (r : Answer ℕ) (F : ℕ) (list room : List ℕ) → state_into r g F list room ≡ state_into r h F list room
  pub run-answers : (r : Answer ℕ) (F : ℕ) (list room : List ℕ) → answers_into r g F list room ≡ answers_into r h F list room

abbrev pub FormsEqual : Type 0
FormsEqual = (g h : Groups) → Checked g → Checked h → SmallestOf g h → EqualAnswers g h
