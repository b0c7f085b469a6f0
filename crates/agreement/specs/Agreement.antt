-- The union's promise, of the public step and of the public run. 004, theorem 5: "Consider the protocol in Figure 1 for federated voting over an FBQS
-- ⟨V, Q⟩ that enjoys quorum intersection. If two correct servers v₁ and v₂ confirm statements a and ā respectively, then no intact server exists."
use Rattle.std.specs.Prelude.{ℕ, List, [], ◌∷◌}
use Rattle.masks.specs.Mask.{◌∈◌}
use Rattle.rules.specs.State.{confirmed, width, get}
use Rattle.run.specs.Theorems.{Taken, end_state}
use Rattle.sets.specs.Groups.{Groups, fbqs_in, sites_of}
use Rattle.sets.specs.Paper.{Fbqs, Intersection, Intact}
use Rattle.votes.specs.Call.{Call}
use Rattle.votes.specs.Vote.{fresh}
use Rattle.voting.specs.Step.{step_into}

-- "every two quorums of the whole table share a site, and at least one site is intact under F, both by definition"
pub record Premises (S : Fbqs) (F : ℕ) : Type 0 where
  pub shared : Intersection S
  pub site : ℕ
  pub intact : Intact S F site

-- "no correct site may confirm drill while a correct site confirms live, and none both", of a state of n sites
pub record Agreed (n F : ℕ) (s : List ℕ) : Type 0 where
  pub no-two : (v w : ℕ) → (v ∈ F → ⊥) → (w ∈ F → ⊥) → v ∈ get s (confirmed n 0) → w ∈ get s (confirmed n 1) → ⊥
  pub none_both : (v : ℕ) → (v ∈ F → ⊥) → v ∈ get s (confirmed n 0) → v ∈ get s (confirmed n 1) → ⊥

-- what the public step leaves of a state, call after call, "refused calls among them"
abbrev pub steps_into : Groups → ℕ → List Call → List ℕ → List ℕ
steps_into t F [] s = s
steps_into t F (c ∷ l) s = steps_into t F l (step_into t F c s)

-- "of every sequence of steps .. from a fresh state": a table or a set that is refused leaves the fresh state as it is, which is agreed too
abbrev pub StepsAgree : Type 0
StepsAgree =
    (t : Groups) (F : ℕ) (l : List Call) → Premises (fbqs_in t) F →
    Agreed (sites_of t) F (steps_into t F l (fresh (width (sites_of t))))

-- "and of every run"
abbrev pub RunAgrees : Type 0
RunAgrees =
    (t : Groups) (F : ℕ) (list state answers : List ℕ) (p : ℕ) → Taken t F list state answers p → Premises (fbqs_in t) F →
    Agreed (sites_of t) F (end_state t F list state p)
