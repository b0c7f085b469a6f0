-- What is proved of the rules, from the sets' promises alone.
use Rattle.std.specs.Prelude.{ℕ, ◌<◌, false, List, ◌↔◌, ◌≡◌, Ok}
use Rattle.masks.specs.Mask.{◌∈◌}
use Rattle.sets.specs.Paper.{Fbqs}
use Rattle.sets.specs.Promises.{Questions, Promises}
use Rattle.rules.specs.Rules.{answer}
use Rattle.rules.specs.Sound.{Sound, unsound}
use Rattle.rules.specs.State.{width, Below}
use Rattle.rules.specs.Vote.{vote}
use Rattle.votes.specs.Call.{Call}
use Rattle.votes.specs.Vote.{fresh, step}

-- what the rules rest on: the promises, and that each of the n sites is a site of the FBQS that it sees
pub record Rests (S : ℕ → Fbqs) (Q : Questions) (n : ℕ) : Type 0 where
  pub promises : Promises S Q
  pub sites : (v : ℕ) → v < n → v ∈ (S v).sites

-- "A fresh state is sound."
abbrev pub FreshSound : Type 1
FreshSound = (S : ℕ → Fbqs) (Q : Questions) (n F : ℕ) → Rests S Q n → Sound Q n F (fresh (width n))

-- a step from a sound state ends in a sound state
abbrev pub StepSound : Type 1
StepSound =
    (S : ℕ → Fbqs) (Q : Questions) (n F : ℕ) → Rests S Q n → (c : Call) (s : List ℕ) → Sound Q n F s → Sound Q n F (step (vote Q n F) c s)

-- a step only adds
abbrev pub StepAdds : Type 0
StepAdds = (Q : Questions) (n F : ℕ) (c : Call) (s : List ℕ) → Below s (step (vote Q n F) c s)

-- a call once taken changes nothing in any later sound state
abbrev pub TakenStays : Type 1
TakenStays =
    (S : ℕ → Fbqs) (Q : Questions) (n F : ℕ) → Rests S Q n → (c : Call) (s t : List ℕ) → Sound Q n F s → answer n F c s ≡ Ok tt →
    Below (step (vote Q n F) c s) t → Sound Q n F t → step (vote Q n F) c t ≡ t

-- 18 is exactly "not sound"
abbrev pub SoundExact : Type 0
SoundExact = (Q : Questions) (n F : ℕ) (s : List ℕ) → (unsound Q n F s ≡ false) ↔ Sound Q n F s
