-- The theorems of the step: it only adds, keeps a state sound, and a call once taken changes nothing ever after.
use Prim.Native.Nat.{ℕ}
use mathlib.Core.List.{List}
use mathlib.Core.Logic.{⊎_elim}
use mathlib.Core.Path.{sym, subst}
use Rattle.sets.specs.Paper.{Fbqs}
use Rattle.sets.specs.Promises.{Questions, Promises}
use Rattle.rules.specs.Sound.{Sound}
use Rattle.rules.specs.State.{Below}
use Rattle.rules.specs.Theorems.{StepSound, StepAdds, TakenStays}
use Rattle.rules.proofs.Answer.{Takes, takes, step-taken, step-cases}
use Rattle.rules.proofs.Heard.{heard-grows}
use Rattle.rules.proofs.Inner.{heard-still, step-heard}
use Rattle.rules.proofs.Kept.{taken-sound}
use Rattle.rules.proofs.State.{below-refl}
use Rattle.rules.proofs.Taken.{taken-adds, taken_mono}
use Rattle.votes.specs.Call.{Call}
use Rattle.votes.specs.Vote.{step}
use Rattle.rules.specs.Vote.{vote}

pub step-sound : StepSound
step-sound Σ Q n F R c s S =
    ⊎_elim (λ e. subst (Sound Q n F) (sym e) S) (λ x. subst (Sound Q n F) (sym x.1) (taken-sound S x.0 R.promises)) (step-cases n F c s Q)

pub step-adds : StepAdds
step-adds Q n F c s = ⊎_elim (λ e. subst (Below s) (sym e) (below-refl s)) (λ x. subst (Below s) (sym x.1) (taken-adds Q n c s))
    (step-cases n F c s Q)

-- a step grows with the state where the call is taken in both
pub step-mono : {Σ : ℕ → Fbqs} {Q : Questions} {n F : ℕ} {c : Call} {s t : List ℕ} → Promises Σ Q → Takes n F c s → Takes n F c t → Below s t →
    Below (step (vote Q n F) c s) (step (vote Q n F) c t)
step-mono {Q = Q} {n} {F} {c} {s} {t} P K U b = rw (step-taken n F c s Q K, step-taken n F c t Q U) (taken_mono P n c b)

pub taken-stays : TakenStays
taken-stays Σ Q n F R c s t S e b K = heard-still K c (heard-grows n c (step (vote Q n F) c s) b (step-heard S c (takes n F c s e)))
