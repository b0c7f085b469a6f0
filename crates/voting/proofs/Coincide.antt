-- Two results that meet a contract of this crate coincide: the answers, and the state at exit.
use Prim.Native.Nat.{ℕ}
use mathlib.Core.List.{List}
use mathlib.Core.Path.{sym, ◌∙◌}
use Rattle.ground.specs.Coincide.{Answers, All}
use Rattle.voting.proofs.sound.Kinds as sound-kinds
use Rattle.voting.proofs.sound.Reads as sound-reads
use Rattle.voting.proofs.sound_of.Kinds as sound-of-kinds
use Rattle.voting.proofs.sound_of.Reads as sound-of-reads
use Rattle.voting.proofs.step.Kinds as step-kinds
use Rattle.voting.proofs.step.Reads as step-reads
use Rattle.voting.proofs.step_of.Kinds as step-of-kinds
use Rattle.voting.proofs.step_of.Reads as step-of-reads

pub sound-coincide : Answers sound-kinds.ps sound-kinds.r sound-reads.Post
sound-coincide κs a x y s t p q = p ∙ sym q

pub step-coincide : All step-kinds.ps step-kinds.r (List ℕ) (λ κs s. s.1.1.0.now) step-reads.Post
step-coincide κs a x y s t p q = (p.0 ∙ sym q.0, p.1 ∙ sym q.1)

pub sound-of-coincide : Answers sound-of-kinds.ps sound-of-kinds.r sound-of-reads.Post
sound-of-coincide κs a x y s t p q = p ∙ sym q

pub step-of-coincide : All step-of-kinds.ps step-of-kinds.r (List ℕ) (λ κs s. s.1.1.1.0.now) step-of-reads.Post
step-of-coincide κs a x y s t p q = (p.0 ∙ sym q.0, p.1 ∙ sym q.1)
