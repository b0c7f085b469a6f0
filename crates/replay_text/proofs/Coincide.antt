-- Two results that meet a contract of this crate coincide: the answers, and the lent room at exit.
use Prim.Native.Nat.{ℕ}
use mathlib.Core.List.{List}
use mathlib.Core.Path.{sym, ◌∙◌}
use Rattle.ground.specs.Coincide.{All, Answers}
use Rattle.replay_text.proofs.asked.Kinds as asked-kinds
use Rattle.replay_text.proofs.asked.Reads as asked-reads
use Rattle.replay_text.proofs.replay.Kinds as replay-kinds
use Rattle.replay_text.proofs.replay.Reads as replay-reads
use Rattle.text.proofs.Written.{once}

pub asked-coincide : Answers asked-kinds.ps asked-kinds.r asked-reads.Post
asked-coincide κs a x y s t p q = p ∙ sym q

pub replay-coincide : All replay-kinds.ps replay-kinds.r (List ℕ) (λ κs s. s.1.1.1.0.now) replay-reads.Post
replay-coincide κs a x y s t p q = once p.0 q.0
