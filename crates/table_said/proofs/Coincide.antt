-- Two results that meet a contract of this crate coincide: the answers, and the lent room at exit.
use Prim.Native.Nat.{ℕ}
use mathlib.Core.List.{List}
use mathlib.Core.Path.{sym, ◌∙◌}
use Rattle.ground.specs.Coincide.{All, Answers}
use Rattle.table_said.proofs.is_answer.Kinds as is-answer-kinds
use Rattle.table_said.proofs.is_answer.Reads as is-answer-reads
use Rattle.table_said.proofs.make.Kinds as make-kinds
use Rattle.table_said.proofs.make.Reads as make-reads
use Rattle.text.proofs.Written.{once}

pub make-coincide : All make-kinds.ps make-kinds.r (List ℕ) (λ κs s. s.1.1.0.now) make-reads.Post
make-coincide κs a x y s t p q = once p.0 q.0

pub is-answer-coincide : Answers is-answer-kinds.ps is-answer-kinds.r is-answer-reads.Post
is-answer-coincide κs a x y s t p q = p ∙ sym q
