-- Two results that meet a contract of this crate coincide: the answers, and the lent room at exit.
use Prim.Native.Nat.{ℕ}
use mathlib.Core.List.{List}
use mathlib.Core.Path.{sym, ◌∙◌}
use Rattle.ground.specs.Coincide.{Answers, All}
use Rattle.judged_text.proofs.judge.Kinds as judge-kinds
use Rattle.judged_text.proofs.judge.Reads as judge-reads
use Rattle.judged_text.proofs.meets.Kinds as meets-kinds
use Rattle.judged_text.proofs.meets.Reads as meets-reads
use Rattle.text.proofs.Written.{once}

pub judge-coincide : All judge-kinds.ps judge-kinds.r (List ℕ) (λ κs s. s.1.1.1.0.now) judge-reads.Post
judge-coincide κs a x y s t p q = once p q

pub meets-coincide : Answers meets-kinds.ps meets-kinds.r meets-reads.Post
meets-coincide κs a x y s t p q = p ∙ sym q
