-- Two results that meet a contract of this crate coincide: the answers, and the lent room at exit.
use Prim.Native.Nat.{ℕ}
use mathlib.Core.List.{List}
use Rattle.ground.specs.Coincide.{All}
use Rattle.lines.proofs.line_text.Kinds as line-text-kinds
use Rattle.lines.proofs.line_text.Reads as line-text-reads
use Rattle.lines.proofs.line_decimal.Kinds as line-decimal-kinds
use Rattle.lines.proofs.line_decimal.Reads as line-decimal-reads
use Rattle.lines.proofs.line_answer.Kinds as line-answer-kinds
use Rattle.lines.proofs.line_answer.Reads as line-answer-reads
use Rattle.lines.proofs.line_mask.Kinds as line-mask-kinds
use Rattle.lines.proofs.line_mask.Reads as line-mask-reads
use Rattle.lines.proofs.line_sides.Kinds as line-sides-kinds
use Rattle.lines.proofs.line_sides.Reads as line-sides-reads
use Rattle.text.proofs.Written.{once}

pub line-text-coincide : All line-text-kinds.ps line-text-kinds.r (List ℕ) (λ κs s. s.0.now) line-text-reads.Post
line-text-coincide κs a x y s t p q = once p q

pub line-decimal-coincide : All line-decimal-kinds.ps line-decimal-kinds.r (List ℕ) (λ κs s. s.0.now) line-decimal-reads.Post
line-decimal-coincide κs a x y s t p q = once p q

pub line-answer-coincide : All line-answer-kinds.ps line-answer-kinds.r (List ℕ) (λ κs s. s.0.now) line-answer-reads.Post
line-answer-coincide κs a x y s t p q = once p q

pub line-mask-coincide : All line-mask-kinds.ps line-mask-kinds.r (List ℕ) (λ κs s. s.0.now) line-mask-reads.Post
line-mask-coincide κs a x y s t p q = once p q

pub line-sides-coincide : All line-sides-kinds.ps line-sides-kinds.r (List ℕ) (λ κs s. s.0.now) line-sides-reads.Post
line-sides-coincide κs a x y s t p q = once p q
