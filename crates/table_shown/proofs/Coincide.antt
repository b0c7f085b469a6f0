-- Two results that meet the contract of this crate coincide: the answers, and the lent room at exit.
use Prim.Native.Nat.{ℕ}
use mathlib.Core.List.{List}
use Rattle.ground.specs.Coincide.{All}
use Rattle.table_shown.proofs.show.Kinds as show-kinds
use Rattle.table_shown.proofs.show.Reads as show-reads
use Rattle.text.proofs.Written.{once}

pub show-coincide : All show-kinds.ps show-kinds.r (List ℕ) (λ κs s. s.0.now) show-reads.Post
show-coincide κs a x y s t p q = once p q
