-- Two results that meet the contract of this crate coincide: the answers, and the lent room at exit.
use Prim.Native.Nat.{ℕ}
use mathlib.Core.List.{List}
use Rattle.ground.specs.Coincide.{All}
use Rattle.leaflet.proofs.put_meaning.Kinds as put-meaning-kinds
use Rattle.leaflet.proofs.put_meaning.Reads as put-meaning-reads
use Rattle.text.proofs.Written.{once}

pub put-meaning-coincide : All put-meaning-kinds.ps put-meaning-kinds.r (List ℕ) (λ κs s. s.0.now) put-meaning-reads.Post
put-meaning-coincide κs a x y s t p q = once p q
