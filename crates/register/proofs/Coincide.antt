-- Two results that meet the contract of this crate coincide: the answers, and the lent room at exit.
use Prim.Native.Nat.{ℕ}
use mathlib.Core.List.{List}
use Rattle.ground.specs.Coincide.{All}
use Rattle.register.proofs.put_sites.Kinds as put-sites-kinds
use Rattle.register.proofs.put_sites.Reads as put-sites-reads
use Rattle.text.proofs.Written.{once}

pub put-sites-coincide : All put-sites-kinds.ps put-sites-kinds.r (List ℕ) (λ κs s. s.0.now) put-sites-reads.Post
put-sites-coincide κs a x y s t p q = once p q
