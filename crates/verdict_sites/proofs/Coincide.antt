-- Two results that meet a contract of this crate coincide: the answers, and the lent room at exit.
use Prim.Native.Nat.{ℕ}
use mathlib.Core.List.{List}
use Rattle.ground.specs.Coincide.{All}
use Rattle.text.proofs.Written.{once}
use Rattle.verdict_sites.proofs.verdict_sites.Kinds as verdict-sites-kinds
use Rattle.verdict_sites.proofs.verdict_sites.Reads as verdict-sites-reads

pub verdict-sites-coincide : All verdict-sites-kinds.ps verdict-sites-kinds.r (List ℕ) (λ κs s. s.1.1.0.now) verdict-sites-reads.Post
verdict-sites-coincide κs a x y s t p q = once p.0 q.0
