-- Two answers that meet the contract of `last_below` coincide. What `lack` leaves is settled for every set (`Says`).
use Prim.Native.Nat.{ℕ, ◌≤◌, ◌<◌}
use mathlib.Core.List.{List}
use mathlib.Core.Logic.{⊎_elim}
use mathlib.Core.Path.{◌≡◌}
use native.Mathlib.Omega.{arith}
use lib.Dec.{ltb}
use borrow.Author.Tests.{ltb-true, ltb-false}
use Rattle.ground.proofs.Logic.{cases, clash}
use Rattle.ground.specs.Coincide.{Answers}
use Rattle.picked_words.specs.Inner.{LastBelow}
use Rattle.picked_words.proofs.last_below.Kinds as last-below-kinds
use Rattle.picked_words.proofs.last_below.Reads as last-below-reads

not-less : {sets : List ℕ} {end r u : ℕ} → LastBelow sets end r → LastBelow sets end u → r < u → ⊥
not-less {r = r} {u = u} p q l = clash (q.member (some l)) (p.none u l (q.below (some l)))
  where
    some : r < u → u ≡ 0 → ⊥
    some a b = omega arith

last-once : {sets : List ℕ} {end r u : ℕ} → LastBelow sets end r → LastBelow sets end u → r ≡ u
last-once {r = r} {u = u} p q =
    ⊎_elim (λ a. absurd (not-less p q (ltb-true r u a)))
    (λ a. ⊎_elim (λ b. absurd (not-less q p (ltb-true u r b))) (λ b. same (ltb-false r u a) (ltb-false u r b)) (cases (ltb u r))) (cases (ltb r u))
  where
    same : u ≤ r → r ≤ u → r ≡ u
    same a b = omega arith

pub last-below-coincide : Answers last-below-kinds.ps last-below-kinds.r last-below-reads.Post
last-below-coincide κs a x y s t p q = last-once p q
