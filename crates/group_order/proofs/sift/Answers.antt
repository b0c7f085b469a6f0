-- `sift` meets its contract: one law for each way out.
use Prim.Native.Nat.{ℕ, min, max}
use mathlib.Core.Bool.{cond}
use mathlib.Core.Path.{◌≡◌, refl, ◌∙◌}
use native.Mathlib.Omega.{arith}
use lib.Dec.{ltb}
use Rattle.std.proofs.lemmas.Bool.Decides.{nat_tests}
use Rattle.group_order.proofs.Laws.{go_on, at-end}
use Rattle.group_order.proofs.sift.Goals as goal

-- the smaller of two and the larger, by one test
smaller : (a b : ℕ) → min a b ≡ cond (ltb a b) a b
smaller a b = grind (arith, nat_tests)

larger : (a b : ℕ) → max a b ≡ cond (ltb a b) b a
larger a b = grind (arith, nat_tests)

pub loop-k-preserved : goal.loop-k-preserved
loop-k-preserved c =
    go_on c.loop-k.invariant (omega arith) c.loop-k-test.true _ c.min.result c.max-c.result refl (c.min.ensures ∙ smaller _ _) (c.max-c.ensures ∙ larger _ _)

pub returns : goal.returns
returns c = at-end c.loop-k.invariant (omega arith) (omega arith)
