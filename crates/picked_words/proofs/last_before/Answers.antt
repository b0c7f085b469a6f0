-- `last_before` meets its contract: the words from k on have none.
use Prim.Native.Nat.{ℕ, ◌+◌, ◌-◌, ◌*◌, ◌≤◌, ◌<◌}
use mathlib.Core.Path.{◌≡◌, refl, subst}
use native.Mathlib.Nat.{le_refl}
use native.Mathlib.Omega.{arith}
use lib.ListN.{get_or}
use borrow.Author.Rules.{rules}
use Rattle.picked_words.proofs.PickedLaws.{none_before, found_in}
use Rattle.picked_words.proofs.last_before.Goals as goal

back : {k : ℕ} → 0 < k → (k - 1 + 1) * 64 ≡ k * 64
back l = omega arith

pub returns-then-word-ne0 : goal.returns-then-word-ne0
returns-then-word-ne0 c =
    let a = c.args in let l = c.loop-k in let t = c.loop-k-test.true in let e = c.last.ensures in found_in a.sets.now (c.loop-k.k - 1) 64 (a.w * 64) (get_or a.sets.now (c.loop-k.k - 1) 0)
    c.last.result (le_refl 64) (omega (arith, t, c.loop-k.invariant.0)) (λ y ly. refl) e.below
    (λ u p q. c.loop-k.invariant.2 u (omega (arith, t, p)) q) c.last.ensures

pub loop-k-preserved : goal.loop-k-preserved
loop-k-preserved c =
    let a = c.args in let l = c.loop-k in let t = c.loop-k-test.true in
    (search rules, c.loop-k.invariant.1, none_before a.sets.now (c.loop-k.k - 1) (a.w * 64) c.if-word-ne0.false (λ u p q. c.loop-k.invariant.2 u (subst (λ (x : ℕ). x ≤ u) (back t) p) q))
