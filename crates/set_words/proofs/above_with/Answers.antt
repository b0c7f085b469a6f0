-- `above_with` meets its contract: the words below half + i are known.
use Prim.Native.Nat.{ℕ, ◌+◌, ◌≤◌, ◌<◌}
use mathlib.Core.Path.{◌≡◌, sym, subst}
use native.Mathlib.Omega.{arith}
use lib.ListN.{get_or, set}
use lib.Pow.{pow_mono}
use borrow.Author.Rules.{rules}
use Rattle.masks.specs.Mask.{minus}
use Rattle.set_words.specs.Inner.{Above}
use Rattle.set_words.proofs.WordLaws.{above_more}
use Rattle.set_words.proofs.above_with.Goals as goal

pub loop-i-init : goal.loop-i-init
loop-i-init c =
    let half = c.single-half.result in let list = c.args.list.now in (
      omega (arith, c.single-half.ensures, pow_mono (five c.requires.x_bound)),
      subst (λ (k : ℕ). Above k list) (plus_none half)
          (subst (λ (k : ℕ). Above k list) (sym c.single-half.ensures) c.requires.above),
    )
  where
    five : {x : ℕ} → x < 6 → x ≤ 5
    five l = omega arith

    plus_none : (k : ℕ) → k ≡ k + 0
    plus_none k = omega arith

pub loop-i-preserved : goal.loop-i-preserved
loop-i-preserved c =
    let l = c.loop-i in let h = c.single-half in let w = c.without-rest in (
      search rules,
      subst (λ (k : ℕ). Above (c.single-half.result + (c.loop-i.i + 1)) (set c.loop-i.list (c.single-half.result + c.loop-i.i) k)) (sym c.minus.ensures)
          (subst (λ (k : ℕ). Above (k + (c.loop-i.i + 1)) (set c.loop-i.list (k + c.loop-i.i) (minus (get_or c.loop-i.list c.loop-i.i 0) c.without-rest.result))) (sym c.single-half.ensures)
          (above_more c.args.x c.requires.x_bound c.without-rest.ensures c.loop-i.i (subst (λ (k : ℕ). c.loop-i.i < k) c.single-half.ensures (omega arith))
          (subst (λ (k : ℕ). Above (k + c.loop-i.i) c.loop-i.list) c.single-half.ensures c.loop-i.invariant.1))),
    )
