-- `far` meets its contract: the eights of every eighth word are joined one after the other.
use Prim.Native.Nat.{ℕ}
use mathlib.Core.Path.{◌≡◌, subst}
use native.Mathlib.Omega.{arith}
use Rattle.spread_words.specs.Inner.{Joined, far_place}
use Rattle.spread_words.proofs.Joining.{joined-none, joined-more, far-inside, far-alone}
use Rattle.spread_words.proofs.far.Goals as goal

pub loop-k-init : goal.loop-k-init
loop-k-init c =
    joined-none far_place far-inside far-alone c.args.words.now c.requires

pub loop-k-preserved : goal.loop-k-preserved
loop-k-preserved c =
    rw c.join.ensures (joined-more far_place far-inside far-alone c.loop-k.k c.loop-k-test.true c.loop-k.invariant)

pub returns : goal.returns
returns c =
    let old = c.args.words.now in let e : c.loop-k.k ≡ 8 = omega arith in
    subst (λ (k : ℕ). Joined far_place old k c.loop-k.words) e c.loop-k.invariant
