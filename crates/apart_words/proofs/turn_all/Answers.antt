-- `turn_all` meets its contract: the sites below x are turned.
use Prim.Native.Nat.{ℕ}
use mathlib.Core.Path.{◌≡◌, subst}
use native.Mathlib.Omega.{arith}
use Rattle.apart_words.specs.Inner.{Turned}
use Rattle.apart_words.proofs.Turning.{turned_none, turned_more}
use Rattle.apart_words.proofs.turn_all.Goals as goal

pub loop-x-init : goal.loop-x-init
loop-x-init c =
    turned_none c.args.b c.args.words.now c.requires

pub turn_unless-requires : goal.turn_unless-requires
turn_unless-requires c =
    record { x_bound = c.loop-x-test.true; words_len = c.loop-x.invariant.long }

pub loop-x-preserved : goal.loop-x-preserved
loop-x-preserved c =
    let a = c.args in turned_more a.b c.loop-x.x c.loop-x-test.true c.loop-x.invariant c.turn_unless.ensures

pub returns : goal.returns
returns c =
    let a = c.args in let e : c.loop-x.x ≡ 6 = omega arith in
    subst (λ (k : ℕ). Turned a.b k a.words.now c.loop-x.words) e c.loop-x.invariant
