-- `contain` meets its contract: of the words below w those sets are left that contain b.
use mathlib.Core.Bool.{Bool, ◌&&◌}
use mathlib.Core.List.{List}
use Prim.Native.Nat.{ℕ}
use mathlib.Core.Path.{◌≡◌, subst}
use native.Mathlib.Nat.{le_refl}
use native.Mathlib.Omega.{arith}
use Rattle.set_words.specs.Inner.{in_family, Written}
use Rattle.set_words.proofs.WordLaws.{written_none, written-more, written_all}
use Rattle.masks.specs.Mask.{within}
use Rattle.apart_words.proofs.ApartLaws.{contained}
use Rattle.apart_words.proofs.contain.Goals as goal

abbrev left : List ℕ → ℕ → ℕ → Bool
left old b s = in_family old s && within b s

pub loop-w-init : goal.loop-w-init
loop-w-init c =
    let a = c.args in written_none (left a.sets.now a.b) a.sets.now c.requires.sets_len

pub loop-w-preserved : goal.loop-w-preserved
loop-w-preserved c =
    let a = c.args in let k = c.loop-w-test.true in
    written-more (left a.sets.now a.b) c.loop-w.w _ k
    (contained a.b c.loop-w.w a.sets.now a.above.now (c.loop-w.invariant.above c.loop-w.w (le_refl c.loop-w.w)) c.requires.above c.chosen.ensures) c.loop-w.invariant

pub returns : goal.returns
returns c =
    let a = c.args in let e : c.loop-w.w ≡ 64 = omega arith in
    written_all (left a.sets.now a.b) (subst (λ (k : ℕ). Written (left a.sets.now a.b) a.sets.now k c.loop-w.sets) e c.loop-w.invariant)
