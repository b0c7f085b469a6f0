-- `check_sets` meets its contract: the sets before i are sound, the open levels are those that are owed before set i, and a refusal is the first.
use Prim.Native.Nat.{◌-◌}
use mathlib.Core.Path.{refl, sym, ◌∙◌}
use native.Mathlib.Omega.{arith}
use borrow.Author.Rules.{rules}
use Rattle.refusals.proofs.Passed.{passed_on}
use Rattle.refusals.proofs.First.{first_more}
use Rattle.refusals.specs.First.{first}
use Rattle.threshold_block.specs.Block.{sets_in}
use Rattle.threshold_block.proofs.Block.{sets-stop, sets-owing, sets-whole}
use Rattle.threshold_block.proofs.Opened.{innermost-owes, kept-depth, kept-first, kept_next}
use Rattle.threshold_sets.proofs.Exact.{set-sound}
use Rattle.threshold_block.proofs.check_sets.Goals as goal

pub loop-i-init : goal.loop-i-init
unfolding first
loop-i-init c =
    (search rules, refl, kept-first (sets_in c.args.b.now) _ refl, refl)

pub check_set-requires : goal.check_set-requires
check_set-requires c =
    let l = c.loop-i in record { b_len = c.requires.b_len; n_bound = c.requires.n_bound; i_bound = search rules; depth_value = kept-depth (sets_in c.args.b.now) c.loop-i.i c.loop-i.levels c.loop-i.depth c.loop-i.invariant.2 }

pub returns-in_err-check_set : goal.returns-in_err-check_set
returns-in_err-check_set c =
    let l = c.loop-i in let a = c.args in let e = c.in_err-check_set.was in passed_on c.from_residual.result c.from_residual.ensures.1
    ∙ (sym (sets-stop a.n a.place a.b.now a.many c.loop-i.i _ (omega arith) c.loop-i.invariant.3 (sym c.check_set.ensures ∙ e)))

pub enter-depth-requires : goal.enter-depth-requires
enter-depth-requires c =
    let l = c.loop-i in let a = c.args in let S = sets_in a.b.now in
    let d = kept-depth S c.loop-i.i c.loop-i.levels c.loop-i.depth c.loop-i.invariant.2 in
    let s = set-sound a.n a.place S c.loop-i.i (sym c.check_set.ensures ∙ c.in_ok-check_set.was) in record {
      levels_len = c.loop-i.invariant.1;
      le_depth = omega (arith, d, s.own-in-root);
      depth_bound = omega (arith, d, s.own-level);
      bound = innermost-owes S c.loop-i.i c.loop-i.levels c.loop-i.depth
          c.loop-i.invariant.2 (omega (arith, d, s.own-in-root));
    }

pub loop-i-preserved : goal.loop-i-preserved
loop-i-preserved c =
    let l = c.loop-i in let a = c.args in let S = sets_in a.b.now in (
      omega arith,
      c.enter-depth.ensures.2,
      kept_next S c.loop-i.i c.loop-i.levels _ c.loop-i.depth c.enter-depth.result c.enter-depth.ensures.0 c.loop-i.invariant.2,
      first_more _ _ c.loop-i.invariant.3 (sym c.check_set.ensures ∙ c.in_ok-check_set.was),
    )

pub returns-then-depth-ne0 : goal.returns-then-depth-ne0
returns-then-depth-ne0 c =
    let l = c.loop-i in let a = c.args in let S = sets_in a.b.now in
    sym (sets-owing a.n a.place a.b.now a.many c.requires.many_value (omega arith) (kept-depth S c.loop-i.i c.loop-i.levels c.loop-i.depth c.loop-i.invariant.2) c.loop-i.invariant.3 c.if-depth-ne0.true)

pub returns : goal.returns
returns c =
    let l = c.loop-i in let a = c.args in let S = sets_in a.b.now in
    sym (sets-whole a.n a.place a.b.now a.many c.requires.many_value (omega arith) (kept-depth S c.loop-i.i c.loop-i.levels c.loop-i.depth c.loop-i.invariant.2) c.loop-i.invariant.3 c.if-depth-ne0.false)
