-- `check_set` meets its contract: each way out is the definition at the tests made before it.
use mathlib.Core.Path.{◌≡◌, sym, ap, ap₂, ◌∙◌}
use native.Mathlib.Omega.{arith}
use Rattle.masks.specs.Mask.{within, size}
use Rattle.threshold_block.specs.Block.{sets_in}
use Rattle.threshold_sets.proofs.Ways.{names-alien, threshold-zero, threshold-above, after-root, too-deep, well-placed}
use Rattle.threshold_block.proofs.check_set.Goals as goal

pub returns-then-not-within : goal.returns-then-not-within
returns-then-not-within c =
    let a = c.args in sym (names-alien a.n a.place (sets_in a.b.now) a.i
    (ap₂ within (sym c.get64-plain.ensures) (sym c.all_below.ensures) ∙ sym c.within.ensures ∙ c.if-not-within.true))

pub returns-then-threshold-eq0 : goal.returns-then-threshold-eq0
returns-then-threshold-eq0 c =
    let a = c.args in sym (threshold-zero a.n a.place (sets_in a.b.now) a.i
    (ap₂ within (sym c.get64-plain.ensures) (sym c.all_below.ensures) ∙ sym c.within.ensures ∙ c.if-not-within.false) (sym c.from-threshold.ensures ∙ c.if-threshold-eq0.true))

pub returns-then-size-from : goal.returns-then-size-from
returns-then-size-from c =
    let a = c.args in let S = sets_in a.b.now in
    let e : c.size.result ≡ size (S.plain a.i) = c.size.ensures ∙ ap size c.get64-plain.ensures in
    let x = c.from.ensures in let z = c.from-threshold.ensures in sym (threshold-above a.n a.place S a.i
    (ap₂ within (sym c.get64-plain.ensures) (sym c.all_below.ensures) ∙ sym c.within.ensures ∙ c.if-not-within.false) (omega (arith, e, x, z, c.if-size-from.true)))

pub returns-then-depth-eq0 : goal.returns-then-depth-eq0
returns-then-depth-eq0 c =
    let a = c.args in let S = sets_in a.b.now in
    let e : c.size.result ≡ size (S.plain a.i) = c.size.ensures ∙ ap size c.get64-plain.ensures in
    let x = c.from.ensures in let z = c.from-threshold.ensures in let d = c.requires.depth_value in let inside =
    ap₂ within (sym c.get64-plain.ensures) (sym c.all_below.ensures) ∙ sym c.within.ensures ∙ c.if-not-within.false in
    sym (after-root a.n a.place S a.i inside (λ g. c.if-threshold-eq0.false (z ∙ g)) (omega (arith, e, x, z, c.if-size-from.false)) (sym d ∙ c.if-depth-eq0.true))

pub returns-then-depth-gt4 : goal.returns-then-depth-gt4
returns-then-depth-gt4 c =
    let a = c.args in let S = sets_in a.b.now in
    let e : c.size.result ≡ size (S.plain a.i) = c.size.ensures ∙ ap size c.get64-plain.ensures in
    let x = c.from.ensures in let z = c.from-threshold.ensures in let d = c.requires.depth_value in let inside =
    ap₂ within (sym c.get64-plain.ensures) (sym c.all_below.ensures) ∙ sym c.within.ensures ∙ c.if-not-within.false in
    sym (too-deep a.n a.place S a.i inside (λ g. c.if-threshold-eq0.false (z ∙ g)) (omega (arith, e, x, z, c.if-size-from.false)) (omega (arith, d, c.if-depth-gt4.true)))

pub returns : goal.returns
returns c =
    let a = c.args in let S = sets_in a.b.now in
    let e : c.size.result ≡ size (S.plain a.i) = c.size.ensures ∙ ap size c.get64-plain.ensures in
    let x = c.from.ensures in let z = c.from-threshold.ensures in let d = c.requires.depth_value in let inside =
    ap₂ within (sym c.get64-plain.ensures) (sym c.all_below.ensures) ∙ sym c.within.ensures ∙ c.if-not-within.false in
    sym (well-placed a.n a.place S a.i inside (λ g. c.if-threshold-eq0.false (z ∙ g)) (omega (arith, e, x, z, c.if-size-from.false)) (λ g. c.if-depth-eq0.false (d ∙ g)) (omega (arith, d, c.if-depth-gt4.false)))
