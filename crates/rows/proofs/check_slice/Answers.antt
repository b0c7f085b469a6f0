-- `check_slice` meets its contract: each way out is the definition at the tests made before it.
use mathlib.Core.Path.{sym, ap, ◌∙◌}
use Rattle.masks.specs.Mask.{within}
use Rattle.rows.proofs.Row.{lacks-owner, names-above, is-first, is-above, not-above}
use Rattle.rows.proofs.check_slice.Goals as goal

pub returns-then-not-has : goal.returns-then-not-has
returns-then-not-has c =
    let a = c.args in sym (lacks-owner a.n a.owner a.place a.k a.before a.q (sym c.has.ensures ∙ c.if-not-has.true))

pub returns-then-not-within : goal.returns-then-not-within
returns-then-not-within c =
    let a = c.args in sym (names-above a.n a.owner a.place a.k a.before a.q
    (ap (within a.q) (sym c.all_below.ensures) ∙ sym c.within.ensures ∙ c.if-not-within.true))

pub returns-then-k-eq0 : goal.returns-then-k-eq0
returns-then-k-eq0 c =
    let a = c.args in sym (is-first a.n a.owner a.place a.k a.before a.q
    (sym c.has.ensures ∙ c.if-not-has.false)
    (ap (within a.q) (sym c.all_below.ensures) ∙ sym c.within.ensures ∙ c.if-not-within.false)
    c.if-k-eq0.true)

pub returns-then-before-q : goal.returns-then-before-q
returns-then-before-q c =
    let a = c.args in sym (is-above a.n a.owner a.place a.k a.before a.q
    (sym c.has.ensures ∙ c.if-not-has.false)
    (ap (within a.q) (sym c.all_below.ensures) ∙ sym c.within.ensures ∙ c.if-not-within.false)
    c.if-k-eq0.false c.if-before-q.true)

pub returns : goal.returns
returns c =
    let a = c.args in sym (not-above a.n a.owner a.place a.k a.before a.q
    (sym c.has.ensures ∙ c.if-not-has.false)
    (ap (within a.q) (sym c.all_below.ensures) ∙ sym c.within.ensures ∙ c.if-not-within.false)
    c.if-k-eq0.false c.if-before-q.false)
