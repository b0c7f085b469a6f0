-- `mark` meets its contract: the definition at the tests of each way out.
use mathlib.Core.Bool.{true, false}
use mathlib.Core.Path.{◌≡◌, refl, sym, ◌∙◌}
use borrow.Author.Tests.{lt-ltb, le-ltb}
use Rattle.masks.specs.Mask.{has}
use Rattle.mark.specs.Mark.{mark}
use Rattle.mark.proofs.mark.Goals as goal

pub returns-then-site-gt63 : goal.returns-then-site-gt63
unfolding mark
returns-then-site-gt63 c =
    rw (lt-ltb 63 c.args.site c.if-site-gt63.true) refl

pub returns-then-not-has : goal.returns-then-not-has
unfolding mark
returns-then-not-has c =
    let a = c.args in let e : has a.drill a.site ≡ false = sym c.has.ensures ∙ c.if-not-has.true in
    rw (le-ltb 63 a.site c.if-site-gt63.false, e) refl

pub returns-then-not-has-2 : goal.returns-then-not-has-2
unfolding mark
returns-then-not-has-2 c =
    let a = c.args in let e : has a.drill a.site ≡ true = sym c.has.ensures ∙ c.if-not-has.false in
    let f : has a.live a.site ≡ false = sym c.has-2.ensures ∙ c.if-not-has-2.true in
    rw (le-ltb 63 a.site c.if-site-gt63.false, e, f) refl

pub returns : goal.returns
unfolding mark
returns c =
    let a = c.args in let e : has a.drill a.site ≡ true = sym c.has.ensures ∙ c.if-not-has.false in
    let f : has a.live a.site ≡ true = sym c.has-2.ensures ∙ c.if-not-has-2.false in
    rw (le-ltb 63 a.site c.if-site-gt63.false, e, f) refl
