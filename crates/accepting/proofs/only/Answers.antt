-- `only` meets its contract: the site's set, or the empty set.
use mathlib.Core.Bool.{Bool}
use mathlib.Core.Path.{sym, ap, ◌∙◌}
use Rattle.rules.specs.Rules.{only}
use Rattle.accepting.proofs.only.Goals as goal

pub returns-then-b : goal.returns-then-b
returns-then-b c =
    c.single.ensures ∙ sym (ap (λ (x : Bool). only x c.args.v) c.if-b.true)
