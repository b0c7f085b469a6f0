-- `inside` meets its contract: who is no site has no slice; a row of sets is asked set by set, any other for its slices.
use mathlib.Core.Path.{sym, ◌∙◌}
use Rattle.inside_words.proofs.InsideLaws.{says-listed, says-nobody}
use Rattle.inside_words.proofs.inside.Goals as goal

pub returns-then-n-v : goal.returns-then-n-v
returns-then-n-v c =
    says-nobody c.requires.rows c.args.v c.if-n-v.true c.requires.empty

pub returns : goal.returns
returns c =
    says-listed c.requires.rows c.args.v (sym c.of_sets.ensures ∙ c.if-of_sets.false) c.inside_listed.ensures
