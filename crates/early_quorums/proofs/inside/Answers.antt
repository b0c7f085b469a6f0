-- `inside` meets its contract: who is no site has no slice; a row of sets is asked set by set, any other for its slices.
use mathlib.Core.Path.{sym, ◌∙◌}
use native.Mathlib.Omega.{arith}
use Rattle.early_quorums.proofs.EarlyLaws.{inside-listed, inside-met, inside-nobody}
use Rattle.early_quorums.proofs.inside.Goals as goal

pub returns-then-n-v : goal.returns-then-n-v
returns-then-n-v c =
    inside-nobody c.requires c.args.v c.if-n-v.true

pub of_sets-requires : goal.of_sets-requires
of_sets-requires c =
    record { rows = c.requires; v_lt_n = c.if-n-v.false }

pub met_word-requires : goal.met_word-requires
met_word-requires c =
    record { rows = c.requires; v_lt_n = c.if-n-v.false; v_value = sym c.of_sets.ensures ∙ c.if-of_sets.true; w_bound = omega arith }

pub returns-then-of_sets : goal.returns-then-of_sets
returns-then-of_sets c =
    inside-met c.requires c.args.v c.met_word.ensures

pub inside_listed-requires : goal.inside_listed-requires
inside_listed-requires c =
    let l = c.if-n-v.false in record { table_len = c.requires.long; listed_row = c.requires.listed c.args.v l (sym c.of_sets.ensures ∙ c.if-of_sets.false); v_lt_n = l }

pub returns : goal.returns
returns c =
    inside-listed c.requires c.args.v (sym c.of_sets.ensures ∙ c.if-of_sets.false) c.inside_listed.ensures
