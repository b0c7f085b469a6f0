-- `first_apart` meets its contract: with nobody deleted the table is itself.
use Prim.Native.Nat.{ℕ}
use mathlib.Core.Bool.{Bool}
use mathlib.Core.Path.{ap, ◌∙◌}
use lib.ListN.{length-replicate}
use lib.Pow.{pow_pos}
use Rattle.verdicts.specs.Verdicts.{first_apart}
use Rattle.inside_words.proofs.InsideLaws.{fits-none}
use Rattle.sets.proofs.Lawful.{deleted-none}
use Rattle.sets.proofs.Rows.{rows-lawful}
use Rattle.sets.specs.Inner.Rows.{rules_of}
use Rattle.shared_sites.proofs.first_apart.Goals as goal

pub above-requires : goal.above-requires
above-requires c =
    length-replicate {A = ℕ} 64 0

pub fitting-requires : goal.fitting-requires
fitting-requires c =
    record { rows = c.requires.rows; n_bound = c.requires.n_bound; above = c.above.ensures; says = fits-none (rules_of c.args.table.now) 0 }

pub first_apart-requires : goal.first_apart-requires
first_apart-requires c =
    record { rows = c.requires.rows; n_bound = c.requires.n_bound; b_bound = pow_pos c.args.n; above = c.above.ensures; says = c.fitting.ensures }

pub returns : goal.returns
returns c =
    c.first_apart.ensures.first ∙ ap (λ (r : ℕ → ℕ → Bool). first_apart r c.args.n) (deleted-none (rows-lawful c.requires.rows))
