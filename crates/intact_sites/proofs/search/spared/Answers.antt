-- `spared` meets its contract: the sites of rest are known, or a pair shows that those outside it are not dispensable, or it is asked.
use mathlib.Core.Path.{sym, ap, ◌∙◌}
use lib.Bits.{bit_or}
use Rattle.intact_sites.proofs.IntactLaws.{spared-known, spared-not}
use Rattle.intact_sites.proofs.search.spared.Goals as goal
use Rattle.intact_sites.proofs.search.spared.Goals.{then-within-via-then-within, then-within-via-else-within+then-is_known}

pub is_known-requires : goal.is_known-requires
is_known-requires c =
    let p = c.requires in record { rows = p.rows; pairs = p.pairs_2 }

pub returns-then-within : goal.returns-then-within
returns-then-within c =
    let a = c.args in elim c.then-within.branch [
      | then-within-via-then-within w ↦
          record { spared = spared-known a.table.now a.n a.rest c.requires.rest_value a.known (sym c.within.ensures ∙ w.if-within.true); pairs = c.requires.pairs_2 }
      | then-within-via-else-within+then-is_known w ↦
          record { spared = spared-not a.table.now a.n a.rest c.requires.rest_value a.known (w.is_known.ensures w.if-is_known.true); pairs = c.requires.pairs_2 }
    ]

pub ask-requires : goal.ask-requires
ask-requires c =
    record { rows = c.requires.rows; n_bound = c.requires.n_bound; rest_value = c.requires.rest_value; above = c.requires.above; contents = c.requires.contents; pairs_2 = c.requires.pairs_2 }

pub returns : goal.returns
returns c =
    let a = c.args in record { spared = ap (bit_or a.known) c.ask.ensures.spared; pairs = c.ask.ensures.pairs }
