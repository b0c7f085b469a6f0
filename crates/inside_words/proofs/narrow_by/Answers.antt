-- `narrow_by` meets its contract: one site more is asked.
use Rattle.inside_words.proofs.InsideLaws.{empty-zeros, fits_more}
use Rattle.sets.specs.Inner.Rows.{rules_of}
use Rattle.inside_words.proofs.narrow_by.Goals as goal

pub inside-requires : goal.inside-requires
inside-requires c =
    let p = c.requires in record { rows = p.rows; n_bound = p.n_bound; above = p.above; empty = empty-zeros }

pub narrow-requires : goal.narrow-requires
narrow-requires c =
    let p = c.requires in record { v_bound = p.v_bound; sets_len = p.says.long }

pub returns : goal.returns
returns c =
    let a = c.args in fits_more (rules_of a.table.now) a.v c.requires.says c.inside.ensures c.narrow.ensures
