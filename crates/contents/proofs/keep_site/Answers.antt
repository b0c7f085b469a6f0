-- `keep_site` meets its contract: a site of b is not asked; of another the sets are found and kept.
use Rattle.inside_words.proofs.InsideLaws.{empty-zeros}
use Rattle.contents.proofs.keep_site.Goals as goal

pub inside-requires : goal.inside-requires
inside-requires c =
    let p = c.requires in record { rows = p.rows; n_bound = p.n_bound; above = p.above; empty = empty-zeros }
