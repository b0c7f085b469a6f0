-- `inside_listed` meets its contract: the slices are marked and handed on.
use Rattle.inside_words.proofs.InsideLaws.{marked-spread}
use Rattle.inside_words.proofs.inside_listed.Goals as goal

pub returns : goal.returns
returns c =
    let a = c.args in marked-spread a.table.now a.v c.mark_listed.ensures c.spread.ensures
