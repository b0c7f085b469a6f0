-- `keep` meets its contract: the words below w of site v are kept.
use Rattle.sets.specs.Inner.Rows.{rules_of}
use Rattle.contents.proofs.ContentLaws.{kept-others, kept_more}
use Rattle.contents.proofs.keep.Goals as goal

pub loop-w-preserved : goal.loop-w-preserved
loop-w-preserved c =
    let a = c.args in let r = rules_of a.table.now in
    let k = c.loop-w-test.true in (
      kept-others r a.b a.v c.loop-w.w c.requires.v_bound k c.loop-w.kept c.requires.says c.lacking.ensures c.loop-w.invariant.0,
      kept_more r a.b a.v c.loop-w.w c.requires.v_bound k c.loop-w.kept c.requires.says c.lacking.ensures c.loop-w.invariant.0.long c.loop-w.invariant.1,
    )
