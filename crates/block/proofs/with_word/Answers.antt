-- `with_word` meets its contract: one wrapping turn.
use Rattle.block.proofs.Laws.{turn-s, turn-t}
use Rattle.block.proofs.with_word.Goals as goal

pub returns : goal.returns
returns c =
    let a = c.args in let pre = c.requires in let b = a.b.now in
    let es = turn-s b a.k _ c.get32-w.result pre.s_value c.get32-w.ensures in record { s_value_2 = es; t_value_2 = turn-t b a.k _ _ pre.t_value es }
