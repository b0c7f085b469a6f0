-- `work_at` meets its contract: the four bytes read are the call; a refused one changes nothing, one that is answered 0 is worked out.
use mathlib.Core.Path.{sym, ◌∙◌}
use Rattle.pass.proofs.Turns.{works_at}
use Rattle.rules.proofs.Inner.{works-refused}
use Rattle.rules.specs.Inner.{row_vote}
use Rattle.taking.proofs.Handed.{same_answer}
use Rattle.votes.specs.Call.{call}
use Rattle.pass.proofs.work_at.Goals as goal

pub returns-in_default : goal.returns-in_default
returns-in_default c =
    let a = c.args in record {
      works = works_at (row_vote a.table.now a.n a.faulty) a.i a.list.now c.from-kind.ensures c.from-from.ensures c.from-to.ensures c.from-side.ensures
          (works-refused c.requires.fact (call c.from-kind.result c.from-from.result c.from-to.result c.from-side.result) c.answer-a.ensures
          c.in_default.is);
      known_2 = c.requires.known;
    }

pub change-changed-requires : goal.change-changed-requires
change-changed-requires c =
    let p = c.requires in record { rows = p.rows; sound = p.fact; state_value = sym c.answer-a.ensures ∙ c.in-Ok.is; known = p.known }

pub returns : goal.returns
returns c =
    let a = c.args in let r = c.change-changed.ensures in record {
      works = works_at (row_vote a.table.now a.n a.faulty) a.i a.list.now c.from-kind.ensures c.from-from.ensures c.from-to.ensures c.from-side.ensures
          (same_answer c.in-Ok.is r.works);
      known_2 = r.known_2;
    }
