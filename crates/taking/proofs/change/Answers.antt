-- `change` meets its contract: a call that is heard already changes nothing, any other that is taken changes the state; of a vote in vain only what is heard.
use mathlib.Core.Path.{refl, sym, ap, ◌∙◌}
use lib.ListN.{length}
use Rattle.rules.proofs.Answer.{takes}
use Rattle.rules.proofs.Inner.{works-heard, works-taken}
use Rattle.rules.proofs.Since.{sound-since}
use Rattle.rules.proofs.Taken.{taken-adds}
use Rattle.sets.proofs.Rows.{rows-promises}
use Rattle.sets.specs.Inner.Rows.{row_questions}
use Rattle.vain.proofs.VainLaws.{vain-taken}
use Rattle.votes.specs.Call.{call}
use Rattle.taking.proofs.change.Goals as goal

pub is_heard-requires : goal.is_heard-requires
is_heard-requires c =
    let a = c.args in let p = c.requires in record { state_len = p.sound.long; n_bound = p.rows.few-sites; in_range = (takes a.n a.faulty (call a.kind a.from a.to a.side) a.state.now p.state_value).range }

pub returns-then-is_heard : goal.returns-then-is_heard
returns-then-is_heard c =
    let a = c.args in record { works = works-heard c.requires.sound (call a.kind a.from a.to a.side) (sym c.requires.state_value) c.is_heard.ensures c.if-is_heard.true; known_2 = c.requires.known }

pub is_vain-requires : goal.is_vain-requires
is_vain-requires c =
    let a = c.args in let p = c.requires in record { state_len = p.sound.long; n_bound = p.rows.few-sites; in_range = (takes a.n a.faulty (call a.kind a.from a.to a.side) a.state.now p.state_value).range; known_len = p.known.four }

pub hear-requires : goal.hear-requires
hear-requires c =
    let a = c.args in let p = c.requires in record { state_len = p.sound.long; n_bound = p.rows.few-sites; in_range = (takes a.n a.faulty (call a.kind a.from a.to a.side) a.state.now p.state_value).range }

pub returns-then-is_vain : goal.returns-then-is_vain
returns-then-is_vain c =
    let a = c.args in let p = c.requires in let d = call a.kind a.from a.to a.side in
    let K = takes a.n a.faulty d a.state.now p.state_value in
    let vain-so = sym c.is_vain.ensures ∙ c.if-is_vain.true in record {
      works = works-taken p.sound d (sym p.state_value) c.is_heard.ensures refl c.if-is_heard.false
          (c.hear.ensures ∙ vain-taken (rows-promises p.rows) p.known p.sound K vain-so);
      known_2 = p.known;
    }

pub take-requires : goal.take-requires
take-requires c =
    let p = c.requires in let a = c.args in let K = takes a.n a.faulty (call a.kind a.from a.to a.side) a.state.now p.state_value in
    let r = K.range in record { rows = p.rows; state_len = p.sound.long; in_range = r; since = sound-since p.sound {v = a.to} {side = a.side} a.from r.side-in r.to_in K.correct }

pub note-requires : goal.note-requires
note-requires c =
    let p = c.requires in let a = c.args in let d = call a.kind a.from a.to a.side in
    let r = (takes a.n a.faulty d a.state.now p.state_value).range in
    let e = c.take.ensures in record {
      rows = p.rows;
      state_len = ap length c.take.ensures ∙ sym (taken-adds (row_questions a.table.now a.n) a.n d a.state.now).long ∙ p.sound.long;
      to_lt_n = r.to_in;
      side_bound = r.side-in;
      known = p.known;
    }

pub returns : goal.returns
returns c =
    let a = c.args in let p = c.requires in record {
      works = works-taken p.sound (call a.kind a.from a.to a.side) (sym p.state_value) c.is_heard.ensures refl c.if-is_heard.false
          c.take.ensures;
      known_2 = c.note.ensures;
    }
