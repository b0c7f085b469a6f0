-- `work_again` meets its contract: a call that waited is answered by whether its sender has sent it, and the byte of one that waits still is 15 already.
use mathlib.Core.Path.{refl, ◌∙◌}
use native.Mathlib.Omega.{arith}
use Rattle.pass.proofs.Turns.{works_at}
use Rattle.pass.specs.Calls.{call_at}
use Rattle.pass_again.proofs.Rounds.{again-waits, again-taken}
use Rattle.pass_again.proofs.Unsent.{sent-read, sending, sending-range, sending-kind, waits-still, taken-now}
use Rattle.rules.proofs.Inner.{works-refused}
use Rattle.rules.specs.Inner.{row_vote}
use Rattle.rules.specs.Rules.{answer}
use Rattle.votes.specs.Call.{call}
use Rattle.pass_again.proofs.work_again.Goals as goal

pub has_sent-requires : goal.has_sent-requires
has_sent-requires c =
    let a = c.args in let p = c.requires in let d = call_at a.list.now a.i in
    let w = p.waited in let S = sending a.n a.faulty d w.once w.refused in
    let r = sending-range a.n a.faulty d S in
    let k = c.from-kind.ensures in let few = p.rows.few-sites in record {
      state_len = p.fact.long;
      n_bound = few;
      le_kind = omega (arith, k, sending-kind a.n a.faulty d S);
      kind_bound = omega (arith, k, r.kind-in);
      from_bound = omega
          (arith, c.from-from.ensures, r.from_in, few);
      side_bound = omega (arith, c.from-side.ensures, r.side-in);
    }

pub returns-then-not-has_sent : goal.returns-then-not-has_sent
returns-then-not-has_sent c =
    let a = c.args in let p = c.requires in let d = call_at a.list.now a.i in
    let w = p.waited in let S = sending a.n a.faulty d w.once w.refused in
    let h = sent-read a.n d a.state.now c.from-kind.ensures c.from-from.ensures c.from-side.ensures c.has_sent.ensures in record {
      again = again-waits a.i a.answers.now
          (works-refused p.fact d (waits-still a.n a.faulty d S a.state.now h (c.if-not-has_sent.true)) refl) p.i_value;
      known_2 = p.known;
    }

pub change-changed-requires : goal.change-changed-requires
change-changed-requires c =
    let a = c.args in let p = c.requires in let s = a.state.now in
    let d = call_at a.list.now a.i in
    let w = p.waited in let S = sending a.n a.faulty d w.once w.refused in
    let ek = c.from-kind.ensures in let ef = c.from-from.ensures in let ed = c.from-side.ensures in let ev = c.from-to.ensures in let h = sent-read a.n d s ek ef ed c.has_sent.ensures in
    record {
      rows = p.rows;
      sound = p.fact;
      state_value = (λ j. answer a.n a.faulty (call (ek j) (ef j) (ev j) (ed j)) s) ∙ taken-now a.n a.faulty d S s h (c.if-not-has_sent.false);
      known =
          p.known;
    }

pub returns : goal.returns
returns c =
    let a = c.args in let r = c.change-changed.ensures in record {
      again = again-taken a.i a.answers.now
          (works_at (row_vote a.table.now a.n a.faulty) a.i a.list.now c.from-kind.ensures c.from-from.ensures c.from-to.ensures
          c.from-side.ensures r.works);
      known_2 = r.known_2;
    }
