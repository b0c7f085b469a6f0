-- `run_fresh` meets its contract: the first pass from zeros all over, and those after it if it changed something.
use Prim.Native.Nat.{ℕ}
use mathlib.Core.Path.{◌≡◌}
use native.Mathlib.Omega.{arith}
use lib.ListN.{length, replicate, length-replicate}
use Rattle.asking.proofs.KnownLaws.{known-none}
use Rattle.pass.proofs.Lawful.{rows-vote}
use Rattle.sets.specs.Inner.Rows.{row_questions}
use Rattle.pass.proofs.Turns.{passed-long}
use Rattle.pass_again.proofs.Settled.{passed-told}
use Rattle.pass.specs.Calls.{calls}
use Rattle.passes.proofs.Going.{going-none, going_more, going_done}
use Rattle.passes.proofs.run_fresh.Goals as goal

pub over_all-changed-requires : goal.over_all-changed-requires
over_all-changed-requires c =
    let p = c.requires in record {
      rows = p.rows;
      fact = (going-none (rows-vote p.rows c.args.faulty) (calls c.args.list.now) c.args.state.now p.state_len (c.fill.ensures.after (λ y e. e))).sound;
      list_len =
          p.list_len;
      known = known-none (row_questions c.args.table.now c.args.n);
    }

pub returns-then-not-changed : goal.returns-then-not-changed
returns-then-not-changed c =
    let law = rows-vote c.requires.rows c.args.faulty in
    let l = calls c.args.list.now in
    going_done law l 0 (going-none law l c.args.state.now c.requires.state_len (c.fill.ensures.after (λ y e. e))) c.over_all-changed.ensures.passed (c.if-not-changed.true)

pub run_on-requires : goal.run_on-requires
run_on-requires c =
    let p = c.requires in let list = c.args.list.now in let law = rows-vote p.rows c.args.faulty in
    let G = going-none law (calls list) c.args.state.now p.state_len (c.fill.ensures.after (λ y e. e)) in
    let R = c.over_all-changed.ensures in let Z = R.passed in let k = length c.args.answers.now in
    let e = passed-long law list k p.list_len Z in
    let many : length {A = ℕ} (replicate 4096 0) ≡ 4096 = length-replicate {A = ℕ} 4096 0 in record {
      rows = p.rows;
      known = R.known_2;
      begun = record {
        fits = omega (arith, p.list_len, e);
        short = omega (arith, p.answers_len_bound, e);
        going = going_more law (calls list) 0 G Z (c.if-not-changed.false);
        told = passed-told law list k p.list_len G.sound Z;
        room = omega (arith, p.answers_len_bound, e, many);
      };
    }
