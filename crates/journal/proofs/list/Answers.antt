-- `list` meets its contract: the check's refusals, then the room, then the blocks.
use Prim.Native.Nat.{ℕ}
use mathlib.Core.List.{◌++◌}
use mathlib.Core.Path.{refl, sym, ap, ◌∙◌}
use native.Mathlib.Omega.{arith}
use lib.ListN.{length, drop}
use Rattle.journal.specs.Journal.{list_into}
use Rattle.refusals.proofs.Passed.{passed_on}
use Rattle.refusals.specs.Check.{Answer}
use Rattle.std.specs.Prelude.{Ok}
use Rattle.journal.proofs.Checking.{whole, list-refused, list-room, list_read}
use Rattle.journal_blocks.specs.Journal.{list_of}
use Rattle.journal.proofs.list.Goals as goal

pub overflow_mul-bytes : goal.overflow_mul-bytes
overflow_mul-bytes c =
    let w = whole c.args.journal.now _ _ (sym c.check.ensures ∙ c.in_ok-size.was) in
    omega (arith, w.few-calls)

pub returns-then-room-bytes : goal.returns-then-room-bytes
unfolding list_into
returns-then-room-bytes c =
    let j = c.args.journal.now in let w = whole j _ _ (sym c.check.ensures ∙ c.in_ok-size.was) in record { answer = sym (list-room j (length c.args.room.now) w.passed (omega (arith, w.bytes, c.if-room-bytes.true))); memory = refl }

pub list_blocks-requires : goal.list_blocks-requires
list_blocks-requires c =
    let w = whole c.args.journal.now _ _ (sym c.check.ensures ∙ c.in_ok-size.was) in record { journal_len = w.long; k_bound = w.few-blocks; journal_value = w.sound; journal_in_bounds = omega (arith, w.bytes, c.if-room-bytes.false) }

pub returns-in_err-size : goal.returns-in_err-size
unfolding list_into
returns-in_err-size c =
    let j = c.args.journal.now in let room = c.args.room.now in let e = passed_on c.from_residual.result c.from_residual.ensures.1 in record {
      answer = e ∙ sym (list-refused j (length room) _ (sym c.check.ensures ∙ c.in_err-size.was));
      memory = sym (ap (λ (r : Answer ℕ). list_into r j room) e);
    }

pub returns : goal.returns
unfolding list_into
returns c =
    let j = c.args.journal.now in let room = c.args.room.now in let w = whole j _ _ (sym c.check.ensures ∙ c.in_ok-size.was) in record {
      answer = sym (list_read j (length room) w.passed (omega (arith, w.bytes, c.if-room-bytes.false)) ∙ ap (λ (n : ℕ). Ok n) w.bytes);
      memory = c.list_blocks.ensures ∙ ap
          (λ (x : ℕ). list_of j ++ drop x room) w.bytes;
    }
