-- `check` meets its contract: one law for each way out.
use Prim.Native.Nat.{ℕ}
use mathlib.Core.Path.{sym, ap, ◌∙◌}
use native.Mathlib.Omega.{arith}
use lib.ListN.{length}
use Rattle.refusals.proofs.Passed.{passed_on}
use Rattle.journal.specs.Journal.{size_of}
use Rattle.std.specs.Prelude.{Ok}
use Rattle.journal.proofs.Checking.{odd-bytes, many-bytes, bad-block, many-calls, taken}
use Rattle.journal_blocks.specs.Journal.{blocks_in}
use Rattle.journal.proofs.check.Goals as goal
use Rattle.journal.proofs.check.Goals.{then-journal-ne0-via-then-journal-ne0, then-journal-ne0-via-else-journal-ne0+then-journal-gt16896}

pub returns-then-journal-ne0 : goal.returns-then-journal-ne0
returns-then-journal-ne0 c =
    let j = c.args.journal.now in elim c.then-journal-ne0.branch [
      | then-journal-ne0-via-then-journal-ne0 w ↦ sym (odd-bytes j w.if-journal-ne0.true)
      | then-journal-ne0-via-else-journal-ne0+then-journal-gt16896 w ↦ sym (many-bytes j w.if-journal-gt16896.true)
    ]

pub returns-in_err-check_blocks : goal.returns-in_err-check_blocks
returns-in_err-check_blocks c =
    passed_on c.from_residual.result c.from_residual.ensures.1
    ∙ sym (bad-block c.args.journal.now c.if-journal-ne0.false c.if-journal-gt16896.false _
    (sym c.check_blocks.ensures ∙ c.in_err-check_blocks.was))

pub count-calls-requires : goal.count-calls-requires
count-calls-requires c =
    record { journal_len = omega (arith, c.if-journal-ne0.false); k_bound = omega (arith, c.if-journal-gt16896.false); journal_value = sym c.check_blocks.ensures ∙ c.in_ok-check_blocks.was }

pub returns-then-calls-gt4096 : goal.returns-then-calls-gt4096
returns-then-calls-gt4096 c =
    let n = c.count-calls.ensures in sym (many-calls c.args.journal.now c.if-journal-ne0.false c.if-journal-gt16896.false
    (sym c.check_blocks.ensures ∙ c.in_ok-check_blocks.was) (omega (arith, c.count-calls.ensures, c.if-calls-gt4096.true)))

pub returns : goal.returns
returns c =
    let j = c.args.journal.now in let n = c.count-calls.ensures in ap (λ (n : ℕ). Ok (size_of (blocks_in (length j)) n)) c.count-calls.ensures
    ∙ sym (taken j c.if-journal-ne0.false c.if-journal-gt16896.false
    (sym c.check_blocks.ensures ∙ c.in_ok-check_blocks.was) (omega (arith, c.count-calls.ensures, c.if-calls-gt4096.false)))
