-- `put_answer` meets its contract: one law for each way out.
use mathlib.Core.Path.{sym, ◌∙◌}
use native.Mathlib.Omega.{arith}
use Rattle.lines.proofs.Chain.{as-text}
use Rattle.same_lines.proofs.Lines.{length-lack-lines}
use Rattle.same_text.proofs.Ways.{said_same, said-apart}
use Rattle.text.proofs.Written.{then}
use Rattle.text.specs.Text.{ascii}
use Rattle.same_text.proofs.put_answer.Goals as goal

pub returns-then-same_lists : goal.returns-then-same_lists
returns-then-same_lists c =
    let a = c.args in as-text (said_same a.a.now a.b.now (sym c.same_lists.ensures ∙ c.if-same_lists.true)) c.put.ensures

pub put_lacks-at-requires : goal.put_lacks-at-requires
put_lacks-at-requires c =
    record { a_in_bounds = omega arith; word_len_bound = omega arith }

pub put_lacks-requires : goal.put_lacks-requires
put_lacks-requires c =
    let a = c.args in record { a_in_bounds = omega (arith, length-lack-lines (ascii "first ") a.a.now a.b.now (omega arith)); word_len_bound = omega arith }

pub returns : goal.returns
returns c =
    let a = c.args in as-text (said-apart a.a.now a.b.now (sym
    c.same_lists.ensures ∙ c.if-same_lists.false))
    (then c.put_lacks-at.ensures c.put_lacks.ensures (omega arith))
