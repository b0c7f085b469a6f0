-- `put_bar` meets its contract: one law for each way out.
use mathlib.Core.Path.{sym}
use native.Mathlib.Omega.{arith}
use borrow.Author.Tests.{eq-eqb, ne_eqb}
use Rattle.text.proofs.Written.{written-nothing}
use Rattle.table_shown.proofs.put_bar.Goals as goal

pub returns-then-k-eq0 : goal.returns-then-k-eq0
returns-then-k-eq0 c =
    rw (eq-eqb _ 0 c.if-k-eq0.true) (record { place = omega arith; memory = sym (written-nothing _ _); inside = omega arith })

pub returns : goal.returns
returns c =
    let e = ne_eqb c.args.k 0 c.if-k-eq0.false in rw e c.put.ensures
