-- `check` meets its contract: a length that is refused, or the sites of a table whose length is right.
use mathlib.Core.Path.{sym, ◌∙◌}
use native.Mathlib.Omega.{arith}
use lib.ListN.{length}
use Rattle.table.proofs.Table.{odd-length, no-sites, too-many-sites, well-shaped, wrong-length, right-length}
use Rattle.table.proofs.check.Goals as goal

pub returns-then-table-ne0 : goal.returns-then-table-ne0
returns-then-table-ne0 c =
    let t = c.args.table.now in sym (wrong-length t (odd-length (length t) (λ e. omega arith)))

pub returns-then-n-eq0 : goal.returns-then-n-eq0
returns-then-n-eq0 c =
    let t = c.args.table.now in sym (wrong-length t (no-sites (length t) (omega arith)))

pub returns-then-n-gt64 : goal.returns-then-n-gt64
returns-then-n-gt64 c =
    let t = c.args.table.now in sym (wrong-length t (too-many-sites (length t) (omega arith)))

pub returns : goal.returns
returns c =
    let t = c.args.table.now in c.check_sites.ensures ∙ sym (right-length t (well-shaped (length t) (omega arith) (λ e. omega arith) (omega arith)))
