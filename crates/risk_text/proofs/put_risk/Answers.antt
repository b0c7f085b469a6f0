-- `put_risk` meets its contract: the sites' lines, and those of the first set behind them.
use native.Mathlib.Omega.{arith}
use Rattle.lines.proofs.Chain.{as-text}
use Rattle.members.proofs.Laws.{cat-le}
use Rattle.risk_text.specs.RiskText.{risk_line}
use Rattle.sets.specs.Inner.Rows.{rules_of}
use Rattle.text.proofs.Written.{then}
use Rattle.risk_text.proofs.Ways.{length-site, all_lines}
use Rattle.risk_text.proofs.put_risk.Goals as goal

pub put_first-requires : goal.put_first-requires
put_first-requires c =
    let r = rules_of c.args.table.now in
    omega (arith, c.requires.in_bounds, c.requires.n_bound, cat-le (risk_line r c.args.n) 47 c.args.n (λ i h. length-site r c.args.n i))

pub returns : goal.returns
returns c =
    let a = c.args in as-text (all_lines (rules_of a.table.now) a.n _ c.first_ruin-first.ensures)
    (then c.put_sites-at.ensures c.put_first.ensures (omega arith))
