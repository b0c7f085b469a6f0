-- `put_site` meets its contract: the site, a blank, how many others are befouled.
use native.Mathlib.Omega.{arith}
use Rattle.lines.proofs.Chain.{as-text, three}
use Rattle.sets.specs.Inner.Rows.{rules_of}
use Rattle.text.proofs.Width.{length-decimal}
use Rattle.risk_text.proofs.Ways.{site-line}
use Rattle.risk_text.proofs.put_site.Goals as goal

pub line_decimal-requires : goal.line_decimal-requires
line_decimal-requires c =
    omega (arith, c.requires.at_in_bounds, length-decimal c.args.v)

pub returns : goal.returns
returns c =
    as-text (site-line (rules_of c.args.table.now) c.args.n c.args.v _ c.taken_along-others.ensures)
    (three c.put-at.ensures c.put_decimal-at.ensures c.line_decimal.ensures (omega (arith, c.requires.at_in_bounds)))
