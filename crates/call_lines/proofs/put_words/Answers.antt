-- `put_words` meets its contract: the kind, the sites and the side.
use native.Mathlib.Omega.{arith}
use Rattle.call_lines.proofs.Said.{said-proposal, said-vote, said-accept, length-pair}
use Rattle.lines.proofs.Chain.{as-text, three}
use Rattle.text.proofs.Width.{length-decimal}
use Rattle.call_lines.proofs.put_words.Goals as goal

pub put_side-requires : goal.put_side-requires
put_side-requires c =
    omega (arith, length-decimal c.from.result)

pub returns-then-kind-eq0 : goal.returns-then-kind-eq0
returns-then-kind-eq0 c =
    let a = c.args in as-text (said-proposal a.kind a.from a.to a.side c.requires.side_value c.if-kind-eq0.true)
    (three c.put-at.ensures (rw c.from.ensures at c.put_decimal-at.ensures) c.put_side.ensures (omega arith))

pub put_side-requires-then-kind-eq1 : goal.put_side-requires-then-kind-eq1
put_side-requires-then-kind-eq1 c =
    let a = c.args in omega (arith, length-pair a.from a.to)

pub returns-then-kind-eq1 : goal.returns-then-kind-eq1
returns-then-kind-eq1 c =
    let a = c.args in as-text (said-vote a.kind a.from a.to a.side c.requires.side_value c.if-kind-eq0.false c.if-kind-eq1.true)
    (three c.put-at-then-kind-eq1.ensures c.put_pair-at.ensures c.put_side-then-kind-eq1.ensures (omega arith))

pub put_side-requires-2 : goal.put_side-requires-2
put_side-requires-2 c =
    let a = c.args in omega (arith, length-pair a.from a.to)

pub returns : goal.returns
returns c =
    let a = c.args in as-text (said-accept a.kind a.from a.to a.side c.requires.side_value c.if-kind-eq0.false c.if-kind-eq1.false)
    (three c.put-at-2.ensures c.put_pair-at-2.ensures c.put_side-2.ensures (omega arith))
