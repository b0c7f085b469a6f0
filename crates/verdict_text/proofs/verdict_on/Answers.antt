-- `verdict_on` meets its contract: refusal 1 by the length, or the verdict on the image behind the mask.
use mathlib.Core.Path.{refl}
use Rattle.lines.proofs.Chain.{as-text, both}
use Rattle.verdict_text.proofs.Ways.{too_short, too_long, input-taken}
use Rattle.verdict_text.proofs.verdict_on.Goals as goal

pub returns-then-input-lt8 : goal.returns-then-input-lt8
returns-then-input-lt8 c =
    let r = both (as-text (too_short c.args.input.now c.if-input-lt8.true) c.put_refused.ensures) in record { text = r.0; counts = r.1 }

pub returns-then-input-gt32776 : goal.returns-then-input-gt32776
returns-then-input-gt32776 c =
    let r = both (as-text (too_long c.args.input.now c.if-input-lt8.false c.if-input-gt32776.true) c.put_refused-then-input-gt32776.ensures) in record { text = r.0; counts = r.1 }

pub returns : goal.returns
returns c =
    let r = both (as-text (input-taken c.args.input.now _ _ c.if-input-lt8.false c.if-input-gt32776.false c.get64.ensures refl) c.verdict.ensures.text) in record { text = r.0; counts = r.1 }
