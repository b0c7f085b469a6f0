-- `put_verdict` meets its contract: seven lines, one behind the other.
use mathlib.Core.Path.{ap, ◌∙◌}
use native.Mathlib.Omega.{arith}
use Rattle.lines.proofs.Chain.{as-text, seven}
use Rattle.lines.proofs.Lengths.{decimal-line, mask-line, answer-line}
use Rattle.lines.specs.Lines.{line}
use Rattle.masks.specs.Mask.{minus}
use Rattle.verdict_lines.specs.Verdict.{seven_lines}
use Rattle.text.specs.Text.{ascii, mask}
use Rattle.verdict_lines.proofs.put_verdict.Goals as goal

pub line_mask-at-requires : goal.line_mask-at-requires
line_mask-at-requires c =
    omega (
      arith,
      decimal-line (ascii "sites ") c.args.sites,
    )

pub line_answer-at-requires : goal.line_answer-at-requires
line_answer-at-requires c =
    omega (
      arith,
      decimal-line (ascii "sites ") c.args.sites,
      mask-line (ascii "faulty ") c.args.faulty,
    )

pub line_mask-at-requires-2 : goal.line_mask-at-requires-2
line_mask-at-requires-2 c =
    omega (
      arith,
      decimal-line (ascii "sites ") c.args.sites,
      mask-line (ascii "faulty ") c.args.faulty,
      answer-line (ascii "meet ") c.args.meet,
    )

pub line_mask-at-requires-3 : goal.line_mask-at-requires-3
line_mask-at-requires-3 c =
    omega (
      arith,
      decimal-line (ascii "sites ") c.args.sites,
      mask-line (ascii "faulty ") c.args.faulty,
      answer-line (ascii "meet ") c.args.meet,
      mask-line (ascii "intact ") c.args.intact,
    )

pub line_mask-at-requires-4 : goal.line_mask-at-requires-4
line_mask-at-requires-4 c =
    omega (
      arith,
      c.requires,
      decimal-line (ascii "sites ") c.args.sites,
      c.line_decimal-at.ensures.place,
      c.line_decimal-at.auto.room,
      mask-line (ascii "faulty ") c.args.faulty,
      c.line_mask-at.ensures.place,
      c.line_mask-at.auto.room,
      answer-line (ascii "meet ") c.args.meet,
      c.line_answer-at.ensures.place,
      c.line_answer-at.auto.room,
      mask-line (ascii "intact ") c.args.intact,
      c.line_mask-at-2.ensures.place,
      c.line_mask-at-2.auto.room,
      mask-line (ascii "befouled ") c.minus-befouled.result,
    )

pub line_decimal-requires : goal.line_decimal-requires
line_decimal-requires c =
    omega (
      arith,
      c.requires,
      decimal-line (ascii "sites ") c.args.sites,
      c.line_decimal-at.ensures.place,
      c.line_decimal-at.auto.room,
      mask-line (ascii "faulty ") c.args.faulty,
      c.line_mask-at.ensures.place,
      c.line_mask-at.auto.room,
      answer-line (ascii "meet ") c.args.meet,
      c.line_answer-at.ensures.place,
      c.line_answer-at.auto.room,
      mask-line (ascii "intact ") c.args.intact,
      c.line_mask-at-2.ensures.place,
      c.line_mask-at-2.auto.room,
      mask-line (ascii "befouled ") c.minus-befouled.result,
      mask-line (ascii "quorum ") c.args.quorum,
    )

pub shape_of-room : goal.shape_of-room
shape_of-room c =
    c.line_decimal.auto.room ∙ c.line_mask-at-4.auto.room ∙ c.line_mask-at-3.auto.room ∙ c.line_mask-at-2.auto.room ∙ c.line_answer-at.auto.room
    ∙ c.line_mask-at.auto.room ∙ c.line_decimal-at.auto.room

pub returns : goal.returns
unfolding seven_lines
returns c =
    let befouled = c.minus-befouled.ensures ∙ ap (λ x. minus x c.args.intact) c.all_below.ensures in
    seven c.line_decimal-at.ensures c.line_mask-at.ensures c.line_answer-at.ensures c.line_mask-at-2.ensures
    (as-text (ap (λ x. line (ascii "befouled ") (mask x)) befouled) c.line_mask-at-3.ensures) c.line_mask-at-4.ensures c.line_decimal.ensures
    (omega arith)
