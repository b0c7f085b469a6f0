-- `check` meets its contract: one law for each way out.
use Rattle.std.proofs.Common.{sym, ◌∙◌}
use Rattle.block.proofs.Laws.{says-size, says-s, says-t, says-0}
use Rattle.block.proofs.check.Goals as goal

pub returns-then-b-ne512 : goal.returns-then-b-ne512
returns-then-b-ne512 c =
    sym (says-size _ c.if-b-ne512.true)

pub returns-then-get32-s : goal.returns-then-get32-s
returns-then-get32-s c =
    sym (says-s _ c.if-b-ne512.false (λ e. c.if-get32-s.true (c.get32.ensures ∙ e ∙ sym c.sum_words-sums.ensures.0)))

pub returns-then-get32-t : goal.returns-then-get32-t
returns-then-get32-t c =
    sym (says-0 _ c.if-b-ne512.false (sym c.get32.ensures ∙ c.if-get32-s.false ∙ c.sum_words-sums.ensures.0)
    (sym c.get32-2.ensures ∙ c.if-get32-t.true ∙ c.sum_words-sums.ensures.1))

pub returns : goal.returns
returns c =
    sym (says-t _ c.if-b-ne512.false (sym c.get32.ensures ∙ c.if-get32-s.false ∙ c.sum_words-sums.ensures.0)
    (λ e. c.if-get32-t.false (c.get32-2.ensures ∙ e ∙ sym c.sum_words-sums.ensures.1)))
