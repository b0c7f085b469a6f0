-- `put_sums` meets its contract: the sums look at the first 504 bytes alone.
use Rattle.std.proofs.Common.{ℕ, List, ap, ◌∙◌}
use lib.Seq.{sets}
use Rattle.block.proofs.Seal.{seal-puts}
use Rattle.le.specs.Le.{digits}
use Rattle.block.proofs.put_sums.Goals as goal

pub returns : goal.returns
returns c =
    let a = c.args in let w = c.sum_words-sums in c.put32-2.ensures
    ∙ ap (λ (x : List ℕ). sets x 508 (digits 4 c.sum_words-sums.result.t)) c.put32.ensures
    ∙ seal-puts a.b.now c.sum_words-sums.result.s c.sum_words-sums.result.t c.requires c.sum_words-sums.ensures.0 c.sum_words-sums.ensures.1
