-- `check` meets its contract: a length that is refused, or the blocks of an image whose length is right.
use mathlib.Core.Path.{sym, ◌∙◌}
use native.Mathlib.Omega.{arith}
use lib.ListN.{length}
use Rattle.threshold_image.proofs.Length.{no_blocks, odd-blocks, too_many_blocks, whole-blocks, wrong-length, right-length}
use Rattle.threshold_image.proofs.check.Goals as goal

pub returns-then-n-eq0 : goal.returns-then-n-eq0
returns-then-n-eq0 c =
    let b = c.args.image.now in sym (wrong-length b (no_blocks (length b) (omega arith)))

pub returns-then-image-ne0 : goal.returns-then-image-ne0
returns-then-image-ne0 c =
    let b = c.args.image.now in sym (wrong-length b (odd-blocks (length b) (λ e. omega arith)))

pub returns-then-n-gt64 : goal.returns-then-n-gt64
returns-then-n-gt64 c =
    let b = c.args.image.now in sym (wrong-length b (too_many_blocks (length b) (omega arith)))

pub returns : goal.returns
returns c =
    let b = c.args.image.now in c.check_blocks.ensures ∙ sym (right-length b (whole-blocks (length b) (λ e. omega arith) (omega arith) (omega arith)))
