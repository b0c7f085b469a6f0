-- `is_known` meets its contract: a pair that is left shows it.
use Prim.Native.Nat.{ℕ, ◌+◌, ◌*◌}
use mathlib.Core.Path.{ap, ◌∙◌, subst}
use lib.ListN.{get_or}
use Rattle.masks.specs.Mask.{minus}
use Rattle.known_pairs.specs.Inner.{Left}
use Rattle.known_pairs.proofs.PairLaws.{kept-shows}
use Rattle.known_pairs.proofs.is_known.Goals as goal

pub returns-then-is_left : goal.returns-then-is_left
returns-then-is_left c =
    let a = c.args in let here = c.minus-gone.ensures ∙ ap (λ (x : ℕ). minus x a.rest) c.all_below.ensures in λ e.
    kept-shows c.requires.rows a.rest c.loop-k.k c.requires.pairs c.loop-k-test.true
    (subst (λ (x : ℕ). Left a.rest x (get_or a.pairs.now (3 * c.loop-k.k) 0) (get_or a.pairs.now (3 * c.loop-k.k + 1) 0) (get_or a.pairs.now (3 * c.loop-k.k + 2) 0) c.is_left.result) here c.is_left.ensures) c.if-is_left.true
