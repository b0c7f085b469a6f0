-- `is_left` meets its contract: three tests.
-- no pair is left
use Prim.Native.Nat.{ℕ}
use mathlib.Core.Bool.{true, not}
use mathlib.Core.Path.{◌≡◌, sym, ◌∙◌}
use lib.Bits.{bit_and}
use lib.Dec.{eqb}
use borrow.Author.Tests.{eqb-false}
use Rattle.ground.proofs.Logic.{clash, not_t}
use Rattle.masks.proofs.Laws.Subsets.{within-⊆}
use Rattle.known_pairs.proofs.is_left.Goals as goal
use Rattle.known_pairs.proofs.is_left.Goals.{then-within, else-within}

none : (m rest : ℕ) → not (eqb (bit_and m rest) 0) ≡ true → bit_and m rest ≡ 0 → ⊥
none m rest e = eqb-false (bit_and m rest) 0 (not_t (eqb (bit_and m rest) 0) e)

pub returns-then-p-rest-ne0 : goal.returns-then-p-rest-ne0
returns-then-p-rest-ne0 c =
    let a = c.args in elim c.if-within.branch [
      | then-within w ↦ record {
        inside = λ e. within-⊆ a.deleted a.gone (sym c.within.ensures ∙ w.if-within.true);
        first = λ e. none a.p a.rest (sym w.value-is ∙ c.if-p-rest-ne0.true);
        second = none a.q a.rest;
      }
      | else-within w ↦ absurd (clash c.if-p-rest-ne0.true (w.value-is ∙ w.if-within.false))
    ]
