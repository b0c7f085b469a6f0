-- `turn_word` meets its contract: sets without the site are shifted up, those with it down.
use Prim.Native.Nat.{ℕ, ◌*◌, ◌/◌, ◌%◌, ◌^◌}
use mathlib.Core.Path.{sym, subst}
use native.Mathlib.Omega.{arith}
use lib.Bits.{bit_and, bit_or}
use lib.Pow.{pow-lt}
use Rattle.apart_words.specs.Inner.{Turn}
use Rattle.apart_words.proofs.Turning.{turn_is}
use Rattle.apart_words.proofs.turn_word.Goals as goal

pub overflow_shr-result : goal.overflow_shr-result
overflow_shr-result c =
    omega (arith, c.single-by.ensures, pow-lt c.requires)

pub overflow_shl-result : goal.overflow_shl-result
overflow_shl-result c =
    omega (arith, c.single-by.ensures, pow-lt c.requires)

pub returns : goal.returns
returns c =
    let a = c.args in let w = c.without-rest in subst
    (λ (k : ℕ). Turn a.x a.word (bit_or (bit_or (bit_and a.word c.without-rest.result) (bit_and (a.word / 2 ^ k) c.without-rest.result)) (bit_and a.word c.without-rest.result * 2 ^ k % 2 ^ 64)))
    (sym c.single-by.ensures)
    (turn_is a.x a.word c.without-rest.result c.requires c.without-rest.ensures)
