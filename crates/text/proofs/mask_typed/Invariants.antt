-- `mask_typed` meets its contract: after i turns the first i bytes are digits, and the number is theirs.
use mathlib.Core.Bool.{true}
use mathlib.Core.Path.{◌≡◌}
use Rattle.ground.specs.Search.{every}
use Rattle.text.specs.Text.{value}
use Rattle.text.proofs.Digits.{digit}
use Rattle.text.proofs.mask_typed.Given as goal

abbrev pub invariant-loop-b : goal.invariant-loop-b
invariant-loop-b l = (l.m ≡ value l.word l.b-index) × (every l.b-index (digit l.word) ≡ true)
