-- What a caller in C reads of a check: 0 is answered exactly where nothing is refused.
use Rattle.refusals.specs.Check.{Check}
use Rattle.std.specs.Prelude.{Ok, Err}
use Rattle.std.proofs.Common.{◌≡◌, refl}
use borrow.Author.Tests.{eqb-false}
use Rattle.refusals.proofs.Settle.{some_number}
use Rattle.refusals.specs.Refusal.{number}
use Rattle.said.specs.Said.{of_check}

sound_zero : (of_check (Ok tt)).number ≡ 0
sound_zero = refl

zero_sound : (q : Check) → (of_check q).number ≡ 0 → q ≡ Ok tt
zero_sound (Ok _) e = refl
zero_sound (Err r) e = absurd (eqb-false (number r) 0 (some_number r) e)
