-- The order of refusals: the first check that refuses gives the answer.
use Rattle.std.specs.Prelude.{ℕ, zero, suc, Bool, true, false}
use Rattle.refusals.specs.Check.{Check}
use Rattle.std.specs.Prelude.{Ok, Err}
use Rattle.refusals.specs.declared.Refusal.{Refusal}

-- the first's answer, or where it is sound the second's
abbrev pub or_else : Check → Check → Check
or_else (Ok _) y = y
or_else (Err r) y = Err r

-- refused where the test holds
abbrev pub refuse : Bool → Refusal → Check
refuse true r = Err r
refuse false r = Ok tt

-- the first refusal among f 0, f 1, .. f (n - 1)
unfoldable pub first : (ℕ → Check) → ℕ → Check
first f zero = Ok tt
first f (suc n) = or_else (first f n) (f n)
