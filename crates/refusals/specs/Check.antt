-- What a call answers: a value, or a refusal. A check has no value to give.
use Rattle.std.specs.Prelude.{Result}
use Rattle.refusals.specs.declared.Refusal.{Refusal}

abbrev pub Answer : Type 0 → Type 0
Answer T = Result T Refusal

abbrev pub Check : Type 0
Check = Answer Unit
