-- What a `?` hands on is the refusal that the call gave.
use Rattle.std.specs.Prelude.{◌≡◌, Result, Err}
use Rattle.std.specs.Result.{IsErrAnd}
use Rattle.std.proofs.lemmas.Result.{err_from_is_err_and}
use mathlib.Core.Path.{ap, ◌∙◌}
use Rattle.refusals.specs.declared.Refusal.{Refusal}

pub passed_on : {T : Type 0} {e : Refusal} (r : Result T Refusal) → IsErrAnd r (λ x. x ≡ e) → r ≡ Err e
passed_on {e = e} r h = let p = err_from_is_err_and r h in p.1 ∙ ap (λ (x : Refusal). Err x) p.2
