-- `next` meets its contract: one case for each way that the answer goes.
use mathlib.Core.List.{List}
use Prim.Native.Nat.{ℕ}
use mathlib.Core.Path.{◌≡◌, sym, ap, ◌∙◌}
use Rattle.said_journal.specs.Said.{of_next}
use Rattle.telling.proofs.Laws.{said}
use Rattle.telling.specs.Telling.{given}
use Rattle.said_journal.proofs.next.Goals as goal

same-call : {r place n m : ℕ} {out : List ℕ} → n ≡ m → (r ≡ 0) × (out ≡ (given 1 n place).out) → (r ≡ 0) × (out ≡ (given 1 m place).out)
same-call {place = place} e p = (p.0, p.1 ∙ ap (λ (n : ℕ). (given 1 n place).out) e)

pub returns-in-Some : goal.returns-in-Some
returns-in-Some c =
    let r = said of_next (sym c.in-Some.is) (same-call c.call_number.ensures (c.give.ensures.answer, c.give.ensures.memory)) in record { answer = r.0; memory = r.1 }

pub returns-in-None : goal.returns-in-None
returns-in-None c =
    let r = said of_next (sym c.in-None.is) (c.give-in-None.ensures.answer, c.give-in-None.ensures.memory) in record { answer = r.0; memory = r.1 }
