-- `siren_journal_next` meets its contract: it says the call at the place, where the check takes the journal.
use Rattle.journal.specs.Journal.{check}
use Rattle.journal.specs.declared.Size.{Size}
use Rattle.journal_next.specs.declared.Next.{Next}
use Rattle.refusals.specs.Check.{Answer}
use Rattle.std.specs.Prelude.{Option}
use Rattle.said_journal.specs.Said.{of_taken}
use Rattle.telling.proofs.Laws.{said}
use Rattle.capi.proofs.siren_journal_next.Goals as goal

pub returns : goal.returns
returns c =
    let q = c.check in let x = c.next_at in let j = c.args.journal.now in let r = said (λ (n : Option Next). of_taken (check j) n) c.next_at.ensures
    (said (λ (k : Answer Size). of_taken k c.next_at.result) c.check.ensures (c.taken.ensures.answer, c.taken.ensures.memory)) in record { answer = r.0; told = r.1 }
