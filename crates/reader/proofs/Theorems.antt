-- What a reader of a journal gives, where the check takes the journal and where it refuses it.
use Prim.Native.Nat.{ℕ}
use mathlib.Core.List.{List, []}
use mathlib.Core.Path.{sym, ap, subst, ◌∙◌}
use native.Mathlib.Omega.{arith}
use Rattle.journal_next.proofs.Reading.{no_block}
use Rattle.journal_next.proofs.Theorems.{reader-gives}
use Rattle.journal_next.specs.Next.{next}
use Rattle.journal_next.specs.Theorems.{Gives}
use Rattle.journal_blocks.specs.Journal.{list_of}
use Rattle.reader.proofs.Part.{all-of-it, none-of-it}
use Rattle.reader.specs.Reader.{OpenGives, RefusedGivesNone}

pub open_gives : OpenGives
open_gives j blocks calls h = subst (λ (x : List ℕ). Gives x (list_of j)) (sym (all-of-it j blocks calls h)) (reader-gives j blocks calls h)

pub refused-gives-none : RefusedGivesNone
refused-gives-none j r h place = ap (λ (x : List ℕ). next x place) (none-of-it j r h) ∙ no_block [] place (omega arith)
