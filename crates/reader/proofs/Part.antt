-- The part of a journal that a reader holds: all of it where the check takes it, else nothing.
use Prim.Native.Nat.{ℕ}
use mathlib.Core.List.{List, []}
use mathlib.Core.Path.{◌≡◌, ap}
use Rattle.refusals.specs.Check.{Answer}
use Rattle.journal.specs.declared.Size.{Size}
use Rattle.journal.specs.Journal.{size_of, check}
use Rattle.std.specs.Prelude.{Ok, Err}
use Rattle.reader.specs.Reader.{if_sound, sound_part}
use Rattle.refusals.specs.declared.Refusal.{Refusal}

module _ (journal : List ℕ) where
  pub all-of-it : (blocks calls : ℕ) → check journal ≡ Ok (size_of blocks calls) → sound_part journal ≡ journal
  unfolding sound_part
  all-of-it blocks calls h = ap (λ (x : Answer Size). if_sound x journal) h

  pub none-of-it : (r : Refusal) → check journal ≡ Err r → sound_part journal ≡ []
  unfolding sound_part
  none-of-it r h = ap (λ (x : Answer Size). if_sound x journal) h
