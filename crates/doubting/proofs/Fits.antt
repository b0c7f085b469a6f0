-- A list that was read fits the room that was lent for it.
use Prim.Native.Nat.{ℕ, ◌≤◌}
use mathlib.Core.List.{List}
use mathlib.Core.Path.{◌≡◌, refl, subst}
use native.Mathlib.Omega.{arith}
use lib.Dec.{ltb}
use lib.ListN.{length}
use borrow.Author.Tests.{ltb-false}
use Rattle.journal.specs.Journal.{journal_check, list_check, listed, to_listed}
use Rattle.journal_blocks.specs.Journal.{list_of}
use Rattle.refusals.proofs.First.{or_else-sound, kept}
use Rattle.refusals.specs.First.{refuse}
use Rattle.refusals.specs.Check.{Check}
use Rattle.std.specs.Prelude.{Ok, Err}
use Rattle.refusals.specs.declared.Refusal as Refusal

read_whole : (b : ℕ) (q : Check) (n : ℕ) → to_listed b q ≡ Ok n → (q ≡ Ok tt) × (b ≡ n)
read_whole b (Ok _) n e = (refl, cc)
read_whole b (Err r) n e = let z : ◌≡◌ {A = ℕ} 0 1 = cc in absurd (omega arith)

pub listed-fits : (j : List ℕ) (room n : ℕ) → listed j room ≡ Ok n → n ≤ room
unfolding listed list_check
listed-fits j room n e =
    let x = read_whole (length (list_of j)) (list_check j room) n e in
    subst (λ (k : ℕ). k ≤ room) x.1
    (ltb-false room (length (list_of j)) (kept (ltb room (length (list_of j))) Refusal.Refusal.Room (or_else-sound (journal_check j) (refuse (ltb room (length (list_of j))) Refusal.Refusal.Room) x.0).1))
