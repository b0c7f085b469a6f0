-- Laws of what is said of a text: how long it is, and where nothing is.
use Prim.Native.Nat.{ℕ, ◌≤◌}
use mathlib.Core.List.{List, []}
use mathlib.Core.Path.{◌≡◌, refl}
use native.Mathlib.Omega.{arith}
use lib.ListN.{length}
use Rattle.call_words.specs.declared.Wanted.{Wanted}
use Rattle.calls_said.specs.Faults.{wanted_there, if_fewer}
use Rattle.leaflet.proofs.Lengths.{length-meaning}
use Rattle.refusals.specs.declared.Refusal as Refusal
use Rattle.text.specs.Text.{ascii}

pub length-wanted_there : (wanted : Wanted) → length (ascii (wanted_there wanted)) ≤ 200
unfolding wanted_there
length-wanted_there Wanted.Kind = omega arith
length-wanted_there Wanted.Number = omega arith
length-wanted_there Wanted.Side = omega arith
length-wanted_there Wanted.End = omega arith
length-wanted_there Wanted.Fewer = length-meaning Refusal.Refusal.List

pub said-nothing : (wanted : Wanted) (text : List ℕ) → (wanted ≡ Wanted.Fewer → ⊥) → if_fewer wanted text ≡ []
said-nothing Wanted.Kind text n = refl
said-nothing Wanted.Number text n = refl
said-nothing Wanted.Side text n = refl
said-nothing Wanted.End text n = refl
said-nothing Wanted.Fewer text n = absurd (n refl)
