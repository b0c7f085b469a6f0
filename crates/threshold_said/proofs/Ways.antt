-- The ways out of what is said of a text: one law for each.
use Prim.Native.Nat.{ℕ, ◌≤◌}
use mathlib.Core.List.{List, [], ◌++◌, append_assoc}
use mathlib.Core.Path.{◌≡◌, refl, sym, ap}
use native.Mathlib.Omega.{arith}
use lib.ListN.{length}
use Rattle.lines.proofs.Chain.{as-text}
use Rattle.refusal_lines.proofs.Lengths.{length-refused}
use Rattle.threshold_grammar.specs.declared.Why.{Why}
use Rattle.threshold_grammar.specs.declared.Why.TheVariants.{LineEnd, Nothing, Member, Bracket, Other, Rule}
use Rattle.threshold_grammar.specs.declared.Why.TheVariants.{Sites as NoSites, Count as NoCount, Owner as NoOwner, Colon as NoColon, Threshold as NoThreshold, Of as NoOf}
use Rattle.threshold_made.specs.Made.{threshold_made}
use Rattle.threshold_made.specs.declared.Fault.{Fault}
use Rattle.std.specs.Prelude.{Result}
use Rattle.threshold_said.specs.MakeText.{threshold_opening, threshold_make_lines, threshold_make_text}
use Rattle.text.proofs.Written.{then, written-nothing}
use Rattle.text.specs.Written.{Writes}

pub by_answer : (text : List ℕ) (m : Result ℕ Fault) → threshold_made text 32768 ≡ m → threshold_make_lines m ≡ threshold_make_text text
unfolding threshold_make_text
by_answer text m e = sym (ap threshold_make_lines e)

-- nothing is written, and nothing changes
pub nothing : (T room : List ℕ) → [] ≡ T → Writes T room 0 0 room
nothing T room e = as-text e (record { place = refl; memory = sym (written-nothing _ _); inside = omega arith })

-- the texts of a fault: how long the first is, and one behind the other
pub length-opening : (why : Why) → length (threshold_opening why) ≤ 50
length-opening NoSites = omega arith
length-opening NoCount = omega arith
length-opening LineEnd = omega arith
length-opening NoOwner = omega arith
length-opening Nothing = omega arith
length-opening NoColon = omega arith
length-opening NoThreshold = omega arith
length-opening NoOf = omega arith
length-opening Member = omega arith
length-opening Bracket = omega arith
length-opening Other = omega arith
length-opening (Rule r) = length-refused r

pub six : {A B C D E F r₀ r₁ r₂ r₃ r₄ r₅ r₆ : List ℕ} {p₀ p₁ p₂ p₃ p₄ p₅ p₆ : ℕ} → Writes A r₀ p₀ p₁ r₁ → Writes B r₁ p₁ p₂ r₂ → Writes C r₂ p₂ p₃ r₃
    → Writes D r₃ p₃ p₄ r₄ → Writes E r₄ p₄ p₅ r₅ → Writes F r₅ p₅ p₆ r₆ → p₀ ≤ length r₀ → Writes (A ++ (B ++ (C ++ (D ++ (E ++ F))))) r₀ p₀ p₆ r₆
six {A} {B} {C} {D} {E} {F} a b c d e f h = as-text (grouped A B C D E F) (then (then (then (then (then a b h) c h) d h) e h) f h)
  where
    grouped : (A B C D E F : List ℕ) → ((((A ++ B) ++ C) ++ D) ++ E) ++ F ≡ A ++ (B ++ (C ++ (D ++ (E ++ F))))
    grouped A B C D E F = simp append_assoc
