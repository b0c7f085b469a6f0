-- `put_sets` meets its contract: four lines and the two quorums, one behind the other.
use Prim.Native.Nat.{ℕ, ◌≤◌}
use mathlib.Core.List.{List, ◌++◌, append_assoc}
use mathlib.Core.Path.{◌≡◌, ap, ◌∙◌}
use native.Mathlib.Omega.{arith}
use lib.ListN.{length}
use Rattle.lines.proofs.Chain.{as-text}
use Rattle.lines.specs.Lines.{line}
use Rattle.masks.specs.Mask.{minus}
use Rattle.members.proofs.Laws.{members-line}
use Rattle.members.specs.Members.{members}
use Rattle.text.proofs.Written.{then}
use Rattle.text.specs.Text.{ascii}
use Rattle.text.specs.Written.{Writes}
use Rattle.verdict_sites.specs.Sites.{four_sets}
use Rattle.verdict_sites.proofs.put_sets.Goals as goal

four-then : {A B C D E r₀ r₁ r₂ r₃ r₄ r₅ : List ℕ} {p₀ p₁ p₂ p₃ p₄ p₅ : ℕ} → Writes A r₀ p₀ p₁ r₁ → Writes B r₁ p₁ p₂ r₂ → Writes C r₂ p₂ p₃ r₃
    → Writes D r₃ p₃ p₄ r₄ → Writes E r₄ p₄ p₅ r₅ → p₀ ≤ length r₀ → Writes ((A ++ (B ++ (C ++ D))) ++ E) r₀ p₀ p₅ r₅
four-then {A} {B} {C} {D} {E} a b c d e h = as-text (grouped A B C D E) (then (then (then (then a b h) c h) d h) e h)
  where
    grouped : (A B C D E : List ℕ) → (((A ++ B) ++ C) ++ D) ++ E ≡ (A ++ (B ++ (C ++ D))) ++ E
    grouped A B C D E = simp append_assoc

pub line_members-at-requires-2 : goal.line_members-at-requires-2
line_members-at-requires-2 c =
    let a = c.args in omega (arith, members-line (ascii "faulty sites") a.faulty)

pub line_members-at-requires-3 : goal.line_members-at-requires-3
line_members-at-requires-3 c =
    let a = c.args in omega (arith, members-line (ascii "faulty sites") a.faulty, members-line (ascii "intact sites") a.intact)

pub line_members-at-requires-4 : goal.line_members-at-requires-4
line_members-at-requires-4 c =
    let a = c.args in omega (arith, members-line (ascii "faulty sites") a.faulty, members-line (ascii "intact sites") a.intact, members-line (ascii "befouled sites") c.minus-befouled.result)

pub put_parted-requires : goal.put_parted-requires
put_parted-requires c =
    let a = c.args in omega (arith, members-line (ascii "faulty sites") a.faulty, members-line (ascii "intact sites") a.intact, members-line (ascii "befouled sites") c.minus-befouled.result, members-line (ascii "quorum sites") a.quorum)

pub returns : goal.returns
unfolding four_sets
returns c =
    let a = c.args in let befouled = c.minus-befouled.ensures ∙ ap (λ (x : ℕ). minus x a.intact) c.all_below.ensures in
    let third = as-text (ap (λ (x : ℕ). line (ascii "befouled sites") (members x)) befouled) c.line_members-at-3.ensures in
    four-then c.line_members-at.ensures c.line_members-at-2.ensures third c.line_members-at-4.ensures c.put_parted.ensures (omega arith)
