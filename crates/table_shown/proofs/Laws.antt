-- How long the pieces of a table's text are, and how they are put together.
use Prim.Native.Nat.{ℕ, ◌*◌, ◌≤◌, ◌<◌}
use mathlib.Core.Bool.{Bool, true, false, cond}
use mathlib.Core.List.{List, [], ◌++◌, append_assoc}
use mathlib.Core.Path.{◌≡◌}
use native.Mathlib.Omega.{arith}
use lib.Dec.{eqb}
use lib.ListN.{length, length-append}
use Rattle.ground.specs.Pieces.{cat}
use Rattle.lines.proofs.Chain.{as-text}
use Rattle.members.proofs.Laws.{cat-le, two_digits, length-members}
use Rattle.members.specs.Members.{members}
use Rattle.rows.specs.Site.{count, slice}
use Rattle.text.proofs.Width.{length-decimal}
use Rattle.text.proofs.Written.{then}
use Rattle.text.specs.Text.{ascii, decimal}
use Rattle.text.specs.Written.{Writes}
use Rattle.table_shown.specs.Show.{placed, row, head_line}

pub bar : (b : Bool) → length (cond b [] (ascii " |")) ≤ 2
bar true = omega arith
bar false = omega arith

pub length-placed : (m : List ℕ) (k : ℕ) → length (placed m k) ≤ 194
unfolding placed
length-placed m k = of (cond (eqb k 0) [] (ascii " |")) (members (slice m k)) (bar (eqb k 0)) (length-members (slice m k))
  where
    of : (a b : List ℕ) → length a ≤ 2 → length b ≤ 192 → length (a ++ b) ≤ 194
    of a b h g = omega (arith, length-append a b)

pub length-groups : (m : List ℕ) (k : ℕ) → length (cat (placed m) k) ≤ 194 * k
length-groups m k = cat-le (placed m) 194 k (λ i h. length-placed m i)

pub length-row : (v : ℕ) (m : List ℕ) → v < 64 → count m ≤ 62 → length (row v m) ≤ 12032
unfolding row
length-row v m h c = of (decimal v) (cat (placed m) (count m)) (two_digits v h) (omega (arith, length-groups m (count m)))
  where
    of : (a b : List ℕ) → length a ≤ 2 → length b ≤ 12028 → length (a ++ (ascii ":" ++ (b ++ ascii "\n"))) ≤ 12032
    of a b h g = omega (arith, length-append a (ascii ":" ++ (b ++ ascii "\n")), length-append b (ascii "\n"))

-- four texts
pub four : {A B C D r₀ r₁ r₂ r₃ r₄ : List ℕ} {p₀ p₁ p₂ p₃ p₄ : ℕ} → Writes A r₀ p₀ p₁ r₁ → Writes B r₁ p₁ p₂ r₂ → Writes C r₂ p₂ p₃ r₃
    → Writes D r₃ p₃ p₄ r₄ → p₀ ≤ length r₀ → Writes (A ++ (B ++ (C ++ D))) r₀ p₀ p₄ r₄
four {A} {B} {C} {D} a b c d h = as-text (grouped A B C D) (then (then (then a b h) c h) d h)
  where
    grouped : (A B C D : List ℕ) → ((A ++ B) ++ C) ++ D ≡ A ++ (B ++ (C ++ D))
    grouped A B C D = simp append_assoc

pub length-head : (n : ℕ) → length (head_line n) ≤ 27
unfolding head_line
length-head n = of (decimal n) (length-decimal n)
  where
    of : (a : List ℕ) → length a ≤ 20 → length (ascii "sites " ++ (a ++ ascii "\n")) ≤ 27
    of a h = omega (arith, length-append a (ascii "\n"))
