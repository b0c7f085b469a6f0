-- Laws of a list as text: one for each way out.
use Prim.Native.Nat.{ℕ, ◌*◌, ◌%◌, ◌≤◌, ◌<◌}
use mathlib.Core.List.{List}
use mathlib.Core.Path.{◌≡◌, refl}
use mathlib.Core.Bool.{not}
use lib.Dec.{eqb}
use lib.ListN.{length}
use borrow.Author.Tests.{lt-ltb, le-ltb, eq-eqb, ne_eqb}
use Rattle.call_lines.proofs.Said.{length-call}
use Rattle.calls_listed.specs.Listed.{said_at, list_lines, list_text}
use Rattle.ground.proofs.Logic.{or-i}
use Rattle.ground.specs.Pieces.{cat}
use Rattle.refusal_lines.specs.Refused.{explained}
use Rattle.refusals.specs.declared.Refusal as Refusal
use Rattle.register.proofs.Rows.{length-rows}
use Rattle.run.specs.Run.{list_misshapen}

module _ (list : List ℕ) where
  pub odd-list : (length list % 4 ≡ 0 → ⊥) → explained Refusal.Refusal.List ≡ list_text list
  unfolding list_text list_misshapen
  odd-list ne = rw (ne_eqb (length list % 4) 0 ne) refl

  pub long-list : 16384 < length list → explained Refusal.Refusal.List ≡ list_text list
  unfolding list_text list_misshapen
  long-list h = rw (or-i (not (eqb (length list % 4) 0)) _ (lt-ltb 16384 (length list) h)) refl

  pub whole-list : length list % 4 ≡ 0 → length list ≤ 16384 → list_lines list ≡ list_text list
  unfolding list_text list_misshapen
  whole-list e l = rw (eq-eqb (length list % 4) 0 e, le-ltb 16384 (length list) l) refl

  pub rows_fit : (i : ℕ) → length (cat (said_at list) i) ≤ 84 * i
  rows_fit i = length-rows (said_at list) 84 i (λ j. length-call _ _ _ _)
