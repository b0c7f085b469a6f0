-- What stands in front of the rooms: the table that the text is, then its image.
use Rattle.refusals.specs.Check.{Answer}
use Rattle.std.specs.Prelude.{Ok}
use Prim.Native.Nat.{ℕ, ◌-◌, ◌*◌, ◌≤◌}
use mathlib.Core.Bool.{Bool, true, false, cond}
use mathlib.Core.List.{List, ◌++◌}
use mathlib.Core.Path.{◌≡◌, refl, sym, ap, ◌∙◌}
use native.Mathlib.Omega.{arith}
use lib.Dec.{ltb}
use lib.ListN.{length, take, drop, length-append, length-drop}
use lib.Seq.{take_at}
use borrow.Author.Tests.{ltb-false}
use Rattle.image_blocks.specs.Image.{stores}
use Rattle.image_blocks.proofs.Store.{length-stores}
use Rattle.image_write.proofs.WriteLaws.{write-taken}
use Rattle.image_write.specs.Write.{write, write_into}
use Rattle.table.proofs.Table.{shape}
use Rattle.table.specs.Table.{sites}
use Rattle.table_made.specs.Made.{answer_of, made_of, numbers, made, leaves, table_in}
use Rattle.std.specs.Prelude.{Result, Ok, Err}
use Rattle.table_made.specs.declared.Fault.{Fault}
use Rattle.table_made.specs.declared.Fault.TheVariants.{Room}
use Rattle.table_shell.specs.Filed.{image_in}

pick : (b : Bool) (m : Result ℕ Fault) (n : ℕ) → cond b (Err Room) m ≡ Ok n → (b ≡ false) × (m ≡ Ok n)
pick true m n e = let z : ◌≡◌ {A = ℕ} 0 1 = cc in absurd (omega arith)
pick false m n e = (refl, e)

module _ (text : List ℕ) (n : ℕ) (h : made text 4032 ≡ Ok n) where
  told : (ltb 4032 (numbers (answer_of (made_of text).spot)) ≡ false) × (answer_of (made_of text).spot ≡ Ok n)
  unfolding made
  told = pick (ltb 4032 (numbers (answer_of (made_of text).spot))) (answer_of (made_of text).spot) n h

  pub in-room : 63 * n ≤ 4032
  in-room = omega (arith, ltb-false 4032 (numbers (answer_of (made_of text).spot)) told.0, ap numbers told.1)

  -- the room keeps its length, so that the table's numbers fill its front
  pub in-front : (room table : List ℕ) → length room ≡ 4032 → table ≡ leaves text room → length table ≡ 4032 → take (63 * n) table ≡ table_in text
  unfolding leaves table_in
  in-front room table r e l =
      let T = (made_of text).table in
      let k : numbers (made text (length room)) ≡ 63 * n = ap (λ (x : ℕ). numbers (made text x)) r ∙ ap numbers h in
      let f : table ≡ take (63 * n) T ++ drop (63 * n) room = e ∙ ap (λ (x : ℕ). take x T ++ drop x room) k in
      let d : length (drop (63 * n) room) ≡ 4032 - 63 * n = length-drop (63 * n) room ∙ ap (λ (x : ℕ). x - 63 * n) r in
      let g : length (take (63 * n) T) ≡ 63 * n =
      omega (arith, sym (ap length f) ∙ l, length-append (take (63 * n) T) (drop (63 * n) room), d, in-room) in
      ap (take (63 * n)) f ∙ take_at (take (63 * n) T) (drop (63 * n) room) (63 * n) g ∙ ap (λ (m : Result ℕ Fault). take (numbers m) T) (sym told.1)

module _ (t : List ℕ) (k : ℕ) (h : write t 32768 ≡ Ok k) where
  pub image-room : 512 * k ≤ 32768
  image-room = let w = write-taken t 32768 k h in omega (arith, (shape (length t) w.0).2, w.1)

  pub image-front : (text room image : List ℕ) (r : Answer ℕ) → t ≡ table_in text → image ≡ write_into r t room → r ≡ Ok k
      → take (512 * k) image ≡ image_in text
  unfolding image_in write_into
  image-front text room image r e f g =
      let w = write-taken t 32768 k h in
      ap (take (512 * k)) (f ∙ ap (λ (x : Answer ℕ). write_into x t room) g) ∙ take_at (stores k t) (drop (512 * k) room) (512 * k) (length-stores k t)
      ∙ ap (λ (x : ℕ). stores x t) (sym w.1) ∙ ap (λ (x : List ℕ). stores (sites (length x)) x) e
