-- What stands in front of the room when a text was read is its list.
use Prim.Native.Nat.{ℕ, ◌≤◌}
use mathlib.Core.List.{List}
use mathlib.Core.Path.{◌≡◌}
use native.Mathlib.Omega.{arith}
use lib.ListN.{length, take, drop, length-append}
use lib.Seq.{take_at}
use Rattle.calls_text.proofs.Right.{made-right}
use Rattle.calls_text.specs.Reading.{read_text, text_into}
use Rattle.std.specs.Prelude.{Ok}

module _ (text room list : List ℕ) (n : ℕ) (e : (read_text text).answer ≡ Ok n) (m : list ≡ text_into text room) where
  pub in-room : n ≤ length list
  unfolding text_into
  in-room = let l = (made-right text).counted n e in rw m (omega (arith, length-append (read_text text).bytes (drop (length (read_text text).bytes) room)))

  pub filed : take n list ≡ (read_text text).bytes
  unfolding text_into
  filed = rw m (take_at (read_text text).bytes (drop (length (read_text text).bytes) room) n ((made-right text).counted n e))
