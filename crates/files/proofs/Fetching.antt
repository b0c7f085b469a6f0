-- A file of n bytes that was fetched stands at the start of the room.
use Prim.Native.Nat.{ℕ}
use mathlib.Core.List.{List}
use mathlib.Core.Path.{◌≡◌, subst}
use Rattle.files.specs.Files.{fetched_bytes}
use Rattle.std.proofs.Common.{Option, Some}
use Rattle.io.specs.Counts.{IsPrefixLen}

pub counts : {f : Option ℕ} {n : ℕ} (room : List ℕ) → f ≡ Some n → fetched_bytes f room → IsPrefixLen n room
counts room e h = subst (λ (x : Option ℕ). fetched_bytes x room) e h
