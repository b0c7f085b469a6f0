-- A call that is worked under one answer is worked under an equal one.
use Rattle.refusals.specs.Check.{Check}
use Prim.Native.Nat.{ℕ}
use mathlib.Core.Bool.{Bool}
use mathlib.Core.List.{List}
use mathlib.Core.Path.{◌≡◌, sym, subst}
use Rattle.votes.specs.Call.{Call}
use Rattle.votes.specs.Inner.{Works}
use Rattle.votes.specs.Vote.{Vote}

pub same_answer : {X : Vote} {c : Call} {s t : List ℕ} {a b : Check} {changed : Bool} → a ≡ b → Works X c s b changed t → Works X c s a changed t
same_answer {X} {c} {s} {t} {changed = d} e w = subst (λ (q : Check). Works X c s q d t) (sym e) w
