-- Two results that meet a contract coincide. `Post` is the contract's claim as the check itself makes it, of the lifetimes, the arguments, the
-- answer and the parameters at exit: no copy of the contract, but the contract.
use Rattle.std.specs.Prelude.{ℕ, List, ◌≡◌}
use borrow.Fn.Kinds.{ParamKind, ResultKind, Dens, res_t, ended_of, Out}
use contract.Lifetimes.{Lfts}
use denote.Triple.Clauses.{AtExit}

-- of answers alone
abbrev pub Answers : {n : ℕ} (ps : List (ParamKind n)) (r : ResultKind n) → Out n ps r → Type 0
Answers {n} ps r Post =
    (κs : Lfts n) (a : Dens κs ps) (x y : (res_t r κs).Denot) (s t : AtExit (ended_of n ps r) κs) → Post κs a x s → Post κs a y t → x ≡ y

-- of answers and of what is lent, as `lent` reads it from the parameters at exit
abbrev pub All : {n : ℕ} (ps : List (ParamKind n)) (r : ResultKind n) (L : Type 0) → ((κs : Lfts n) → AtExit (ended_of n ps r) κs → L) → Out n ps r → Type 0
All {n} ps r L lent Post =
    (κs : Lfts n) (a : Dens κs ps) (x y : (res_t r κs).Denot) (s t : AtExit (ended_of n ps r) κs) → Post κs a x s → Post κs a y t →
    (x ≡ y) × (lent κs s ≡ lent κs t)
