-- Two lists of calls beside each other.
use Rattle.std.specs.Prelude.{ℕ, ◌+◌, ◌*◌, ◌/◌, Bool, ◌&&◌, ◌||◌, List, eqb, length, get_or}
use Rattle.ground.specs.Search.{some, every}

-- call i of the list is this one
unfoldable pub is_call : List ℕ → ℕ → ℕ → ℕ → ℕ → ℕ → Bool
is_call list i kind from to side =
    eqb (get_or list (4 * i) 0) kind && (eqb (get_or list (4 * i + 1) 0) from && (eqb (get_or list (4 * i + 2) 0) to && eqb (get_or list (4 * i + 3) 0) side))

-- one of the first n calls is this one
unfoldable pub has_call : ℕ → List ℕ → ℕ → ℕ → ℕ → ℕ → Bool
unfolding is_call some
has_call n list kind from to side = some n (λ i. is_call list i kind from to side)

-- one of the first n calls of b is call i of a
unfoldable pub has_that : ℕ → List ℕ → List ℕ → ℕ → Bool
unfolding has_call
has_that n b a i = has_call n b (get_or a (4 * i) 0) (get_or a (4 * i + 1) 0) (get_or a (4 * i + 2) 0) (get_or a (4 * i + 3) 0)

-- every call of a is one of b
unfoldable pub covers : List ℕ → List ℕ → Bool
unfolding has_that every
covers a b = every (length a / 4) (has_that (length b / 4) b a)

-- "the same calls, in whichever order and with whichever repeats"
unfoldable pub same_lists : List ℕ → List ℕ → Bool
unfolding covers
same_lists a b = covers a b && covers b a

-- the side is proposed to the site, in one of the lists
unfoldable pub proposed : List ℕ → List ℕ → ℕ → ℕ → Bool
unfolding has_call
proposed a b v side = has_call (length a / 4) a 0 v v side || has_call (length b / 4) b 0 v v side
