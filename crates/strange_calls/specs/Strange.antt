-- Whether most calls of a list name a site, kind or side that there is not.
use Rattle.std.specs.Prelude.{ℕ, zero, suc, ◌+◌, ◌*◌, ◌/◌, Bool, cond, List, ltb, length}
use Rattle.pass.specs.Calls.{call_at}
use Rattle.rules.specs.Rules.{out_of_range}

-- how many of the numbers below k pass
unfoldable pub how_many : ℕ → (ℕ → Bool) → ℕ
how_many zero p = 0
how_many (suc k) p = how_many k p + cond (p k) 1 0

-- how many calls of a list answer 11: "site at or above n, kind over 2, side over 1"
unfoldable pub strange_calls : ℕ → List ℕ → ℕ
unfolding how_many out_of_range
strange_calls n list = how_many (length list / 4) (λ i. out_of_range n (call_at list i))

-- "more than half of the calls answer 11"
unfoldable pub mostly_strange : ℕ → List ℕ → Bool
unfolding strange_calls
mostly_strange n list = ltb (length list / 4) (2 * strange_calls n list)
