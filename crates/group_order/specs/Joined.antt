-- A group joins its site: the row of 63 numbers with one group more, in its place in ascending order.
use Rattle.std.specs.Prelude.{ℕ, ◌+◌, Bool, cond, List, [], ◌∷◌, ◌++◌, eqb, ltb, take, drop}
use Rattle.ground.specs.Search.{some}
use Rattle.rows.specs.Site.{count, slice}

-- q goes through the groups: where it is below one it takes that one's place, and that one goes on
unfoldable pub sift : ℕ → List ℕ → List ℕ
sift q [] = q ∷ []
sift q (x ∷ l) = cond (ltb q x) (q ∷ sift x l) (x ∷ sift q l)

-- the row with one group more
unfoldable pub joined : ℕ → List ℕ → List ℕ
unfolding sift
joined q m = (count m + 1) ∷ (sift q (take (count m) (drop 1 m)) ++ drop (2 + count m) m)

-- the group is there already
unfoldable pub known : ℕ → List ℕ → Bool
unfolding some
known q m = some (count m) (λ k. eqb (slice m k) q)
