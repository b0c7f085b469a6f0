-- The first member of a set, asked and then taken out.
use Prim.Native.Nat.{ℕ}
use mathlib.Core.Path.{◌≡◌, sym, ap, ◌∙◌}
use Rattle.masks.specs.Mask.{single, minus}
use Rattle.one_round.specs.Inner.First.{lowest}

-- the member that is asked is the one that is taken out
pub out-next : (rest : ℕ) {m v : ℕ} → m ≡ minus rest (single (lowest rest)) → v ≡ lowest rest → m ≡ minus rest (single v)
out-next rest e q = e ∙ ap (λ (x : ℕ). minus rest (single x)) (sym q)
