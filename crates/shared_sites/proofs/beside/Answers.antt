-- `beside` meets its contract: it is the largest quorum in the rest.
use Prim.Native.Nat.{ℕ}
use mathlib.Core.Path.{ap, ◌∙◌}
use Rattle.masks.specs.Mask.{minus}
use Rattle.sets.specs.Quorum.{largest}
use Rattle.sets.specs.Inner.Rows.{rules_of}
use Rattle.verdicts.specs.Verdicts.{beside}
use Rattle.shared_sites.proofs.beside.Goals as goal

pub returns : goal.returns
unfolding beside
returns c =
    let a = c.args in c.largest_set.ensures
    ∙ ap (largest (rules_of a.table.now).inside a.n) (c.minus.ensures ∙ ap (λ (x : ℕ). minus x a.p) c.all_below.ensures)
