-- `put_refusal` meets its contract: two texts, one behind the other.
use native.Mathlib.Omega.{arith}
use Rattle.text.proofs.Written.{then}
use Rattle.same_text.specs.SameText.{refused_list}
use Rattle.same_text.proofs.put_refusal.Goals as goal

pub returns : goal.returns
unfolding refused_list
returns c =
    then c.put-at.ensures c.put_explained.ensures (omega arith)
