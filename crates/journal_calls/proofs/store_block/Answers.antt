-- `store_block` meets its contract: the parts, written one after the other, are the block.
use Prim.Native.Nat.{ℕ, ◌/◌}
use mathlib.Core.List.{List}
use mathlib.Core.Path.{ap, ◌∙◌}
use lib.ListN.{length}
use lib.Seq.{sets}
use Rattle.journal_calls.proofs.Store.{store-puts}
use Rattle.le.specs.Le.{digits}
use Rattle.journal_calls.proofs.store_block.Goals as goal

pub returns : goal.returns
returns c =
    let a = c.put16 in let b = c.put16-2 in let calls = c.args.calls.now in c.put_sums.ensures
    ∙ store-puts c.args.b.now calls _ _ c.args.i c.requires.b_len c.requires.calls_len_bound
    (c.put16-2.ensures ∙ ap (λ (x : List ℕ). sets x 2 (digits 2 (length calls / 4))) c.put16.ensures)
    c.put_calls.ensures
