-- `count` meets its contract: 125 calls a block, and those of the last.
use Prim.Native.Nat.{ℕ, ◌+◌, ◌-◌, ◌*◌}
use mathlib.Core.Path.{◌≡◌, ap, ◌∙◌}
use native.Mathlib.Omega.{arith}
use Rattle.ground.proofs.Pieces.{part_cut}
use Rattle.ground.specs.Pieces.{part}
use Rattle.journal.proofs.Checking.{calls-none, calls-some}
use Rattle.journal_block.specs.Block.{calls_field}
use Rattle.journal_blocks.proofs.Journal.{few}
use Rattle.journal.proofs.count.Goals as goal

pub returns-then-k-eq0 : goal.returns-then-k-eq0
returns-then-k-eq0 c =
    calls-none c.args.journal.now c.args.k c.requires.journal_len c.requires.journal_value c.if-k-eq0.true

pub overflow_add-result : goal.overflow_add-result
overflow_add-result c =
    let j = c.args.journal.now in let n : c.calls_in.result ≡ calls_field (part 512 (c.args.k - 1) j) = c.calls_in.ensures ∙ ap calls_field (part_cut 512 (c.args.k - 1) j) in
    omega (arith, n, c.requires.k_bound, few j c.args.k c.requires.journal_len c.requires.journal_value (c.args.k - 1) (omega (arith, c.if-k-eq0.false)))

pub returns : goal.returns
returns c =
    let j = c.args.journal.now in let last = c.args.k - 1 in
    ap (λ (x : ℕ). 125 * last + x) (c.calls_in.ensures ∙ ap calls_field (part_cut 512 last j))
    ∙ calls-some j c.args.k c.requires.journal_len c.requires.journal_value last (omega (arith, c.if-k-eq0.false))
