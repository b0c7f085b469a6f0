-- `next_at` meets its contract: one law for each way out.
use Prim.Native.Nat.{ℕ, ◌+◌, ◌/◌, ◌%◌}
use mathlib.Core.List.{List}
use mathlib.Core.Path.{sym, ap, ◌∙◌}
use native.Mathlib.Numerals.{add-one}
use native.Mathlib.Omega.{arith}
use Rattle.ground.proofs.Pieces.{part_cut}
use Rattle.ground.specs.Pieces.{part}
use Rattle.journal_next.specs.Next.{gives}
use Rattle.journal_next.proofs.Reading.{call_in, no_block, no_call, a_call}
use Rattle.journal_block.specs.Block.{calls_field}
use Rattle.journal_next.proofs.next_at.Goals as goal

pub returns-then-journal-i : goal.returns-then-journal-i
returns-then-journal-i c =
    let a = c.args in sym (no_block a.journal.now a.place c.if-journal-i.true)

pub returns-then-calls_in-k : goal.returns-then-calls_in-k
returns-then-calls_in-k c =
    let a = c.args in let n = c.calls_in.ensures ∙ ap calls_field (part_cut 512 (a.place / 125) a.journal.now) in
    sym (no_call a.journal.now a.place (omega (arith, n, c.if-calls_in-k.true)))

pub returns : goal.returns
returns c =
    let a = c.args in let j = a.journal.now in
    let i = a.place / 125 in
    let k = a.place % 125 in
    let n = c.calls_in.ensures ∙ ap calls_field (part_cut 512 i j) in
    ap (λ (b : List ℕ). gives (call_in b k) (a.place + 1)) (part_cut 512 i j)
    ∙ ap (gives (call_in (part 512 i j) k)) (add-one a.place)
    ∙ sym (a_call j a.place (omega (arith, c.if-journal-i.false)) (omega (arith, n, c.if-calls_in-k.false)))
