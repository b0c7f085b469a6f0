-- `store_blocks` meets its contract: after i turns the room begins with the first i blocks.
use Prim.Native.Nat.{ℕ, ◌+◌, ◌-◌, ◌*◌}
use mathlib.Core.List.{List, ◌++◌}
use mathlib.Core.Path.{◌≡◌, refl, ap, ◌∙◌}
use native.Mathlib.Omega.{arith}
use lib.ListN.{take, drop}
use borrow.Rule.Slice.PartMut.{same_len_mid}
use Rattle.ground.proofs.Pieces.{fill-part}
use Rattle.ground.specs.Pieces.{cat, part}
use Rattle.journal_block.specs.Block.{journal_block}
use Rattle.journal_blocks.specs.Journal.{journal_of}
use Rattle.journal_blocks.proofs.Journal.{blocks-long}
use Rattle.journal_blocks.proofs.Pieces.{piece_cut}
use Rattle.journal_blocks.proofs.store_blocks.Goals as goal

abbrev block : List ℕ → ℕ → List ℕ
block list i = journal_block i (part 500 i list)

pub loop-i-init : goal.loop-i-init
unfolding cat
loop-i-init c =
    (refl, refl)

pub loop-i-preserved : goal.loop-i-preserved
loop-i-preserved c =
    let a = c.args in let l = c.loop-i in let e = c.min-end.ensures in let b = c.store_block in let list = a.list.now in (
      same_len_mid {X = ℕ} (512 * c.loop-i.i) (512 * c.loop-i.i + 512 - 512 * c.loop-i.i) c.loop-i.room c.store_block.new.b c.store_block.auto.b ∙ c.loop-i.invariant.0,
      fill-part (block list) 512 c.loop-i.i c.loop-i.room a.room.now _ (blocks-long list c.loop-i.i) c.loop-i.invariant.1
          (c.store_block.ensures ∙ ap (λ (x : ℕ). journal_block c.loop-i.i (take (x - 500 * c.loop-i.i) (drop (500 * c.loop-i.i) list))) c.min-end.ensures ∙ ap (journal_block c.loop-i.i) (piece_cut 500 c.loop-i.i list)),
    )

pub returns : goal.returns
unfolding journal_of
returns c =
    let l = c.loop-i in let e : c.loop-i.i ≡ c.args.k = omega arith in
    c.loop-i.invariant.1
    ∙ ap (λ (x : ℕ). cat (block c.args.list.now) x ++ drop (512 * x) c.args.room.now) e
    ∙ ap (λ (x : ℕ). cat (block c.args.list.now) x ++ drop (512 * c.args.k) c.args.room.now) c.requires.k_value
