-- `is_unfilled` meets its contract: a byte of filler is not zero just if an unused place is, and one of those before j is just if all of them together are not zero.
use Prim.Native.Nat.{ℕ, ◌+◌, ◌-◌}
use mathlib.Core.Bool.{not}
use mathlib.Core.Path.{◌≡◌, sym, ap, ap₂, ◌∙◌}
use native.Mathlib.Omega.{arith}
use lib.Bits.{bit_or}
use lib.Dec.{eqb}
use borrow.Author.Rules.{rules}
use Rattle.ground.proofs.Some.{some-none}
use Rattle.ground.specs.Search.{some}
use Rattle.rows.proofs.Site.{unfilled-more}
use Rattle.site_block.specs.Block.{slice_field}
use Rattle.site_block.proofs.Block.{block-filler}
use Rattle.site_block.proofs.is_unfilled.Goals as goal

pub loop-j-init : goal.loop-j-init
loop-j-init c =
    (search rules, sym (some-none _))

pub loop-j-preserved : goal.loop-j-preserved
loop-j-preserved c =
    let a = c.args in (
      search rules,
      ap (λ (x : ℕ). not (eqb (bit_or c.loop-j.any x) 0)) c.get64-any.ensures
          ∙ unfilled-more (slice_field a.b.now) a.many c.loop-j.j c.loop-j.any c.loop-j.invariant.1,
    )

pub returns : goal.returns
returns c =
    let l = c.loop-j in let b = c.args.b.now in let e : c.loop-j.j ≡ 62 - c.args.many = omega arith in
    c.loop-j.invariant.1
    ∙ ap₂ (λ (k many : ℕ). some k (λ j. not (eqb (slice_field b (many + j)) 0))) (e ∙ ap (λ (many : ℕ). 62 - many) c.requires.many_value) c.requires.many_value
    ∙ sym (block-filler b (omega arith))
