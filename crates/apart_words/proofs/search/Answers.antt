-- `search` meets its contract: no set of the words below w is apart.
use Prim.Native.Nat.{ℕ, ◌-◌, ◌*◌, ◌/◌, ◌<◌}
use mathlib.Core.Bool.{false}
use mathlib.Core.Path.{◌≡◌, ◌∙◌, subst}
use native.Mathlib.Omega.{arith}
use lib.Bits.{or_lt}
use lib.Pow.{pow_mono}
use borrow.Author.Rules.{rules}
use Rattle.sets.specs.Inner.Rows.{rules_of}
use Rattle.apart_words.specs.Inner.{apart_with}
use Rattle.apart_words.proofs.ApartLaws.{none_here, found_here, none_at_all}
use Rattle.apart_words.proofs.search.Goals as goal

pub loop-w-init : goal.loop-w-init
loop-w-init c =
    let p = c.requires in (omega (arith, p.b_bound, pow_mono p.n_bound), λ u l. absurd (none l))
  where
    none : {u : ℕ} → u < 0 * 64 → ⊥
    none l = omega arith

pub offset_bounds-words-w : goal.offset_bounds-words-w
offset_bounds-words-w c =
    omega (arith, or_lt 6 (63 - c.loop-w.w) (c.args.b / 64) (omega arith) (omega (arith, c.loop-w.invariant.0)))

pub bounds-words-w : goal.bounds-words-w
bounds-words-w c =
    or_lt 6 (63 - c.loop-w.w) (c.args.b / 64) (omega arith) (omega (arith, c.loop-w.invariant.0))

pub first-requires : goal.first-requires
first-requires c =
    c.if-both-ne0.true

pub overflow_add-w : goal.overflow_add-w
overflow_add-w c =
    omega (arith, c.loop-w-test.true, c.first.ensures.below)

pub returns-then-both-ne0 : goal.returns-then-both-ne0
returns-then-both-ne0 c =
    let a = c.args in let p = c.requires in c.minus.ensures
    ∙ found_here p.rows a.b p.n_bound p.b_bound p.says p.beside c.loop-w.w c.loop-w-test.true c.loop-w.invariant.1 c.first.ensures

pub loop-w-preserved : goal.loop-w-preserved
loop-w-preserved c =
    let a = c.args in let p = c.requires in (search rules, none_here p.rows a.b p.n_bound p.b_bound p.says p.beside c.loop-w.w c.loop-w-test.true c.loop-w.invariant.1 c.if-both-ne0.false)

pub single-requires : goal.single-requires
single-requires c =
    omega (arith, c.requires.n_bound)

pub returns : goal.returns
returns c =
    let a = c.args in let p = c.requires in let e : c.loop-w.w ≡ 64 = omega arith in
    c.single.ensures
    ∙ none_at_all p.rows a.b p.n_bound p.b_bound p.says p.beside (subst (λ (k : ℕ). (u : ℕ) → u < k * 64 → apart_with (rules_of a.table.now) a.n a.b u ≡ false) e c.loop-w.invariant.1)
