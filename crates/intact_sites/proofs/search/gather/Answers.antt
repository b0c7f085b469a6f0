-- `gather` meets its contract: the sets outside the quorums behind rest are looked at.
use Prim.Native.Nat.{ℕ, ◌<◌}
use mathlib.Core.Bool.{true}
use mathlib.Core.Logic.{⊎_elim}
use mathlib.Core.Path.{◌≡◌, sym, subst}
use native.Mathlib.Nat.{lt_of_lt_of_le}
use native.Mathlib.Omega.{arith}
use lib.Pow.{pow_mono}
use Rattle.ground.proofs.Numbers.{same?}
use Rattle.masks.proofs.Laws.Subsets.{⊆-refl, ⊆-zero}
use Rattle.masks.specs.Mask.{minus, all_below, ◌⊆◌}
use Rattle.sets.proofs.Quorum.{quorum-lt, quorum-below}
use Rattle.sets.specs.Inner.Rows.{rules_of}
use Rattle.sets.specs.Quorum.{quorum}
use Rattle.verdicts.proofs.VerdictLaws.{gathered_none}
use Rattle.verdicts.specs.Inner.{Gathered}
use Rattle.known_pairs.proofs.PairLaws.{pairs-none}
use Rattle.intact_sites.proofs.IntactLaws.{outside-larger, contents-fewer, said-one, gathered_next, gathered-whole, gathered-last}
use Rattle.intact_sites.proofs.search.gather.Goals as goal

next-less : {r rest : ℕ} → (rest ≡ 0 → ⊥) → ((r ≡ 0 → ⊥) → r < rest) → r < rest
next-less {r} {rest} ne f = ⊎_elim (λ e. pos e ne) f (same? r 0)
  where
    pos : r ≡ 0 → (rest ≡ 0 → ⊥) → r < rest
    pos e ne = omega arith

pub loop-rest-init : goal.loop-rest-init
loop-rest-init c =
    let a = c.args in let p = c.requires in let r = rules_of a.table.now in (
      lt_of_lt_of_le (quorum-lt r.inside a.n p.left_value) (pow_mono p.n_bound),
      pairs-none r a.n,
      gathered_none r a.n (minus (all_below a.n) a.left),
      λ ne. (p.left_value, ⊆-refl a.left),
    )

pub spared-set-requires : goal.spared-set-requires
spared-set-requires c =
    let a = c.args in let p = c.requires in let l = c.loop-rest in let k = c.loop-rest.invariant.3 c.loop-rest-test.true in record {
      rows = p.rows;
      n_bound = p.n_bound;
      rest_value = k.0;
      above = p.above;
      contents = contents-fewer (rules_of a.table.now) (outside-larger a.n k.1) p.contents;
      pairs_2 = c.loop-rest.invariant.1;
    }

pub returns-then-set-left : goal.returns-then-set-left
returns-then-set-left c =
    let a = c.args in let p = c.requires in let l = c.loop-rest in let k = c.loop-rest.invariant.3 c.loop-rest-test.true in
    let x = c.spared-set in gathered-whole a.table.now a.n a.left p.rows p.n_bound p.left_value a.quorums.now p.says c.loop-rest.rest c.loop-rest.set c.spared-set.result k.0 k.1
    c.spared-set.ensures.spared c.loop-rest.invariant.2 c.if-set-left.true

pub last_below-rest-requires : goal.last_below-rest-requires
last_below-rest-requires c =
    c.loop-rest.invariant.0

pub loop-rest-smaller : goal.loop-rest-smaller
loop-rest-smaller c =
    next-less c.loop-rest-test.true c.last_below-rest.ensures.below

pub loop-rest-preserved : goal.loop-rest-preserved
loop-rest-preserved c =
    let a = c.args in let p = c.requires in let l = c.loop-rest in let k = c.loop-rest.invariant.3 c.loop-rest-test.true in
    let x = c.spared-set in let h = c.last_below-rest.ensures in let r = rules_of a.table.now in
    let few : c.last_below-rest.result < 4096 = small (next-less c.loop-rest-test.true h.below) c.loop-rest.invariant.0 in
    let one : ((c.last_below-rest.result ≡ 0 → ⊥) → (quorum r.inside a.n c.last_below-rest.result ≡ true) × (c.last_below-rest.result ⊆ a.left)) =
    λ ne. said-one a.table.now a.n a.left p.rows p.n_bound p.left_value a.quorums.now p.says c.last_below-rest.result few (h.member ne) ne in
    let sites : c.last_below-rest.result ⊆ all_below a.n =
    ⊎_elim (λ e. subst (λ (y : ℕ). y ⊆ all_below a.n) (sym e) (⊆-zero (all_below a.n))) (λ ne. quorum-below r.inside a.n (one ne).0) (same? c.last_below-rest.result 0) in (
      few,
      c.spared-set.ensures.pairs,
      gathered_next a.table.now a.n a.left p.rows p.n_bound p.left_value a.quorums.now p.says c.loop-rest.rest c.loop-rest.set c.spared-set.result k.0 k.1 c.spared-set.ensures.spared c.loop-rest.invariant.2 sites c.last_below-rest.ensures,
      one,
    )
  where
    small : {r rest : ℕ} → r < rest → rest < 4096 → r < 4096
    small a b = omega arith

pub returns : goal.returns
returns c =
    let a = c.args in let p = c.requires in let l = c.loop-rest in gathered-last a.table.now a.n a.left p.rows p.n_bound p.left_value a.quorums.now p.says
    (subst (λ (x : ℕ). Gathered (rules_of a.table.now) a.n (minus (all_below a.n) a.left) (minus (all_below a.n) x) c.loop-rest.set) c.loop-rest-test.false c.loop-rest.invariant.2)
