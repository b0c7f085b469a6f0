-- `mark_listed` meets its contract: the slices of v before slice i are marked.
use Prim.Native.Nat.{ℕ, ◌+◌, ◌*◌, ◌/◌, ◌%◌, ◌≤◌, ◌<◌}
use mathlib.Core.Bool.{cond}
use mathlib.Core.Path.{◌≡◌, sym, subst}
use mathlib.Core.List.{List}
use native.Mathlib.Nat.{lt_of_lt_of_le}
use native.Mathlib.Omega.{arith}
use lib.Bits.{bit_or}
use lib.Dec.{eqb}
use lib.ListN.{get_or, set}
use lib.Pow.{ones_lt, pow_mono}
use borrow.Author.Rules.{rules}
use Rattle.inside_words.specs.Inner.{Marked, Marking}
use Rattle.inside_words.proofs.InsideLaws.{marking-none, marking-more}
use Rattle.masks.proofs.Laws.Subsets.{below-⊆}
use Rattle.sets.specs.Inner.Rows.{ListedRow}
use Rattle.table.proofs.Table.{count_at, slice_at}
use Rattle.table.specs.Table.{count_of, slice_of}
use Rattle.inside_words.proofs.mark_listed.Goals as goal

few : {t : List ℕ} {n v : ℕ} → ListedRow t n v → n ≤ 12 → (i : ℕ) → i < count_of t v → slice_of t v i < 4096
few {n = n} row l i h = lt_of_lt_of_le (below-⊆ n (row.below i h) (ones_lt n)) (pow_mono l)

slice-few : {t : List ℕ} {n v : ℕ} → ListedRow t n v → n ≤ 12 → (i : ℕ) → i < 62 → i < get_or t (63 * v) 0 → get_or t (63 * v + 1 + i) 0 < 4096
slice-few {t} {n} {v} row few-sites i l h = subst (λ (q : ℕ). q < 4096) (slice_at t v i l) (few row few-sites i (subst (λ (k : ℕ). i < k) (sym (count_at t v)) h))

pub loop-i-init : goal.loop-i-init
loop-i-init c =
    let t = c.args.table.now in (subst (λ (k : ℕ). k ≤ 62) (count_at t c.args.v) c.requires.listed_row.few-slices, marking-none t c.args.v c.requires.empty)

pub bounds-words-here : goal.bounds-words-here
bounds-words-here c =
    omega (arith, slice-few c.requires.listed_row c.requires.n_bound c.loop-i.i (omega arith) c.loop-i-test.true)

pub loop-i-preserved : goal.loop-i-preserved
loop-i-preserved c =
    let a = c.args in let t = a.table.now in
    let small : c.loop-i.i < 62 = omega arith in
    let own : c.loop-i.i < count_of t a.v = omega (arith, count_at t a.v) in
    let row = c.requires.listed_row in let q = get_or t (63 * a.v + 1 + c.loop-i.i) 0 in (
      search rules,
      subst
          (λ (x : ℕ). Marking t a.v (c.loop-i.i + 1) (q / 64) (bit_or x (get_or a.above.now (q % 64) 0)) (set c.loop-i.words (q / 64) (bit_or x (get_or a.above.now (q % 64) 0))))
          (sym c.stands.ensures)
          (subst
          (λ (q : ℕ). Marking t a.v (c.loop-i.i + 1) (q / 64) (bit_or (cond (eqb (q / 64) c.loop-i.at) c.loop-i.word 0) (get_or a.above.now (q % 64) 0))
          (set c.loop-i.words (q / 64) (bit_or (cond (eqb (q / 64) c.loop-i.at) c.loop-i.word 0) (get_or a.above.now (q % 64) 0))))
          (slice_at t a.v c.loop-i.i small)
          (marking-more row c.loop-i.i c.loop-i.at c.loop-i.word c.requires.above own (few row c.requires.n_bound c.loop-i.i own) c.loop-i.invariant.1)),
    )

pub returns : goal.returns
returns c =
    let a = c.args in let t = a.table.now in
    let e : c.loop-i.i ≡ count_of t a.v = omega (arith, count_at t a.v) in
    subst (λ (k : ℕ). Marked t a.v k c.loop-i.words) e c.loop-i.invariant.1.marked
