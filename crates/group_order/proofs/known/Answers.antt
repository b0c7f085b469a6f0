-- `known` meets its contract: some group of those behind the count is this one.
use Prim.Native.Nat.{ℕ, zero, suc, ◌+◌, ◌-◌, ◌<◌}
use mathlib.Core.Bool.{◌||◌}
use mathlib.Core.List.{List}
use mathlib.Core.Path.{◌≡◌, refl, sym, ap, ap₂, ◌∙◌}
use native.Mathlib.Numerals.{add-one}
use native.Mathlib.Omega.{arith}
use lib.Dec.{eqb}
use lib.ListN.{length, take, drop, length-drop}
use Rattle.std.specs.List.{list_any}
use Rattle.std.proofs.lemmas.List.Folds.{list_any_more}
use Rattle.std.proofs.lemmas.Grind.{get_or_after_one}
use Rattle.ground.specs.Search.{some}
use Rattle.rows.specs.Site.{slice, count}
use Rattle.group_order.specs.Joined.{known}
use Rattle.group_order.proofs.known.Goals as goal

among : (q : ℕ) (m : List ℕ) (n : ℕ) → n < length m → list_any (λ y. eqb y q) (take n (drop 1 m)) ≡ some n (λ j. eqb (slice m j) q)
unfolding some
among q m zero h = refl
among q m (suc k) h =
    ap (λ (i : ℕ). list_any (λ (y : ℕ). eqb y q) (take i (drop 1 m))) (sym (add-one k))
    ∙ list_any_more (λ (y : ℕ). eqb y q) (drop 1 m) k 0 (omega (arith, length-drop 1 m))
    ∙ ap₂ ◌||◌ (among q m k (omega arith)) (ap (λ (x : ℕ). eqb x q) (get_or_after_one m k 0))

same : (n : ℕ) → 1 + n - 1 ≡ n
same n = omega arith

pub returns : goal.returns
unfolding known
returns c =
    let m = c.args.m.now in
    c.contains.ensures.value ∙ ap (λ (n : ℕ). list_any (λ (y : ℕ). eqb y c.args.q) (take n (drop 1 m))) (same (count m)) ∙ among c.args.q m (count m) (omega arith)
