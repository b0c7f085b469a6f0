-- The computed risk is that of the paper's intact and befouled sites, of every checked table.
use Prim.Native.Nat.{ℕ, ◌^◌, ◌<◌}
use mathlib.Core.Bool.{true}
use mathlib.Core.Path.{◌≡◌, refl, sym, subst}
use lib.Pow.{ones_lt}
use borrow.Author.Tests.{eqb-true, eq-eqb}
use Rattle.masks.proofs.Laws.AllBelow.{⊆-all}
use Rattle.masks.proofs.Laws.Single.{∈-eq, ∈-single, single-∈}
use Rattle.masks.proofs.Laws.Subsets.{not-in-zero, below-⊆, ∈-minus, minus-⊆, minus-not-in, empty}
use Rattle.masks.specs.Mask.{single, minus, others, all_below, ◌∈◌, ◌⊆◌}
use Rattle.sets.specs.Paper.{Fbqs}
use Rattle.sets.specs.Slices.{Slices}
use Rattle.sets.proofs.Groups.{lawful}
use Rattle.verdicts.proofs.Decides.{table-verdicts}
use Rattle.verdicts.specs.Decides.{VerdictsDecide}
use Rattle.verdicts.specs.Verdicts.{intact}
use Rattle.risk.specs.Decides.{Along, Ruinous, Fewest, TableRisk}
use Rattle.risk.specs.Risk.{taken_along, ruinous, fewest, first_ruin}
use Rattle.risk.proofs.RiskLaws.{first-is}

-- of a table whose verdicts are the paper's, and whose sites are the n
module _ {S : Fbqs} {r : Slices} {n : ℕ} (verdicts : VerdictsDecide S r n) (all : S.sites ≡ all_below n) where
  along-is : (v : ℕ) → Along S v (taken_along r n v)
  unfolding taken_along
  along-is v =
      let befouled = minus (all_below n) (intact r n (single v)) in
      record {
        set = others befouled v;
        counts = refl;
        members = λ u. (
          λ h. ((verdicts.befouled-set (single v) u).0 ((minus-⊆ befouled (single v)).each u h), λ e. minus-not-in befouled h (subst (λ (x : ℕ). u ∈ single x) e (∈-single u))),
          λ b. ∈-minus ((verdicts.befouled-set (single v) u).1 b.0) (λ h. b.1 (single-∈ v h)),
        );
      }

  ruinous-is : (F : ℕ) → F < 2 ^ n → ruinous r n F ≡ true → Ruinous S F
  unfolding ruinous
  ruinous-is F l e = (
    subst (λ (x : ℕ). F ⊆ x) (sym all) (⊆-all n l),
    λ v i. not-in-zero (∈-eq (eqb-true (intact r n F) 0 e) ((verdicts.intact-set F v).1 i)),
  )

  is-ruinous : (F : ℕ) → Ruinous S F → (F < 2 ^ n) × (ruinous r n F ≡ true)
  unfolding ruinous
  is-ruinous F x = (
    below-⊆ n (subst (λ (y : ℕ). F ⊆ y) all x.0) (ones_lt n),
    eq-eqb (intact r n F) 0 (empty (intact r n F) (λ v h. x.1 v ((verdicts.intact-set F v).0 h))),
  )

  fewest-is : Fewest S (fewest r n) (first_ruin r n)
  fewest-is =
      let f = first-is r n in
      record {
        ruinous = ruinous-is (first_ruin r n) f.below f.ruins;
        counts = f.counts;
        least = λ G x. f.least G (is-ruinous G x).0 (is-ruinous G x).1;
        lowest = λ G x c. f.lowest G (is-ruinous G x).0 (is-ruinous G x).1 c;
      }

-- of a checked table
pub table-risk : TableRisk
table-risk t c =
    let verdicts = table-verdicts t c in
    let all = (lawful t c).all-sites in
    record { along = λ v h. along-is verdicts all v; fewest-first = fewest-is verdicts all }
