-- All sites together are a quorum, so a table that is lawful holds a quorum always.
use Prim.Native.Nat.{ℕ, ◌<◌}
use mathlib.Core.Bool.{true}
use mathlib.Core.Path.{◌≡◌, sym, ◌∙◌, subst}
use Rattle.masks.proofs.Laws.AllBelow.{in_all}
use Rattle.masks.proofs.Laws.Subsets.{⊆-refl, not-in-zero}
use Rattle.masks.specs.Mask.{all_below, ◌∈◌}
use Rattle.sets.specs.Paper.{Fbqs, Quorum}
use Rattle.sets.specs.Quorum.{quorum, largest}
use Rattle.sets.specs.Forms.{LawfulSlices}
use Rattle.sets.specs.Slices.{Slices}
use Rattle.sets.proofs.Decides.{is-quorum}
use Rattle.sets.proofs.Lawful.{inside-answers}
use Rattle.sets.proofs.Quorum.{quorum-some, quorum-still, largest-stop}

module _ {S : Fbqs} {r : Slices} {n : ℕ} (lawful : LawfulSlices S r n) (some-site : 0 < n) where
  -- "quorum availability is trivially met since the set V of servers is a quorum"
  pub sites-quorum : Quorum S S.sites
  sites-quorum =
      record {
        of-sites = ⊆-refl S.sites;
        non-empty = λ z. not-in-zero (subst (λ (x : ℕ). 0 ∈ x) z (subst (λ (x : ℕ). 0 ∈ x) (sym lawful.all-sites) (in_all some-site)));
        contains = λ v h. let x = lawful.well-formed.one-or-more v h in (x.0, x.1, lawful.well-formed.of-nodes v x.0 h x.1);
      }

  pub whole-quorum : quorum r.inside n (all_below n) ≡ true
  whole-quorum = is-quorum (inside-answers lawful) (subst (Quorum S) lawful.all-sites sites-quorum)

  pub largest-whole : largest r.inside n (all_below n) ≡ all_below n
  largest-whole = largest-stop r.inside n (all_below n) (quorum-still r.inside n whole-quorum)

  pub some-quorum : largest r.inside n (all_below n) ≡ 0 → ⊥
  some-quorum z = quorum-some r.inside n whole-quorum (sym largest-whole ∙ z)
