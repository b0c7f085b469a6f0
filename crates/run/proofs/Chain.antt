-- What the run of the chain asks of its questions: a site is blocked by the one before it alone, the first two are a quorum, and no site is one by itself.
use Prim.Native.Nat.{ℕ, ◌≤◌, ◌<◌}
use mathlib.Core.Bool.{true}
use mathlib.Core.Logic.{⊎_elim}
use mathlib.Core.Path.{◌≡◌, sym, ◌∙◌, ap, subst}
use native.Mathlib.Omega.{arith}
use Rattle.chain_table.proofs.Chain.{other, pair, chain, other-in, own_in, pair-⊆, in_pair, other-not, is-pair, has-pair, chain-checked, chain-sites}
use Rattle.ground.proofs.Logic.{cases}
use Rattle.masks.proofs.Laws.AllBelow.{in_all}
use Rattle.masks.proofs.Laws.Apart.{apart-not-in}
use Rattle.masks.proofs.Laws.Single.{∈-eq, single-∈}
use Rattle.masks.proofs.Laws.Subsets.{not-in-zero, ∈-minus}
use Rattle.masks.specs.Mask.{all_below, ◌∈◌, ◌⊆◌}
use Rattle.rules.proofs.WorkWays.{table-rests}
use Rattle.rules.specs.Theorems.{Rests}
use Rattle.sets.proofs.Groups.{sites_in}
use Rattle.sets.specs.Groups.{fbqs_in, questions}
use Rattle.sets.specs.Paper.{Quorum}
use Rattle.sets.specs.Promises.{Questions, Promises}

pub record Chained (Q : Questions) (n : ℕ) : Type 0 where
  pub blocks : (v w : ℕ) → v < n → other v ∈ w → Q.blocked v w ≡ true
  pub first_two : (w : ℕ) → 0 ∈ w → 1 ∈ w → Q.in_quorum 0 w ≡ true
  pub alone : (v w : ℕ) → v < n → ((u : ℕ) → u ∈ w → u ≡ v) → Q.in_quorum v w ≡ true → ⊥

module _ {n : ℕ} (two : 2 ≤ n) (few : n ≤ 64) where
  abbrev Q : Questions
  Q = questions (chain n)

  pub chain-rests : Rests (λ v. fbqs_in (chain n)) Q n
  chain-rests = subst (Rests (λ v. fbqs_in (chain n)) Q) (chain-sites n two few) (table-rests (chain n) (chain-checked n two few))

  pub chained : Chained Q n
  chained = record {
    blocks = λ v w l h. ⊎_elim (λ e. e)
        (λ e. let x = P.unblocked-rest v w e in
        absurd (apart-not-in x.2 (∈-eq (sym (is-pair n v l x.1)) (other-in v)) (∈-minus h (λ k. other-not v (single-∈ v k)))))
        (cases (Q.blocked v w));
    first_two = λ w h k. P.of-quorum 0 w (pair 0) both (pair-⊆ k h) (own_in 0);
    alone = λ v w l only e.
        let x = P.quorum-inside v w e in
        let y = x.1.contains v x.3 in
        other-not v (only (other v) (x.2.each (other v) (y.2.each (other v) (∈-eq (sym (is-pair n v l y.1)) (other-in v)))));
  }
    where
      P : Promises (λ v. fbqs_in (chain n)) Q
      P = chain-rests.promises

      all : (fbqs_in (chain n)).sites ≡ all_below n
      all = sites_in (chain n) ∙ ap all_below (chain-sites n two few)

      both : Quorum (fbqs_in (chain n)) (pair 0)
      both = record {
        of-sites = subst (λ (u : ℕ). pair 0 ⊆ u) (sym all) (pair-⊆ (in_all (omega arith)) (in_all (omega arith)));
        non-empty = λ e. not-in-zero (∈-eq e (own_in 0));
        contains = λ v h. ⊎_elim
            (λ e. rw e (pair 1, has-pair n 1 (omega arith), pair-⊆ (own_in 0) (other-in 0)))
            (λ e. rw e (pair 0, has-pair n 0 (omega arith), pair-⊆ (other-in 0) (own_in 0)))
            (in_pair h);
      }
