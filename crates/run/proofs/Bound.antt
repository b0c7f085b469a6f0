-- The sharp bound: the first pass casts every vote; each pass after it brings a side a new accept, or leaves the side's calls spent; then one pass is
-- still. So the passes never exceed the correct sites by more than three, whatever the list.
use Prim.Native.Nat.{ℕ, zero, suc, ◌+◌, ◌≤◌, ◌<◌}
use mathlib.Core.List.{List}
use mathlib.Core.Logic.{◌⊎◌, inl, inr, ⊎_elim}
use mathlib.Core.Path.{◌≡◌, refl, sym, ap, subst, ◌∙◌}
use native.Mathlib.Decide.{dec_lt}
use native.Mathlib.Omega.{arith}
use Rattle.ground.proofs.Numbers.{same?, two}
use Rattle.ground.specs.Alike.{alike}
use Rattle.masks.proofs.Laws.AllBelow.{in_all}
use Rattle.masks.proofs.Laws.Size.{size-⊆, size-⊂}
use Rattle.masks.proofs.Laws.Subsets.{⊆-refl, ∈-minus}
use Rattle.masks.specs.Mask.{minus, all_below, size as count, ◌⊆◌}
use Rattle.pass.specs.Calls.{calls}
use Rattle.run.specs.Theorems.{SharpBound}
use Rattle.votes.proofs.Loops.{iter-more}
use Rattle.pass.proofs.Lawful.{vote-lawful}
use Rattle.votes.proofs.AnyVote.{spends, is-run}
use Rattle.votes.proofs.Passes.{pass_up, pass-inv}
use Rattle.run.proofs.Public.{is-checked, passes-are-run}
use Rattle.run.proofs.Spent.{OfSide, Voted, proposals, of-side, Spent, proposals-spent, pass_kept, quiet-spends, both-still}
use Rattle.sets.specs.Paper.{Fbqs}
use Rattle.sets.specs.Promises.{Questions}
use Rattle.rules.proofs.SoundLaws.{fresh-sound, accepted-correct}
use Rattle.rules.proofs.WorkWays.{table-rests}
use Rattle.rules.specs.Sound.{Sound}
use Rattle.rules.specs.State.{voted, accepted, width, get}
use Rattle.rules.specs.Theorems.{Rests}
use Rattle.rules.specs.Vote.{vote}
use Rattle.sets.specs.Groups.{sites_of}
use Rattle.votes.specs.Passes.{pass, iter}
use Rattle.votes.specs.Call.{Call}
use Rattle.votes.specs.Vote.{step, fresh, run_of}

module _ {Σ : ℕ → Fbqs} {Q : Questions} {n : ℕ} (R : Rests Σ Q n) (F : ℕ) (l : List Call) where
  -- the state after so many passes
  abbrev pub at : ℕ → List ℕ
  at zero = fresh (width n)
  at (suc k) = pass (step (vote Q n F)) l (at k)

  pub iter-at : (k : ℕ) → iter (step (vote Q n F)) k l (fresh (width n)) ≡ at k
  iter-at zero = refl
  iter-at (suc k) = iter-more (step (vote Q n F)) l k (fresh (width n)) ∙ ap (pass (step (vote Q n F)) l) (iter-at k)

  at-sound : (k : ℕ) → Sound Q n F (at k)
  at-sound zero = fresh-sound Σ Q n F R
  at-sound (suc k) = pass-inv (step (vote Q n F)) alike (spends (vote Q n F) (vote-lawful R F)) l (at k) (at-sound k)

  -- from the first pass on nobody votes
  votes-kept : (k : ℕ) {σ : ℕ} → σ < 2 → get (at (suc (suc k))) (voted n σ) ⊆ get (at (suc k)) (voted n σ)
  votes-kept k {σ} hσ =
      let r = pass_kept R F l (proposals Q n F) l (λ c m. m) (at-sound (suc k)) (proposals-spent R F l (at-sound k)) in
      r.1 (voted n σ) (two (λ τ. Voted n (voted n τ)) (inl refl) (inr refl) σ hσ)

  -- after k + 1 passes the calls of a side are spent, or k sites have accepted it
  counted : {σ : ℕ} → σ < 2 → (k : ℕ) → Spent R F l (OfSide σ) (at (suc k)) ⊎ (k ≤ count (get (at (suc k)) (accepted n σ)))
  counted hσ zero = inr (omega arith)
  counted {σ} hσ (suc k) =
      let S = at-sound (suc k) in
      let old = get (at (suc k)) (accepted n σ) in
      let new = get (at (suc (suc k))) (accepted n σ) in
      ⊎_elim
      (λ z. inl (pass_kept R F l (of-side Q n F hσ) l (λ c m. m) S z).0)
      (λ h. ⊎_elim
      (λ e. inl (quiet-spends R F l (of-side Q n F hσ) S (λ i. ⊎_elim (λ d. rw d (votes-kept k hσ)) (λ d. rw d (rw e (⊆-refl old))))))
      (λ ne. let g = size-⊂ ((pass_up (step (vote Q n F)) alike (spends (vote Q n F) (vote-lawful R F)) l (at (suc k)) S).each (accepted n σ)) (λ e. ne (sym e)) in inr (omega arith))
      (same? new old))
      (counted hσ k)

  -- who accepts is a correct site
  few-accept : {s : List ℕ} → Sound Q n F s → {σ : ℕ} → σ < 2 → count (get s (accepted n σ)) ≤ count (minus (all_below n) F)
  few-accept S {σ} hσ = size-⊆ (record { each = λ v h. ∈-minus (in_all (S.below (accepted n σ) v h)) (accepted-correct S hσ h) })

  abbrev most : ℕ
  most = count (minus (all_below n) F)

  end-spent : {σ : ℕ} → σ < 2 → Spent R F l (OfSide σ) (at (suc (suc most)))
  end-spent {σ} hσ = ⊎_elim (λ z. z) (λ h. absurd (omega (arith, few-accept (at-sound (suc (suc most))) hσ))) (counted hσ (suc most))

  end-still : at (suc (suc (suc most))) ≡ at (suc (suc most))
  end-still = both-still R F l (at-sound (suc (suc most))) (end-spent (omega arith)) (end-spent (omega arith))

  -- at most three passes more than correct sites, opposite proposals too
  pub few : (run_of (vote Q n F) l).passes ≤ count (minus (all_below n) F) + 3
  few =
      let E = (is-run (vote Q n F) (vote-lawful R F) l).0 in
      elim (dec_lt (suc (suc most)) E.changing) [
        | yes h ↦ absurd (E.each-changed (suc (suc most)) h (iter-at (suc (suc (suc most))) ∙ end-still ∙ sym (iter-at (suc (suc most)))))
        | no h ↦ omega (arith, E.passes-is)
      ]

pub sharp : SharpBound
sharp t F list state answers p T =
    subst (λ (k : ℕ). k ≤ count (minus (all_below (sites_of t)) F) + 3) (passes-are-run T) (few (table-rests t (is-checked T)) F (calls list))
