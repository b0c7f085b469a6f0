-- Accepting and confirming are the paper's: the rules from the promises, and so every sound state, and every state that a run ends in.
use Rattle.std.specs.Prelude.{Ok}
use Prim.Native.Nat.{ℕ}
use mathlib.Core.Bool.{Bool, true, ◌||◌}
use mathlib.Core.List.{List}
use mathlib.Core.Logic.{inl, inr, ⊎_elim, ◌↔◌}
use mathlib.Core.Path.{◌≡◌, sym, ap, ◌∙◌, subst}
use lib.Bits.{bit_or}
use Rattle.ground.proofs.Logic.{cases, or-i, or-e}
use Rattle.masks.proofs.Laws.Apart.{apart-⊆}
use Rattle.masks.proofs.Laws.Single.{∈-or}
use Rattle.masks.proofs.Laws.Subsets.{mem, ⊆-refl, or-⊆-l, or-⊆-r, minus-again}
use Rattle.masks.specs.Mask.{single, others, ◌∈◌}
use Rattle.refusals.proofs.First.{or_else-sound, kept}
use Rattle.refusals.specs.declared.Refusal.TheVariants.{Unsound}
use Rattle.rules.proofs.Exact.{sound-of}
use Rattle.rules.proofs.WorkWays.{table-rests}
use Rattle.rules.specs.Rules.{accepting, confirming}
use Rattle.rules.specs.Sound.{Sound as SoundState, unsound}
use Rattle.rules.specs.State.{votes, accepts, get}
use Rattle.rules.specs.Theorems.{Rests}
use Rattle.sets.proofs.Groups.{set-checked}
use Rattle.sets.specs.Groups.{Groups, sites_of, set_check, questions}
use Rattle.sets.specs.Paper.{Fbqs, Blocking}
use Rattle.sets.specs.Promises.{Questions, Promises}
use Rattle.voting.specs.Step.{sound_check}
use Rattle.published.specs.Voting.{Confirms, Published, AcceptsAsPublished, ConfirmsAsPublished, StateAsPublished}

module _ {S : ℕ → Fbqs} {Q : Questions} (P : Promises S Q) (v : ℕ) where
  confirms : (w : ℕ) → (Q.in_quorum v w ≡ true) ↔ Confirms (S v) v w
  confirms w = (
    λ e. let x = P.quorum-inside v w e in (x.0, x.1, x.3, x.2),
    λ x. P.of-quorum v w x.0 x.1 x.3 x.2,
  )

  blocks : (w : ℕ) → (Q.blocked v w ≡ true) ↔ Blocking (S v) v (others w v)
  blocks w = (
    λ e q x z. P.blocked-meets v w q q e x (⊆-refl q) z,
    λ f. ⊎_elim (λ e. e) (λ e. let x = P.unblocked-rest v w e in absurd (f x.0 x.1 x.2)) (cases (Q.blocked v w)),
  )

  -- of a set of others nobody is left out
  others-block : (b : ℕ) → (Q.blocked v (others b v) ≡ true) ↔ Blocking (S v) v (others b v)
  others-block b =
      subst (λ (w : ℕ). (Q.blocked v (others b v) ≡ true) ↔ Blocking (S v) v w) (minus-again b (single v)) (blocks (others b v))

pub accepts-as-published : AcceptsAsPublished
unfolding accepting
accepts-as-published S Q n R v a b =
    let P = R.promises in
    let o = others b v in (
      λ e. ⊎_elim
          (λ k. let x = (confirms P v (bit_or a o)).0 k in inl (x.0, x.1, x.2, λ u h. ∈-or a o (x.3.each u h)))
          (λ k. inr (o, (others-block P v b).0 k, ⊆-refl o))
          (or-e (Q.in_quorum v (bit_or a o)) (Q.blocked v o) e),
      λ x. ⊎_elim
          (λ y. ap (λ (z : Bool). z || Q.blocked v o) ((confirms P v (bit_or a o)).1
          (y.0, y.1, y.2, record { each = λ u h. ⊎_elim (λ k. (or-⊆-l a o).each u k) (λ k. (or-⊆-r a o).each u k) (y.3 u h) })))
          (λ y. or-i (Q.in_quorum v (bit_or a o)) (Q.blocked v o) ((others-block P v b).1 (λ q s z. y.1 q s (apart-⊆ (⊆-refl q) y.2 z))))
          x,
    )

pub confirms-as-published : ConfirmsAsPublished
unfolding confirming
confirms-as-published S Q n R v b = confirms R.promises v b

-- of a sound state, where every site sees the same
pub of-state : {S : Fbqs} {Q : Questions} {n F : ℕ} {s : List ℕ} → Rests (λ v. S) Q n → SoundState Q n F s → Published S n F s
of-state {S} {Q} {n} {F} {s} R T v side hv hs f =
    let a = accepts-as-published (λ v. S) Q n R v (get s (votes side v)) (get s (accepts side v)) in
    let c = confirms-as-published (λ v. S) Q n R v (get s (accepts side v)) in
    let ea = T.accepted-by-rule v side hv hs f in
    let ec = T.confirmed-by-rule v side hv hs f in (
      (λ h. a.0 (sym ea ∙ h.holds), λ x. mem (ea ∙ a.1 x)),
      (λ h. c.0 (sym ec ∙ h.holds), λ x. mem (ec ∙ c.1 x)),
    )

-- what is not refused with 18: the table and the set are taken, and the state is sound
module _ (t : Groups) (F : ℕ) (s : List ℕ) (e : sound_check t F s ≡ Ok tt) where
  pub set-taken : set_check t F ≡ Ok tt
  unfolding sound_check
  set-taken = (or_else-sound (set_check t F) _ e).0

  pub state-taken : SoundState (questions t) (sites_of t) F s
  unfolding sound_check
  state-taken =
      let bad = unsound (questions t) (sites_of t) F s in
      sound-of (questions t) (sites_of t) F s (kept bad Unsound (or_else-sound (set_check t F) _ e).1)

pub state-as-published : StateAsPublished
state-as-published t F s e = of-state (table-rests t (set-checked t F (set-taken t F s e))) (state-taken t F s e)
