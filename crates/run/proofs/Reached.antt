-- The sharp bound is reached: in the run of that list on the chain each of the first n + 2 passes changes something, and the bound has room for the
-- still one alone.
use Prim.Native.Nat.{ℕ, zero, suc, ◌+◌, ◌≤◌, ◌<◌}
use mathlib.Core.Bool.{true}
use mathlib.Core.List.Memᴰ
use mathlib.Core.List.{List}
use mathlib.Core.Logic.{⊎_elim}
use mathlib.Core.Path.{◌≡◌, refl, sym, ap, subst, ◌∙◌}
use native.Mathlib.Decide.{dec_lt}
use native.Mathlib.Omega.{arith}
use lib.Bits.{bit_or}
use lib.Count.{ones-le}
use lib.Pow.{ones_lt}
use Rattle.chain_table.proofs.Chain.{chain, chain-checked, chain-sites}
use Rattle.ground.proofs.Logic.{clash}
use Rattle.ground.specs.Alike.{alike}
use Rattle.masks.proofs.Laws.Single.{∈-or, ∈-single}
use Rattle.masks.proofs.Laws.Subsets.{not-in-zero, minus-⊆, minus-not-in, minus-lt}
use Rattle.masks.specs.Mask.{single, minus, all_below, others, ◌∈◌, ◌⊆◌}
use Rattle.run.specs.Theorems.{Reached}
use Rattle.run.proofs.Bound.{at, iter-at, few}
use Rattle.run.proofs.Chain.{Chained, chain-rests, chained}
use Rattle.pass.proofs.Lawful.{vote-lawful}
use Rattle.votes.proofs.AnyVote.{spends, is-run}
use Rattle.votes.proofs.Passes.{pass_up}
use Rattle.run.proofs.Stages.{link, links, back, longest, links-length, Stage, voted-0, takes-accept, heard-it, stage-pass}
use Rattle.sets.specs.Paper.{Fbqs}
use Rattle.sets.specs.Promises.{Questions}
use Rattle.rules.proofs.Answer.{Takes, step-taken, step-not-taken}
use Rattle.rules.proofs.Heard.{heard-grows}
use Rattle.rules.proofs.Inner.{step-heard}
use Rattle.rules.proofs.RuleLaws.{accepting-either}
use Rattle.rules.proofs.SoundLaws.{fresh-sound, accepted-rule}
use Rattle.rules.proofs.State.{fresh-none}
use Rattle.rules.proofs.Steps.{step-sound, step-adds}
use Rattle.rules.proofs.Taken.{taken-voted, taken-votes, taken-accepted}
use Rattle.rules.specs.Rules.{accepting, taken}
use Rattle.rules.specs.Sound.{Sound}
use Rattle.rules.specs.State.{votes, accepts, voted, accepted, width, get}
use Rattle.rules.specs.Theorems.{Rests}
use Rattle.rules.specs.Vote.{vote}
use Rattle.sets.specs.Groups.{questions}
use Rattle.votes.specs.Passes.{pass}
use Rattle.votes.specs.Call.{propose, call, Call}
use Rattle.votes.specs.Vote.{step, fresh, run_of}

module _ {Σ : ℕ → Fbqs} {Q : Questions} (j : ℕ) (more : 1 ≤ j) (R : Rests Σ Q (suc j)) (C : Chained Q (suc j)) where
  abbrev n : ℕ
  n = suc j

  abbrev does : Call → List ℕ → List ℕ
  does c s = step (vote Q n 0) c s

  -- before the links: a state in which nobody has accepted, and each site has heard its own vote at most, for drill
  record Quiet (s : List ℕ) : Type 0 where
    sound : Sound Q n 0 s
    nobody : (w : ℕ) → w ∈ get s (accepted n 0) → ⊥
    own : (v u : ℕ) → v < n → u ∈ get s (votes 0 v) → u ≡ v
    drill : (w : ℕ) → w ∈ get s (voted n 1) → ⊥

  -- from its own vote and accept nobody accepts
  not_yet : (v a b : ℕ) → v < n → ((u : ℕ) → u ∈ a → u ≡ v) → ((u : ℕ) → u ∈ b → u ≡ v) → accepting Q v a b ≡ true → ⊥
  not_yet v a b l f g e =
      let gone : others b v ⊆ 0 = record { each = λ u h. absurd (minus-not-in b h (rw (g u ((minus-⊆ b (single v)).each u h)) (∈-single v))) } in
      ⊎_elim (C.alone v (bit_or a (others b v)) l (λ u h. ⊎_elim (f u) (λ k. absurd (not-in-zero (gone.each u k))) (∈-or a (others b v) h)))
      (λ x. clash (R.promises.blocked-grows v (others b v) 0 gone x) (R.promises.nobody-blocked v (R.sites v l)))
      (accepting-either Q v a b e)

  module _ {s : List ℕ} (q : Quiet s) (v : ℕ) (l : v < n) where
    takes-proposal : Takes n 0 (propose v 0) s
    takes-proposal = record {
      range = record { kind-in = omega arith; from_in = l; to_in = l; side-in = omega arith };
      straight = λ e. refl;
      correct = not-in-zero;
      free = λ e h. q.drill v h;
      vote-sent = λ e. absurd (omega arith);
      accept-sent = λ e. absurd (omega arith);
    }

    quiet_step : Quiet (does (propose v 0) s)
    quiet_step = rw (step-taken n 0 (propose v 0) s Q takes-proposal) (record { sound = S₁; nobody = nobody; own = own; drill = drill })
      where
        s₁ : List ℕ
        s₁ = taken Q n (propose v 0) s

        S₁ : Sound Q n 0 s₁
        S₁ = subst (Sound Q n 0) (step-taken n 0 (propose v 0) s Q takes-proposal) (step-sound Σ Q n 0 R (propose v 0) s q.sound)

        own : (w u : ℕ) → w < n → u ∈ get s₁ (votes 0 w) → u ≡ w
        own w u h k =
            ⊎_elim (q.own w u h) (⊎_elim (λ e. e) (λ x. absurd (omega (arith, x.0))))
            (taken-votes q.sound takes-proposal {τ = 0} {w = w} (omega arith) h k)

        drill : (w : ℕ) → w ∈ get s₁ (voted n 1) → ⊥
        drill w h = ⊎_elim (q.drill w) (λ x. omega (arith, x.1)) (taken-voted q.sound takes-proposal {τ = 1} (omega arith) h)

        is-v : (w : ℕ) → w ∈ get s₁ (accepted n 0) → w ≡ v
        is-v w h = ⊎_elim (λ x. absurd (q.nobody w x)) (λ x. x.2) (taken-accepted q.sound takes-proposal {τ = 0} (omega arith) h)

        nobody : (w : ℕ) → w ∈ get s₁ (accepted n 0) → ⊥
        nobody w h =
            let hw = S₁.below (accepted n 0) w h in
            not_yet w (get s₁ (votes 0 w)) (get s₁ (accepts 0 w)) hw (λ u. own w u hw)
            (λ u k. is-v u (S₁.accepts-sent w u 0 hw (omega arith) not-in-zero k) ∙ sym (is-v w h)) (accepted-rule S₁ (omega arith) h)

  -- the first pass takes the two proposals
  quiet-fresh : Quiet (fresh (width n))
  quiet-fresh = record {
    sound = fresh-sound Σ Q n 0 R;
    nobody = λ w. fresh-none n (accepted n 0);
    own = λ v u l h. absurd (fresh-none n (votes 0 v) h);
    drill = λ w. fresh-none n (voted n 1);
  }

  abbrev s₀ : List ℕ
  s₀ = does (propose 1 0) (does (propose 0 0) (fresh (width n)))

  fresh-accept : (u v : ℕ) → does (call 2 u v 0) (fresh (width n)) ≡ fresh (width n)
  fresh-accept u v = step-not-taken n 0 (call 2 u v 0) (fresh (width n)) Q (λ K. fresh-none n (accepted n 0) (K.accept-sent refl not-in-zero))

  fresh-link : (k : ℕ) → does (link k) (fresh (width n)) ≡ fresh (width n)
  fresh-link zero = step-not-taken n 0 (link 0) (fresh (width n)) Q (λ K. fresh-none n (voted n 0) (K.vote-sent refl not-in-zero))
  fresh-link (suc v) = fresh-accept v (suc v)

  fresh-links : (k : ℕ) → pass does (links k) (fresh (width n)) ≡ s₀
  fresh-links zero = refl
  fresh-links (suc k) = ap (pass does (links k)) (fresh-link k) ∙ fresh-links k

  first : Stage Q j 0 (pass does (longest j) (fresh (width n)))
  first = subst (Stage Q j 0) (sym (ap (pass does (links n)) (fresh-accept j 0) ∙ fresh-links n)) (record {
    sound = q₂.sound;
    before = λ c m. ⊎_elim
        (λ e. rw e (heard-grows n (propose 0 0) s₁ (step-adds Q n 0 (propose 1 0) s₁)
        (step-heard quiet-fresh.sound (propose 0 0) (takes-proposal quiet-fresh 0 (omega arith)))))
        (λ k. ⊎_elim (λ e. rw e (step-heard q₁.sound (propose 1 0) (takes-proposal q₁ 1 (omega arith)))) (λ x. absurd (Memᴰ.not-nil x))
        (Memᴰ.cases_cons k)) (Memᴰ.cases_cons m);
    have = λ w l. absurd (omega arith);
    only = λ w h. absurd (q₂.nobody w h);
    waits = λ h. q₂.nobody j (q₂.sound.accepts-sent 0 j 0 (omega arith) (omega arith) not-in-zero h);
  })
    where
      s₁ : List ℕ
      s₁ = does (propose 0 0) (fresh (width n))

      q₁ : Quiet s₁
      q₁ = quiet_step quiet-fresh 0 (omega arith)

      q₂ : Quiet s₀
      q₂ = quiet_step q₁ 1 (omega arith)

  -- so each of the first n + 2 passes changes something
  stage : (k : ℕ) → k ≤ n → Stage Q j k (at R 0 (longest j) (suc k))
  stage zero h = first
  stage (suc k) h = stage-pass (stage k (omega arith)) R C h

  changes : (k : ℕ) → k < n + 2 → at R 0 (longest j) (suc k) ≡ at R 0 (longest j) k → ⊥
  changes zero h e = fresh-none n (voted n 0) (subst (λ (s : List ℕ). 0 ∈ get s (voted n 0)) e (voted-0 first))
  changes (suc k) h e = elim (dec_lt k n) [
    | yes l ↦ let new = (stage (suc k) l).have k (omega arith) in
        let old = (stage k (omega arith)).only k (subst (λ (s : List ℕ). k ∈ get s (accepted n 0)) e new) in omega arith
    | no l ↦ told (stage k (omega arith)) (omega arith)
  ]
    where
      told : Stage Q j k (at R 0 (longest j) (suc k)) → k ≡ n → ⊥
      told T d =
          let s = at R 0 (longest j) (suc k) in
          T.waits (subst (λ (t : List ℕ). j ∈ get t (accepts 0 0)) e
          (((pass_up does alike (spends (vote Q n 0) (vote-lawful R 0)) (links n) (does (back j) s) (step-sound Σ Q n 0 R (back j) s T.sound)).each (accepts 0 0)).each j
          (heard-it T j 0 (takes-accept T j 0 (omega arith) (omega arith)))))

  longest-passes : (run_of (vote Q n 0) (longest j)).passes ≡ n + 3
  longest-passes =
      let E = (is-run (vote Q n 0) (vote-lawful R 0) (longest j)).0 in
      let e : (run_of (vote Q n 0) (longest j)).state ≡ at R 0 (longest j) E.changing = E.state-is ∙ iter-at R 0 (longest j) E.changing in
      let most = few R 0 (longest j) in
      let sites = ones-le n (minus (all_below n) 0) (minus-lt n (all_below n) 0 (ones_lt n)) in
      elim (dec_lt E.changing (n + 2)) [
        | yes h ↦ absurd (changes E.changing h (ap (pass does (longest j)) (sym e) ∙ E.last-still ∙ e))
        | no h ↦ omega (arith, E.passes-is)
      ]

pub reached : Reached
reached zero two few = absurd (omega arith)
reached (suc j) two few =
    let t = chain (suc j) in
    let n-sites = chain-sites (suc j) two few in (
      t,
      longest j,
      chain-checked (suc j) two few,
      n-sites,
      ap suc (links-length (suc j)) ∙ omega arith,
      subst (λ (m : ℕ). (run_of (vote (questions t) m 0) (longest j)).passes ≡ suc j + 3) (sym n-sites)
          (longest-passes j (omega arith) (chain-rests two few) (chained two few)),
    )
