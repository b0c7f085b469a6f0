-- The list that takes the most passes on the chain, and its stages. Its calls stand the wrong way round, so that after the first pass, with the two
-- proposals, each pass takes one call more: the vote by which site 0 accepts, the accepts down the chain, and the accept of the last site, told to
-- site 0.
use Prim.Native.Nat.{ℕ, zero, suc, ◌+◌, ◌≤◌, ◌<◌}
use mathlib.Core.Bool.{true}
use mathlib.Core.List.Memᴰ
use mathlib.Core.List.{List, [], ◌∷◌, Memᴰ}
use mathlib.Core.Logic.{◌⊎◌, ⊎_elim}
use mathlib.Core.Path.{◌≡◌, refl, sym, ap, subst, ◌∙◌}
use native.Mathlib.Omega.{arith}
use lib.ListN.{length}
use Rattle.ground.proofs.Numbers.{same?}
use Rattle.masks.proofs.Laws.Single.{single-∈}
use Rattle.masks.proofs.Laws.Subsets.{mem, not-in-zero, or-⊆-l, ∈-minus}
use Rattle.masks.specs.Mask.{others, ◌∈◌}
use Rattle.run.proofs.Chain.{Chained}
use Rattle.votes.proofs.Passes.{pass-still}
use Rattle.sets.specs.Paper.{Fbqs}
use Rattle.sets.specs.Promises.{Questions}
use Rattle.rules.proofs.Answer.{Takes, step-taken, step-not-taken}
use Rattle.rules.proofs.Heard.{heard-proposal, heard-vote, heard-accept, heard-grows}
use Rattle.rules.proofs.Inner.{heard-still, step-heard}
use Rattle.rules.proofs.RuleLaws.{by-quorum, by-blocked}
use Rattle.rules.proofs.SoundLaws.{voted-heard, rule-accepted}
use Rattle.rules.proofs.Steps.{step-sound, step-adds}
use Rattle.rules.proofs.Taken.{taken-accepts, taken-accepted}
use Rattle.rules.specs.Inner.{heard}
use Rattle.rules.specs.Sound.{Sound}
use Rattle.rules.specs.State.{votes, accepts, voted, accepted, get}
use Rattle.rules.specs.Theorems.{Rests}
use Rattle.rules.specs.Vote.{vote}
use Rattle.votes.specs.Passes.{pass}
use Rattle.votes.specs.Call.{propose, call, Call}
use Rattle.votes.specs.Vote.{step}

-- the call by which site k is to accept
abbrev pub link : ℕ → Call
link zero = call 1 1 0 0
link (suc v) = call 2 v (suc v) 0

-- the proposals at the end, and before them the links, the last one first
abbrev pub links : ℕ → List Call
links zero = propose 0 0 ∷ propose 1 0 ∷ []
links (suc k) = link k ∷ links k

-- the accept of the last of j + 1 sites, told to site 0, and then all
abbrev pub back : ℕ → Call
back j = call 2 j 0 0

abbrev pub longest : ℕ → List Call
longest j = back j ∷ links (suc j)

pub links-length : (k : ℕ) → length (links k) ≡ k + 2
links-length zero = refl
links-length (suc k) = let h = links-length k in omega arith

link-to : (k : ℕ) → (link k).to ≡ k
link-to zero = refl
link-to (suc v) = refl

-- the proposals stand in the list from the start
proposed : {c : Call} (k : ℕ) → Memᴰ c (links zero) → Memᴰ c (links k)
proposed zero m = m
proposed (suc k) m = Memᴰ.tail (proposed k m)

-- of j + 1 sites the first k have accepted, by the links before link k; site 0 has not heard of the last
pub record Stage (Q : Questions) (j k : ℕ) (s : List ℕ) : Type 0 where
  pub sound : Sound Q (suc j) 0 s
  pub before : (c : Call) → Memᴰ c (links k) → heard (suc j) c s ≡ true
  pub have : (w : ℕ) → w < k → w ∈ get s (accepted (suc j) 0)
  pub only : (w : ℕ) → w ∈ get s (accepted (suc j) 0) → w < k
  pub waits : j ∈ get s (accepts 0 0) → ⊥

module _ {Q : Questions} {j k : ℕ} {s : List ℕ} (T : Stage Q j k s) where
  abbrev n : ℕ
  n = suc j

  abbrev does : Call → List ℕ → List ℕ
  does c t = step (vote Q n 0) c t

  pub voted-0 : 0 ∈ get s (voted n 0)
  voted-0 = mem (sym (heard-proposal n (propose 0 0) s refl) ∙ T.before (propose 0 0) (proposed k (Memᴰ.head refl)))

  voted-1 : 1 ∈ get s (voted n 0)
  voted-1 =
      mem (sym (heard-proposal n (propose 1 0) s refl) ∙ T.before (propose 1 0) (proposed k (Memᴰ.tail (Memᴰ.head refl))))

  more : 1 < n
  more = T.sound.below (voted n 0) 1 voted-1

  -- link k can be taken, and none before it in the list
  pub takes-accept : (u v : ℕ) → u < k → v < n → Takes n 0 (call 2 u v 0) s
  takes-accept u v h l = record {
    range = record { kind-in = omega arith; from_in = T.sound.below (accepted n 0) u (T.have u h); to_in = l; side-in = omega arith };
    straight = λ e. absurd (omega arith);
    correct = not-in-zero;
    free = λ e. absurd (omega arith);
    vote-sent = λ e. absurd (omega arith);
    accept-sent = λ e f. T.have u h;
  }

  takes-vote : Takes n 0 (link 0) s
  takes-vote = record {
    range = record { kind-in = omega arith; from_in = more; to_in = omega arith; side-in = omega arith };
    straight = λ e. absurd (omega arith);
    correct = not-in-zero;
    free = λ e. absurd (omega arith);
    vote-sent = λ e f. voted-1;
    accept-sent = λ e. absurd (omega arith);
  }

  too-early : (u v : ℕ) → k ≤ u → does (call 2 u v 0) s ≡ s
  too-early u v h = step-not-taken n 0 (call 2 u v 0) s Q (λ K. let l = T.only u (K.accept-sent refl not-in-zero) in omega arith)

  takes-link : (i : ℕ) → i ≡ k → i < n → Takes n 0 (link i) s
  takes-link zero e h = takes-vote
  takes-link (suc v) e h = takes-accept v (suc v) (omega arith) h

  -- who is told of an accept has heard it
  pub heard-it : (u v : ℕ) → Takes n 0 (call 2 u v 0) s → u ∈ get (does (call 2 u v 0) s) (accepts 0 v)
  heard-it u v K =
      let c = call 2 u v 0 in
      mem (sym (heard-accept n c (does c s) (λ z. omega arith) (λ z. omega arith)) ∙ step-heard T.sound c K)

  module _ {Σ : ℕ → Fbqs} (R : Rests Σ Q n) (C : Chained Q n) where
    -- link k makes site k accept
    accepts-next : (i : ℕ) → i ≡ k → i < n → i ∈ get (does (link i) s) (accepted n 0)
    accepts-next zero e h =
        let s₁ = does (link 0) s in
        let S₁ = step-sound Σ Q n 0 R (link 0) s T.sound in
        let in-votes = or-⊆-l (get s₁ (votes 0 0)) (others (get s₁ (accepts 0 0)) 0) in
        rule-accepted S₁ (omega arith) h not-in-zero
        (by-quorum Q 0 (get s₁ (votes 0 0)) (get s₁ (accepts 0 0))
        (C.first_two _ (in-votes.each 0 (voted-heard S₁ (omega arith) (((step-adds Q n 0 (link 0) s).each (voted n 0)).each 0 voted-0)))
        (in-votes.each 1 (mem (sym (heard-vote n (link 0) s₁ refl) ∙ step-heard T.sound (link 0) takes-vote)))))
    accepts-next (suc v) e h =
        let c = link (suc v) in
        let s₁ = does c s in
        let told : v ∈ get s₁ (accepts 0 (suc v)) = heard-it v (suc v) (takes-link (suc v) e h) in
        rule-accepted (step-sound Σ Q n 0 R c s T.sound) (omega arith) h not-in-zero
        (by-blocked Q (suc v) (get s₁ (votes 0 (suc v))) (get s₁ (accepts 0 (suc v)))
        (C.blocks (suc v) _ h (∈-minus told (λ z. omega (arith, single-∈ (suc v) z)))))

    -- and nobody else, nor does site 0 hear of the last
    next-only : k < n → (w : ℕ) → w ∈ get (does (link k) s) (accepted n 0) → w < suc k
    next-only h w m =
        let K = takes-link k refl h in
        ⊎_elim (λ x. let l = T.only w x in omega arith) (λ x. omega (arith, x.2, link-to k))
        (taken-accepted T.sound K (omega arith) (subst (λ (t : List ℕ). w ∈ get t (accepted n 0)) (step-taken n 0 (link k) s Q K) m))

    next-waits : k < n → j ∈ get (does (link k) s) (accepts 0 0) → ⊥
    next-waits h m =
        let K = takes-link k refl h in
        ⊎_elim T.waits (⊎_elim (λ e. omega (arith, more)) (λ x. away k x.0 x.1))
        (taken-accepts T.sound K {τ = 0} {w = 0} (omega arith) (omega arith)
        (subst (λ (t : List ℕ). j ∈ get t (accepts 0 0)) (step-taken n 0 (link k) s Q K) m))
      where
        away : (i : ℕ) → (link i).kind ≡ 2 → 0 ≡ (link i).to → ⊥
        away zero a b = omega arith
        away (suc v) a b = omega arith

    next : k < n → Stage Q j (suc k) (does (link k) s)
    next h = record {
      sound = step-sound Σ Q n 0 R (link k) s T.sound;
      before = λ c m. ⊎_elim (λ e. rw e (step-heard T.sound (link k) (takes-link k refl h)))
          (λ m'. heard-grows n c s (step-adds Q n 0 (link k) s) (T.before c m')) (Memᴰ.cases_cons m);
      have = λ w l. ⊎_elim (λ e. rw e (accepts-next k refl h))
          (λ ne. ((step-adds Q n 0 (link k) s).each (accepted n 0)).each w (T.have w (omega arith))) (same? w k);
      only = next-only h;
      waits = next-waits h;
    }

    -- a pass takes link k, and nothing else is new in it
    refused-link : (m : ℕ) → k < m → does (link m) s ≡ s
    refused-link zero h = absurd (omega arith)
    refused-link (suc v) h = too-early v (suc v) (omega arith)

    links-pass : (m : ℕ) → k < m → m ≤ n → pass does (links m) s ≡ does (link k) s
    links-pass zero h l = absurd (omega arith)
    links-pass (suc m) h l =
        let ih = links-pass m in
        let U = next (omega arith) in
        ⊎_elim (λ e. rw (← e) (pass-still does (links k) (λ c x. heard-still U.sound c (U.before c (Memᴰ.tail x)))))
        (λ ne. ap (pass does (links m)) (refused-link m (omega arith)) ∙ ih (omega arith) (omega arith)) (same? k m)

    pub stage-pass : k < n → Stage Q j (suc k) (pass does (longest j) s)
    stage-pass h =
        subst (Stage Q j (suc k)) (sym (ap (pass does (links n)) (too-early j 0 (omega arith)) ∙ links-pass n h (omega arith))) (next h)
