-- Laws of rounds, of the largest quorum inside a set, and of quorums, over any rule s of n sites. No law asks for a bound on the set.
use Prim.Native.Nat.{ℕ, zero, suc, ◌^◌, ◌≤◌, ◌<◌}
use mathlib.Core.Bool.{Bool, true, false, ◌&&◌, ◌||◌, not, cond}
use mathlib.Core.Logic.{⊎_elim}
use mathlib.Core.Path.{◌≡◌, refl, sym, ap, ◌∙◌, subst}
use native.Mathlib.Nat.{le_refl, le_trans, not-suc-le-zero, le_of_suc-le-suc, lt_of_lt_of_le}
use native.Mathlib.Omega.{arith}
use lib.Count.{ones-le}
use lib.Dec.{eqb}
use lib.Pow.{ones_lt}
use borrow.Author.Tests.{eqb-true, eqb-false, eq-eqb, ne_eqb}
use Rattle.ground.proofs.Every.{every_of, every-at}
use Rattle.ground.proofs.Logic.{and_l, and_r, and_i, cases, is_false, clash, not_t, or-i, or-e}
use Rattle.ground.specs.Search.{every}
use Rattle.masks.proofs.Laws.AllBelow.{⊆-all}
use Rattle.masks.proofs.Laws.Gather.{∈-gather, gather-∈, gather-lt}
use Rattle.masks.proofs.Laws.Size.{size-⊂}
use Rattle.masks.proofs.Laws.Subsets.{mem, ⊆-refl, ⊆-trans, ⊆-antisym, ⊆-le, within-⊆, ⊆-within, ∈-below, below-⊆}
use Rattle.masks.specs.Mask.{has, within, all_below, size, ◌∈◌, ◌⊆◌}
use Rattle.sets.specs.Quorum.{quorum, round, after, left, dropping, largest, rounds}

-- what the laws ask of a rule: a slice inside a set is inside each larger set
pub record Rule (s : ℕ → ℕ → Bool) : Type 0 where
  pub grows : (v a b : ℕ) → a ⊆ b → s v a ≡ true → s v b ≡ true

module _ (s : ℕ → ℕ → Bool) (n : ℕ) where
  -- one round

  pub round-⊆ : (u : ℕ) → round s n u ⊆ u
  unfolding round
  round-⊆ u = record { each = λ v h. mem (and_l (has u v) (s v u) (gather-∈ n (λ v. has u v && s v u) h)) }

  pub round-slice : {u v : ℕ} → v ∈ round s n u → s v u ≡ true
  unfolding round
  round-slice {u} {v} h = and_r (has u v) (s v u) (gather-∈ n (λ v. has u v && s v u) h)

  pub ∈-round : {u v : ℕ} → v < n → v ∈ u → s v u ≡ true → v ∈ round s n u
  unfolding round
  ∈-round {u} {v} l h e = ∈-gather (λ v. has u v && s v u) l (and_i h.holds e)

  pub round-lt : (u : ℕ) → round s n u < 2 ^ n
  unfolding round
  round-lt u = gather-lt n (λ v. has u v && s v u)

  -- nobody dropped, or somebody
  round-cases : {A : Type 0} (u : ℕ) → (round s n u ≡ u → A) → ((round s n u ≡ u → ⊥) → A) → A
  round-cases u f g = ⊎_elim (λ e. f (eqb-true (round s n u) u e)) (λ e. g (eqb-false (round s n u) u e)) (cases (eqb (round s n u) u))

  -- a round that drops somebody leaves fewer sites, and a smaller number
  pub fewer : (u : ℕ) → (round s n u ≡ u → ⊥) → size (round s n u) < size u
  fewer u f = size-⊂ (round-⊆ u) f

  pub smaller : (u : ℕ) → (round s n u ≡ u → ⊥) → round s n u < u
  smaller u f = let l = ⊆-le (round-⊆ u) in omega arith

  -- induction along the rounds
  pub along : (P : ℕ → Type 0) → ((u : ℕ) → round s n u ≡ u → P u) → ((u : ℕ) → (round s n u ≡ u → ⊥) → P (round s n u) → P u) → (u : ℕ) → P u
  along P base step u = go (suc u) u (le_refl (suc u))
    where
      go : (f u : ℕ) → u < f → P u
      go zero u l = absurd (not-suc-le-zero l)
      go (suc f) u l = let ih = go f in round-cases u (base u) (λ ne. step u ne (ih (round s n u) (lt_of_lt_of_le (smaller u ne) (le_of_suc-le-suc l))))

  -- the clauses of the set left and of the count, with f rounds allowed

  left-stop : (f u : ℕ) → round s n u ≡ u → left s n f u ≡ u
  unfolding left
  left-stop zero u e = refl
  left-stop (suc f) u e = ap (λ (b : Bool). cond b u (left s n f (round s n u))) (eq-eqb (round s n u) u e)

  left_step : (f u : ℕ) → (round s n u ≡ u → ⊥) → left s n (suc f) u ≡ left s n f (round s n u)
  unfolding left
  left_step f u ne = ap (λ (b : Bool). cond b u (left s n f (round s n u))) (ne_eqb (round s n u) u ne)

  dropping-stop : (f u : ℕ) → round s n u ≡ u → dropping s n f u ≡ 0
  unfolding dropping
  dropping-stop zero u e = refl
  dropping-stop (suc f) u e = ap (λ (b : Bool). cond b 0 (suc (dropping s n f (round s n u)))) (eq-eqb (round s n u) u e)

  dropping-step : (f u : ℕ) → (round s n u ≡ u → ⊥) → dropping s n (suc f) u ≡ suc (dropping s n f (round s n u))
  unfolding dropping
  dropping-step f u ne = ap (λ (b : Bool). cond b 0 (suc (dropping s n f (round s n u)))) (ne_eqb (round s n u) u ne)

  -- as many rounds as the set has members are enough
  enough : (f u : ℕ) → size u ≤ f → (left s n (suc f) u ≡ left s n f u) × (dropping s n (suc f) u ≡ dropping s n f u)
  enough zero u l =
      round-cases u (λ e. (left-stop 1 u e ∙ sym (left-stop 0 u e), dropping-stop 1 u e ∙ sym (dropping-stop 0 u e)))
      (λ ne. absurd (not-suc-le-zero (le_trans (fewer u ne) l)))
  enough (suc f) u l =
      let ih = enough f (round s n u) in
      round-cases u
      (λ e. (left-stop (suc (suc f)) u e ∙ sym (left-stop (suc f) u e), dropping-stop (suc (suc f)) u e ∙ sym (dropping-stop (suc f) u e)))
      (λ ne.
      let r = ih (le_of_suc-le-suc (le_trans (fewer u ne) l)) in
      (left_step (suc f) u ne ∙ r.0 ∙ sym (left_step f u ne), dropping-step (suc f) u ne ∙ ap suc r.1 ∙ sym (dropping-step f u ne)))

  -- what a round does to the answer: it stops, or the answer is that of the set after the round, and one round more

  pub largest-stop : (u : ℕ) → round s n u ≡ u → largest s n u ≡ u
  unfolding largest
  largest-stop u e = left-stop (suc n) u e

  pub rounds-stop : (u : ℕ) → round s n u ≡ u → rounds s n u ≡ 0
  unfolding rounds
  rounds-stop u e = dropping-stop (suc n) u e

  pub largest_step : (u : ℕ) → (round s n u ≡ u → ⊥) → largest s n u ≡ largest s n (round s n u)
  unfolding largest
  largest_step u ne = left_step n u ne ∙ sym (enough n (round s n u) (ones-le n (round s n u) (round-lt u))).0

  pub rounds-step : (u : ℕ) → (round s n u ≡ u → ⊥) → rounds s n u ≡ suc (rounds s n (round s n u))
  unfolding rounds
  rounds-step u ne = dropping-step n u ne ∙ ap suc (sym (enough n (round s n u) (ones-le n (round s n u) (round-lt u))).1)

  -- the set left

  pub largest-⊆ : (w : ℕ) → largest s n w ⊆ w
  largest-⊆ =
      along (λ (w : ℕ). largest s n w ⊆ w) (λ u e. rw (largest-stop u e) (⊆-refl u)) (λ u ne ih. rw (largest_step u ne) (⊆-trans ih (round-⊆ u)))

  -- whom a round drops is not in it
  pub largest-⊆-round : (w : ℕ) → largest s n w ⊆ round s n w
  largest-⊆-round w =
      round-cases w (λ e. rw (largest-stop w e) (rw e (⊆-refl w))) (λ ne. rw (largest_step w ne) (largest-⊆ (round s n w)))

  -- the next round drops nobody
  pub largest-still : (w : ℕ) → round s n (largest s n w) ≡ largest s n w
  largest-still =
      along (λ (w : ℕ). round s n (largest s n w) ≡ largest s n w) (λ u e. rw (largest-stop u e) e) (λ u ne ih. rw (largest_step u ne) ih)

  -- its rounds

  pub rounds-few : (w : ℕ) → rounds s n w ≤ size w
  rounds-few =
      along (λ (w : ℕ). rounds s n w ≤ size w) (λ u e. rw (rounds-stop u e) (omega arith))
      (λ u ne ih. rw (rounds-step u ne) (le_trans (suc-le ih) (fewer u ne)))
    where
      suc-le : {a b : ℕ} → a ≤ b → suc a ≤ suc b
      suc-le h = omega arith

  -- a round before the others, or after them
  after-suc : (k u : ℕ) → after s n (suc k) u ≡ after s n k (round s n u)
  unfolding after
  after-suc zero u = refl
  after-suc (suc k) u = ap (round s n) (after-suc k u)

  pub largest-after : (w : ℕ) → largest s n w ≡ after s n (rounds s n w) w
  unfolding after
  largest-after =
      along (λ (w : ℕ). largest s n w ≡ after s n (rounds s n w) w)
      (λ u e. largest-stop u e ∙ sym (ap (λ (k : ℕ). after s n k u) (rounds-stop u e)))
      (λ u ne ih. largest_step u ne ∙ ih ∙ sym (ap (λ (k : ℕ). after s n k u) (rounds-step u ne) ∙ after-suc (rounds s n (round s n u)) u))

  -- each of its rounds drops somebody
  pub rounds-drop : (w k : ℕ) → k < rounds s n w → after s n k w ≡ after s n (suc k) w → ⊥
  unfolding after
  rounds-drop =
      along (λ (w : ℕ). (k : ℕ) → k < rounds s n w → after s n k w ≡ after s n (suc k) w → ⊥)
      (λ u e k l. absurd (not-suc-le-zero (subst (λ (x : ℕ). k < x) (rounds-stop u e) l)))
      (λ u ne ih k l. at u ne ih k (subst (λ (x : ℕ). k < x) (rounds-step u ne) l))
    where
      at : (u : ℕ) → (round s n u ≡ u → ⊥) → ((k : ℕ) → k < rounds s n (round s n u) → after s n k (round s n u) ≡ after s n (suc k) (round s n u) → ⊥)
          → (k : ℕ) → k < suc (rounds s n (round s n u)) → after s n k u ≡ after s n (suc k) u → ⊥
      at u ne ih zero l e = ne (sym e)
      at u ne ih (suc k) l e = ih k (le_of_suc-le-suc l) (sym (after-suc k u) ∙ e ∙ after-suc (suc k) u)

  -- quorums: not empty, of the n sites, and each member has a slice inside

  member-test : ℕ → ℕ → Bool
  member-test q v = not (has q v) || s v q

  pub quorum-of : {q : ℕ} → (q ≡ 0 → ⊥) → q ⊆ all_below n → ((v : ℕ) → v ∈ q → s v q ≡ true) → quorum s n q ≡ true
  unfolding quorum member-test
  quorum-of {q} ne sub f =
      and_i (ap not (ne_eqb q 0 ne))
      (and_i (⊆-within sub)
      (every_of n (member-test q)
      (λ v l. ⊎_elim (λ e. or-i (not (has q v)) (s v q) (f v (mem e))) (λ e. ap (λ (x : Bool). not x || s v q) e) (cases (has q v)))))

  quorum-parts : (q : ℕ) → quorum s n q ≡ true → (not (eqb q 0) ≡ true) × (within q (all_below n) ≡ true) × (every n (member-test q) ≡ true)
  unfolding quorum member-test
  quorum-parts q e =
      let rest = and_r (not (eqb q 0)) (within q (all_below n) && every n (member-test q)) e in (
        and_l (not (eqb q 0)) (within q (all_below n) && every n (member-test q)) e,
        and_l (within q (all_below n)) (every n (member-test q)) rest,
        and_r (within q (all_below n)) (every n (member-test q)) rest,
      )

  pub quorum-some : {q : ℕ} → quorum s n q ≡ true → q ≡ 0 → ⊥
  quorum-some {q} e = eqb-false q 0 (not_t (eqb q 0) (quorum-parts q e).0)

  pub quorum-below : {q : ℕ} → quorum s n q ≡ true → q ⊆ all_below n
  quorum-below {q} e = within-⊆ q (all_below n) (quorum-parts q e).1

  pub quorum-slice : {q v : ℕ} → quorum s n q ≡ true → v ∈ q → s v q ≡ true
  unfolding member-test
  quorum-slice {q} {v} e h =
      ⊎_elim (λ i. absurd (clash h.holds (not_t (has q v) i))) (λ i. i)
      (or-e (not (has q v)) (s v q) (every-at n (member-test q) (quorum-parts q e).2 v (∈-below (ones_lt n) ((quorum-below e).each v h))))

  pub quorum-lt : {q : ℕ} → quorum s n q ≡ true → q < 2 ^ n
  quorum-lt e = below-⊆ n (quorum-below e) (ones_lt n)

  -- what is no quorum: the empty set, a set with a member that is no site, a set with a member that has no slice inside

  pub quorum-empty : quorum s n 0 ≡ false
  quorum-empty = is_false (quorum s n 0) (λ e. quorum-some e refl)

  pub quorum-outside : (q : ℕ) → within q (all_below n) ≡ false → quorum s n q ≡ false
  quorum-outside q f = is_false (quorum s n q) (λ e. clash (⊆-within (quorum-below e)) f)

  pub quorum-lacks : {q v : ℕ} → v ∈ q → s v q ≡ false → quorum s n q ≡ false
  quorum-lacks {q} h f = is_false (quorum s n q) (λ e. clash (quorum-slice e h) f)

  -- a quorum is a set that is not empty and from which a round drops nobody
  pub quorum-still : {q : ℕ} → quorum s n q ≡ true → round s n q ≡ q
  quorum-still {q} e =
      ⊆-antisym (round-⊆ q) (record { each = λ v h. ∈-round (∈-below (quorum-lt e) h) h (quorum-slice e h) })

  pub still-quorum : {q : ℕ} → round s n q ≡ q → (q ≡ 0 → ⊥) → quorum s n q ≡ true
  still-quorum {q} e ne =
      quorum-of ne (⊆-all n (subst (λ (x : ℕ). x < 2 ^ n) e (round-lt q))) (λ v h. round-slice (subst (λ (x : ℕ). v ∈ x) (sym e) h))

  -- the set left is empty or a quorum
  pub largest-quorum : (w : ℕ) → (largest s n w ≡ 0 → ⊥) → quorum s n (largest s n w) ≡ true
  largest-quorum w ne = still-quorum (largest-still w) ne

  -- with a rule that grows
  module _ (r : Rule s) where
    pub round-grows : {a b : ℕ} → a ⊆ b → round s n a ⊆ round s n b
    round-grows {a} {b} sub =
        record { each = λ v h. ∈-round (∈-below (round-lt a) h) (sub.each v ((round-⊆ a).each v h)) (r.grows v a b sub (round-slice h)) }

    -- a set from which a round drops nobody, inside w, stays to the end
    pub largest-contains : {q : ℕ} → round s n q ≡ q → (w : ℕ) → q ⊆ w → q ⊆ largest s n w
    largest-contains {q} e =
        along (λ (w : ℕ). q ⊆ w → q ⊆ largest s n w) (λ u f i. rw (largest-stop u f) i)
        (λ u ne ih i. rw (largest_step u ne) (ih (subst (λ (x : ℕ). x ⊆ round s n u) e (round-grows i))))

    -- every quorum inside w is inside the largest
    pub largest-greatest : {q : ℕ} (w : ℕ) → quorum s n q ≡ true → q ⊆ w → q ⊆ largest s n w
    largest-greatest w k i = largest-contains (quorum-still k) w i

    pub largest-grows : {a b : ℕ} → a ⊆ b → largest s n a ⊆ largest s n b
    largest-grows {a} {b} i = largest-contains (largest-still a) b (⊆-trans (largest-⊆ a) i)
