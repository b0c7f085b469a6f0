-- The owner left out of blocking changes no accept, no confirm, no step, no sound state and no run: accepting asks of the others alone.
use Prim.Native.Nat.{ℕ}
use mathlib.Core.Bool.{Bool, ◌&&◌, ◌||◌, not}
use mathlib.Core.List.{List}
use mathlib.Core.Path.{◌≡◌, ap, ap₂, ◌∙◌}
use lib.Bits.{bit_and, bit_or, and_comm}
use lib.Dec.{eqb}
use lib.ListN.{length}
use Rattle.ground.specs.Alike.{alike}
use Rattle.ground.specs.Search.{some}
use Rattle.masks.proofs.Laws.Apart.{minus-apart}
use Rattle.masks.proofs.Laws.Subsets.{minus-again}
use Rattle.masks.specs.Mask.{has, single, within, others, all_below}
use Rattle.refusals.specs.Refusal.{code}
use Rattle.rules.specs.Rules.{accepting, confirming, now_accepts, now_confirms, hears, taken, answer, only}
use Rattle.rules.specs.Sound.{differ, not_zero, not_own, not_rule, not_sent, bad_side, bad_site, unsound}
use Rattle.rules.specs.State.{votes, accepts, voted, accepted, confirmed, width, get, add}
use Rattle.rules.specs.Vote.{vote}
use Rattle.sets.proofs.Before.{others-counted, inside-counted, missed-unblocked}
use Rattle.sets.specs.Groups.{lists, sites_of, questions}
use Rattle.sets.specs.Promises.{Questions, questions_of}
use Rattle.sets.specs.Quorum.{largest}
use Rattle.votes.specs.Call.{Call}
use Rattle.votes.specs.Passes.{run}
use Rattle.votes.specs.Vote.{step, if_taken, fresh, run_of}
use Rattle.owner.specs.Owner.{questions_before, OthersAsBefore, AloneUnblocked, NothingChanges, OwnerLeftOut}

pub others-as-before : OthersAsBefore
unfolding questions_of
others-as-before t v w = others-counted t v w

pub alone-unblocked : AloneUnblocked
unfolding questions_of
alone-unblocked t v q w x e =
    missed-unblocked t v w q x (ap (λ (y : ℕ). bit_and y (others w v)) e ∙ and_comm (single v) (others w v) ∙ minus-apart w (single v))

-- two sets of questions that answer the same to who accepts and who confirms
module _ (old new : Questions) (n F : ℕ)
    (same-accepting : (v a b : ℕ) → accepting new v a b ≡ accepting old v a b)
    (same-confirming : (v b : ℕ) → confirming new v b ≡ confirming old v b) where
  same_taken : (c : Call) (s : List ℕ) → taken new n c s ≡ taken old n c s
  unfolding taken now_accepts now_confirms
  same_taken c s =
      let v = c.to in
      let side = c.side in
      let h = hears n c s in
      ap₂ (λ (f : ℕ → ℕ → Bool) (g : ℕ → Bool).
      (let a = only (f (get h (votes side v)) (get h (accepts side v))) v in
      let u = add (accepts side v) a (add (accepted n side) a h) in
      add (confirmed n side) (only (g (get u (accepts side v))) v) u))
      (λ i a b. same-accepting v a b i) (λ i a. same-confirming v a i)

  same_step : (c : Call) (s : List ℕ) → step (vote new n F) c s ≡ step (vote old n F) c s
  same_step c s = ap (λ (u : List ℕ). if_taken (answer n F c s) u s) (same_taken c s)

  same-run : (l : List Call) → run_of (vote new n F) l ≡ run_of (vote old n F) l
  unfolding run_of
  same-run l =
      ap (λ (f : Call → List ℕ → List ℕ). run f (λ c s. code (answer n F c s)) alike (fresh (width n)) l) (λ i c s. same_step c s i)

  module _ (s : List ℕ) where
    same-rule : (v a b x y : ℕ) → not_rule new v a b x y ≡ not_rule old v a b x y
    unfolding not_rule
    same-rule v a b x y =
        ap₂ (λ (f g : Bool). differ (has x v) f || differ (has y v) g) (same-accepting v a b) (same-confirming v b)

    same-side : (v side : ℕ) → bad_side new n F s v side ≡ bad_side old n F s v side
    unfolding bad_side
    same-side v side =
        let heard_votes = get s (votes side v) in
        let heard_accepts = get s (accepts side v) in
        let in_voted = get s (voted n side) in
        let in_accepted = get s (accepted n side) in
        let in_confirmed = get s (confirmed n side) in
        ap (λ (r : Bool).
        (has F v && not_zero v heard_votes heard_accepts in_voted in_accepted in_confirmed)
        || (not (has F v)
        && (not_own v heard_votes heard_accepts in_voted in_accepted || (r || not_sent F heard_votes heard_accepts in_voted in_accepted))))
        (same-rule v heard_votes heard_accepts in_accepted in_confirmed)

    same-site : (v : ℕ) → bad_site new n F s v ≡ bad_site old n F s v
    unfolding bad_site
    same-site v = ap₂ ◌||◌ (same-side v 0) (same-side v 1)

    same-state : unsound new n F s ≡ unsound old n F s
    unfolding unsound
    same-state =
        ap (λ (p : ℕ → Bool).
        not (eqb (length s) (width n))
        || (some (width n) (λ i. not (within (get s i) (all_below n)))
        || (not (eqb (bit_and (get s (voted n 0)) (get s (voted n 1))) 0) || some n p)))
        (λ i v. same-site v i)

  pub nothing-changes : NothingChanges old new n F
  nothing-changes =
      record { accepts = same-accepting; confirms = same-confirming; steps = same_step; states = same-state; runs = same-run }

-- of a table: the quorums are the same, and the others of the others are the others
module _ (t : List ℕ) where
  same-quorum : (v w : ℕ) → (questions (lists t)).in_quorum v w ≡ (questions_before t).in_quorum v w
  unfolding questions_of
  same-quorum v w = ap (λ (s : ℕ → ℕ → Bool). has (largest s (sites_of (lists t)) w) v) (inside-counted t)

  same-blocked : (v b : ℕ) → (questions (lists t)).blocked v (others b v) ≡ (questions_before t).blocked v (others b v)
  same-blocked v b = others-as-before t v (others b v) ∙ ap ((questions_before t).blocked v) (minus-again b (single v))

  same-accepting : (v a b : ℕ) → accepting (questions (lists t)) v a b ≡ accepting (questions_before t) v a b
  unfolding accepting
  same-accepting v a b = ap₂ ◌||◌ (same-quorum v (bit_or a (others b v))) (same-blocked v b)

  same-confirming : (v b : ℕ) → confirming (questions (lists t)) v b ≡ confirming (questions_before t) v b
  unfolding confirming
  same-confirming v b = same-quorum v b

pub owner-left-out : OwnerLeftOut
owner-left-out t n F = nothing-changes (questions_before t) (questions (lists t)) n F (same-accepting t) (same-confirming t)
