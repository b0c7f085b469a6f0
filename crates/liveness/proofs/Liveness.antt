-- Theorem 6 of 004, of the public run; and the mark of the intact sites.
use Prim.Native.Nat.{ℕ, ◌<◌}
use mathlib.Core.List.{List}
use mathlib.Core.Logic.{inl, inr, ⊎_elim}
use mathlib.Core.Path.{◌≡◌, refl, sym, subst, ◌∙◌}
use native.Mathlib.Omega.{arith}
use lib.Pow.{ones_lt}
use borrow.Author.Tests.{le-ltb}
use Rattle.agreement.proofs.Agreement.{run-agrees}
use Rattle.ground.proofs.Logic.{is_false}
use Rattle.liveness.proofs.Spread.{AtRest, spreads}
use Rattle.liveness.specs.Liveness.{Complete, accepters, CompleteRun, Confirmed, end_mark, RunSpreads, OneMark, SpreadsOutside}
use Rattle.mark.specs.Mark.{mark}
use Rattle.masks.proofs.Laws.Single.{in?}
use Rattle.masks.proofs.Laws.Subsets.{mem, ∈-below, minus-⊆, ∈-minus, minus-not-in}
use Rattle.masks.specs.Mask.{has, minus, all_below, ◌∈◌, ◌⊆◌}
use Rattle.pass.proofs.Lawful.{table-vote}
use Rattle.pass.specs.Calls.{calls}
use Rattle.rules.proofs.SoundLaws.{confirmed-correct}
use Rattle.rules.proofs.WorkWays.{table-rests}
use Rattle.rules.specs.State.{confirmed, get}
use Rattle.rules.specs.Theorems.{Rests}
use Rattle.rules.specs.Vote.{vote_of}
use Rattle.run.proofs.Public.{is-checked, end-sound, the-run}
use Rattle.run.specs.Theorems.{Taken, end_state}
use Rattle.sets.proofs.Groups.{sites_in, few-in, table-is-fbqs}
use Rattle.sets.specs.Groups.{Groups, sites_of, fbqs_in, questions}
use Rattle.sets.specs.Paper.{Fbqs, Dispensable, Intact}
use Rattle.votes.proofs.AnyVote.{pass-each}

-- a table's sites are those below n, with those of B or without
pub site-below : (t : Groups) (v : ℕ) → v ∈ (fbqs_in t).sites → v < sites_of t
site-below t v h = ∈-below (ones_lt (sites_of t)) (subst (λ (x : ℕ). v ∈ x) (sites_in t) h)

below-site : (t : Groups) (B v : ℕ) → v ∈ minus (all_below (sites_of t)) B → v ∈ minus (fbqs_in t).sites B
below-site t B v = subst (λ (x : ℕ). v ∈ minus x B) (sym (sites_in t))

-- what a taken run has shown of its table, and its end
module _ {t : Groups} {F : ℕ} {list state answers : List ℕ} {p : ℕ} (T : Taken t F list state answers p) where
  pub rests : Rests (λ v. fbqs_in t) (questions t) (sites_of t)
  rests = table-rests t (is-checked T)

  pub at_rest : AtRest (questions t) (sites_of t) F (calls list) (end_state t F list state p)
  at_rest = record {
    sound = end-sound T;
    still =
        pass-each (vote_of t F) (table-vote t (is-checked T) F) (calls list) (end_state t F list state p) (end-sound T)
        (the-run t F list state answers p T).last-still;
  }

-- every site outside a dispensable set that contains the faulty sites is intact by it
outside : {S : Fbqs} {F B u : ℕ} → Dispensable S B → F ⊆ B → u ∈ minus S.sites B → Intact S F u
outside {S} {B = B} {u} D f h =
    record { site = (minus-⊆ S.sites B).each u h; set = B; dispensable = D; contains = f; outside = minus-not-in S.sites h }

pub run-spreads : RunSpreads
run-spreads t F list state answers p side hs X w v h I =
    let D = I.dispensable in
    let f = I.contains in
    spreads (rests X.ran) (table-is-fbqs t (is-checked X.ran)) (site-below t) (at_rest X.ran) hs D f
    (λ a b ha hb. X.complete a b (outside D f ha) (outside D f hb)) (inl X.shared) h (∈-minus I.site I.outside)

pub spreads-outside : SpreadsOutside
spreads-outside t F list state answers p side B hs T D f C w v hw hv h =
    spreads (rests T) (table-is-fbqs t (is-checked T)) (site-below t) (at_rest T) hs D f
    (subst (λ (x : ℕ). Complete (λ u. u ∈ minus x B) side (calls list) (accepters t F list state p side)) (sym (sites_in t)) C)
    (inr (below-site t B w hw)) h (below-site t B v hv)

-- the mark, from the two masks
mark-drill : {v d x : ℕ} → v < 64 → v ∈ d → (v ∈ x → ⊥) → mark v d x ≡ 1
unfolding mark
mark-drill {v} {d} {x} l h f = rw (le-ltb 63 v (omega arith), h.holds, is_false (has x v) (λ e. f (mem e))) refl

mark-live : {v d : ℕ} (x : ℕ) → v < 64 → (v ∈ d → ⊥) → mark v d x ≡ 0
unfolding mark
mark-live {v} {d} x l f = rw (le-ltb 63 v (omega arith), is_false (has d v) (λ e. f (mem e))) refl

module _ {t : Groups} {F : ℕ} {list state answers : List ℕ} {p : ℕ} (X : CompleteRun t F list state answers p 0) where
  small : {v : ℕ} → Intact (fbqs_in t) F v → v < 64
  small {v} I = omega (arith, few-in t (is-checked X.ran), site-below t v I.site)

  drill : (w v : ℕ) → Confirmed t F list state p 0 w → Intact (fbqs_in t) F v → end_mark t F list state p v ≡ 1
  drill w v h I =
      let k : Confirmed t F list state p 0 v = run-spreads t F list state answers p 0 (omega arith) X w v h I in
      let A = run-agrees t F list state answers p X.ran (record { shared = X.shared; site = v; intact = I }) in
      mark-drill (small I) k (λ b. A.none_both v (confirmed-correct (end-sound X.ran) (omega arith) k) k b)

  one : (v w : ℕ) → Intact (fbqs_in t) F v → Intact (fbqs_in t) F w →
      end_mark t F list state p v ≡ end_mark t F list state p w
  one v w I J =
      ⊎_elim (λ h. drill v v h I ∙ sym (drill v w h J))
      (λ f. ⊎_elim (λ h. drill w v h I ∙ sym (drill w w h J)) (λ g. mark-live _ (small I) f ∙ sym (mark-live _ (small J) g))
      (in? w (get (end_state t F list state p) (confirmed (sites_of t) 0))))
      (in? v (get (end_state t F list state p) (confirmed (sites_of t) 0)))

pub one-mark : OneMark
one-mark t F list state answers p X = record { one = one X; drill = drill X }
