-- A site that has heard nothing of a side, and is in none of the side's masks: no clause of 18 is against it.
use Prim.Native.Nat.{ℕ, ◌<◌}
use mathlib.Core.Bool.{Bool, true, false, ◌&&◌, ◌||◌, not}
use mathlib.Core.List.{List}
use mathlib.Core.Path.{◌≡◌, refl}
use lib.Dec.{eqb}
use borrow.Author.Tests.{eqb-true, not-false}
use Rattle.ground.proofs.Logic.{or-none}
use Rattle.masks.proofs.Laws.Members.{has-zero}
use Rattle.masks.proofs.Laws.Subsets.{⊆-within, minus-⊆, not-in-zero}
use Rattle.masks.specs.Mask.{has, within, minus}
use Rattle.sets.specs.Paper.{Fbqs}
use Rattle.sets.specs.Promises.{Questions}
use Rattle.rules.specs.Sound.{not_zero, not_own, not_rule, not_sent, bad_side}
use Rattle.rules.specs.State.{votes, accepts, voted, accepted, confirmed, get}
use Rattle.rules.specs.Theorems.{Rests}
use Rattle.rules.proofs.RuleLaws.{accepting-nothing, confirming-nothing}

module _ (v heard_votes heard_accepts in_voted in_accepted in_confirmed : ℕ) (z : not_zero v heard_votes heard_accepts in_voted in_accepted in_confirmed ≡ false) where
  rest : (not (eqb heard_votes 0) ≡ false) × (not (eqb heard_accepts 0) || (has in_voted v || (has in_accepted v || has in_confirmed v)) ≡ false)
  unfolding not_zero
  rest = or-none (not (eqb heard_votes 0)) _ z

  later : (not (eqb heard_accepts 0) ≡ false) × (has in_voted v || (has in_accepted v || has in_confirmed v) ≡ false)
  later = or-none (not (eqb heard_accepts 0)) _ rest.1

  masks : (has in_voted v ≡ false) × (has in_accepted v || has in_confirmed v ≡ false)
  masks = or-none (has in_voted v) _ later.1

  no-votes : heard_votes ≡ 0
  no-votes = eqb-true heard_votes 0 (not-false (eqb heard_votes 0) rest.0)

  no-accepts : heard_accepts ≡ 0
  no-accepts = eqb-true heard_accepts 0 (not-false (eqb heard_accepts 0) later.0)

  nothing : (m x : ℕ) → within (minus 0 m) x ≡ true
  nothing m x = ⊆-within (record { each = λ u h. absurd (not-in-zero ((minus-⊆ 0 m).each u h)) })

  own : not_own v heard_votes heard_accepts in_voted in_accepted ≡ false
  unfolding not_own
  own = rw (no-votes, no-accepts, has-zero v, masks.0, (or-none (has in_accepted v) (has in_confirmed v) masks.1).0) refl

  sent : (F : ℕ) → not_sent F heard_votes heard_accepts in_voted in_accepted ≡ false
  unfolding not_sent
  sent F = rw (no-votes, no-accepts, nothing F in_voted, nothing F in_accepted) refl

  module _ {S : ℕ → Fbqs} {Q : Questions} {n : ℕ} (R : Rests S Q n) (l : v < n) where
    rule : not_rule Q v heard_votes heard_accepts in_accepted in_confirmed ≡ false
    unfolding not_rule
    rule =
        let p = or-none (has in_accepted v) (has in_confirmed v) masks.1 in
        rw (no-votes, no-accepts, p.0, p.1, accepting-nothing R v l, confirming-nothing R v) refl

none : (b : Bool) → (b && false) || (not b && false) ≡ false
none true = refl
none false = refl

module _ {S : ℕ → Fbqs} {Q : Questions} {n : ℕ} (R : Rests S Q n) (F : ℕ) (s : List ℕ) (v side : ℕ) where
  pub silent : v < n →
      not_zero v (get s (votes side v)) (get s (accepts side v)) (get s (voted n side)) (get s (accepted n side)) (get s (confirmed n side)) ≡ false →
      bad_side Q n F s v side ≡ false
  unfolding bad_side
  silent l z =
      let a = get s (votes side v) in
      let b = get s (accepts side v) in
      let c = get s (voted n side) in
      let d = get s (accepted n side) in
      let e = get s (confirmed n side) in
      rw (z, own v a b c d e z, sent v a b c d e z F, rule v a b c d e z R l) (none (has F v))
