-- A vote or an accept: where its senders and what was heard of it stand, two places apart, so that one sum reaches both.
use Prim.Native.Nat.{ℕ, ◌+◌, ◌-◌, ◌*◌, ◌≤◌, ◌<◌}
use mathlib.Core.Bool.{Bool, true, false, ◌||◌, not, cond, or-true, or-false}
use mathlib.Core.List.{List}
use mathlib.Core.Logic.{⊎_elim}
use mathlib.Core.Path.{◌≡◌, refl, ap, ◌∙◌}
use native.Mathlib.Omega.{arith}
use lib.Bits.{bit_or}
use lib.Dec.{eqb}
use borrow.Author.Tests.{eq-eqb, ne_eqb}
use Rattle.ground.proofs.Logic.{cases}
use Rattle.ground.proofs.Numbers.{same?}
use Rattle.masks.proofs.Laws.Members.{has-or}
use Rattle.masks.specs.Mask.{has}
use Rattle.rules.proofs.Ways.{is-heard-vote, is-heard-accept, unsent-faulty, unsent-vote, unsent-accept}
use Rattle.rules.specs.Inner.{heard}
use Rattle.rules.specs.Rules.{unsent}
use Rattle.rules.specs.State.{votes, voted, accepted, get}
use Rattle.votes.specs.Call.{Call}

-- b is whether the sender is among those at the place
pub sent-there : (n kind side from : ℕ) (s : List ℕ) → 1 ≤ kind → kind < 3 → {b : Bool} {i : ℕ} → b ≡ has (get s i) from → i ≡ voted n side + 2 * (kind - 1) →
    b ≡ has (get s (cond (eqb kind 1) (voted n side) (accepted n side))) from
sent-there n kind side from s h l {b} {i} e p =
    let at : (j : ℕ) → i ≡ j → b ≡ has (get s j) from = λ j q. e ∙ ap (λ (x : ℕ). has (get s x) from) q in
    ⊎_elim (λ v. rw (eq-eqb kind 1 v) (at (voted n side) (omega (arith, p, v)))) (λ a. rw (ne_eqb kind 1 a) (at (accepted n side) (omega (arith, p, a, h, l))))
    (same? kind 1)

module _ (n : ℕ) (c : Call) (s : List ℕ) (k : c.kind ≡ 0 → ⊥) (l : c.kind < 3) where
  -- b is whether the sender is among those who sent it, or faulty
  pub unsent-sent : (F : ℕ) {b : Bool} {i : ℕ} → b ≡ has (bit_or (get s i) F) c.from → i ≡ voted n c.side + 2 * (c.kind - 1) → not b ≡ unsent n F c s
  unsent-sent F {b} {i} e p = ⊎_elim faulty correct (cases (has F c.from))
    where
      among : Bool
      among = has (get s i) c.from

      either : {f : Bool} → has F c.from ≡ f → b ≡ among || f
      either h = e ∙ has-or (get s i) F c.from ∙ ap (λ (x : Bool). among || x) h

      faulty : has F c.from ≡ true → not b ≡ unsent n F c s
      faulty h = ap not (either h ∙ or-true among) ∙ unsent-faulty n c s F k refl h

      correct : has F c.from ≡ false → not b ≡ unsent n F c s
      correct h =
          let m = either h ∙ or-false among in
          ⊎_elim (λ v. unsent-vote n c s F k refl h v m (omega arith)) (λ a. unsent-accept n c s F k refl h a m (omega arith)) (same? c.kind 1)

  pub is-heard-sent : {b : Bool} {i : ℕ} → b ≡ has (get s i) c.from → i ≡ votes c.side c.to + 2 * (c.kind - 1) → b ≡ heard n c s
  is-heard-sent e p =
      ⊎_elim (λ v. is-heard-vote n c s v e (omega arith)) (λ a. is-heard-accept n c s k a e (omega arith)) (same? c.kind 1)
