-- Laws of strange calls: how many they are, and that they are those that answer 11.
use Prim.Native.Nat.{ℕ, zero, suc, ◌+◌, ◌/◌, ◌≤◌}
use mathlib.Core.Bool.{Bool, true, false, cond}
use mathlib.Core.List.{List}
use mathlib.Core.Logic.{⊎_elim}
use mathlib.Core.Path.{◌≡◌, refl, sym, ap, ◌∙◌}
use native.Mathlib.Numerals.{add-one}
use native.Mathlib.Omega.{arith}
use lib.ListN.{length}
use Rattle.ground.proofs.Logic.{cases}
use Rattle.masks.specs.Mask.{has}
use Rattle.pass.specs.Calls.{call_at}
use Rattle.refusals.specs.First.{or_else, refuse}
use Rattle.refusals.specs.Refusal.{code}
use Rattle.refusals.specs.declared.Refusal.TheVariants.{Receiver, Proposal, Voted, Unsent}
use Rattle.rules.specs.Rules.{out_of_range, crooked, against, unsent, answer}
use Rattle.strange_calls.specs.Strange.{how_many, strange_calls}
use Rattle.strange_calls.specs.Theorems.{StrangeIsEleven}

-- 1 where a test holds
abbrev pub one : Bool → ℕ
one b = cond b 1 0

-- one number more
pub how-many-more : (k m : ℕ) (p : ℕ → Bool) → m ≡ how_many k p → m + cond (p k) 1 0 ≡ how_many (k + 1) p
unfolding how_many
how-many-more k m p e = ap (λ (x : ℕ). x + cond (p k) 1 0) e ∙ ap (λ (x : ℕ). how_many x p) (sym (add-one k))

-- at most all of them
pub one_at_most : (b : Bool) → cond b 1 0 ≤ 1
one_at_most true = omega arith
one_at_most false = omega arith

pub how-many-at-most : (k : ℕ) (p : ℕ → Bool) → how_many k p ≤ k
unfolding how_many
how-many-at-most zero p = omega arith
how-many-at-most (suc k) p = omega (arith, how-many-at-most k p, one_at_most (p k))

pub strange-at-most : (n : ℕ) (list : List ℕ) → strange_calls n list ≤ length list / 4
unfolding strange_calls
strange-at-most n list = how-many-at-most (length list / 4) (λ i. out_of_range n (call_at list i))

-- only a call that is out of range answers 11
others : (a b d e : Bool) → code (or_else (refuse a Proposal) (or_else (refuse b Receiver) (or_else (refuse d Voted) (refuse e Unsent)))) ≡ 11 → ⊥
others true b d e h = omega (arith, h)
others false true d e h = omega (arith, h)
others false false true e h = omega (arith, h)
others false false false true h = omega (arith, h)
others false false false false h = omega (arith, h)

pub strange-is-eleven : StrangeIsEleven
unfolding answer
strange-is-eleven n F c s = (
  λ e. ⊎_elim (λ h. h) (λ h. absurd (others (crooked c) (has F c.to) (against n c s) (unsent n F c s) (rw h at e))) (cases (out_of_range n c)),
  λ h. rw h refl,
)
