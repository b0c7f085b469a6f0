-- `same` is exact, and with demand 3 the registers agree.
use Prim.Native.Nat.{ℕ, ◌+◌, ◌*◌, ◌/◌, ◌<◌}
use mathlib.Core.Bool.{Bool, true, false, ◌&&◌, ◌||◌}
use mathlib.Core.List.{List, Memᴰ}
use mathlib.Core.Path.{◌≡◌, ap, subst}
use native.Mathlib.Omega.{arith}
use lib.ListN.{length, get_or}
use Rattle.ground.proofs.Every.{every_of, every-at}
use Rattle.ground.proofs.Logic.{and_l, and_r, and_i, clash}
use Rattle.pass.specs.Calls.{calls, call_at}
use Rattle.run.proofs.Public.{is-checked, fit, any_order}
use Rattle.same_calls.proofs.Listed.{whole, at_mem, mem-at, has-mem, mem-has}
use Rattle.same_calls.specs.Same.{has_call, has_that, covers, same_lists, proposed}
use Rattle.same_register.specs.Theorems.{SameIsExact, NoBoth, SameRegisters}
use Rattle.sets.proofs.Groups.{few-in}
use Rattle.votes.specs.Call.{Call, call}
use Rattle.votes.specs.Passes.{Within}

module _ (a b : List ℕ) (fa : length a ≡ 4 * (length a / 4)) (fb : length b ≡ 4 * (length b / 4)) where
  covers-within : covers a b ≡ true → Within (calls a) (calls b)
  unfolding covers has_that
  covers-within e c m =
      let r = mem-at a fa m in
      subst (λ (d : Call). Memᴰ d (calls b)) r.2
      (has-mem b fb (get_or a (4 * r.0) 0) (get_or a (4 * r.0 + 1) 0) (get_or a (4 * r.0 + 2) 0) (get_or a (4 * r.0 + 3) 0)
      (every-at (length a / 4) (has_that (length b / 4) b a) e r.0 r.1))

  within-covers : Within (calls a) (calls b) → covers a b ≡ true
  unfolding covers has_that
  within-covers w =
      every_of (length a / 4) (has_that (length b / 4) b a)
      (λ i h. mem-has b fb (get_or a (4 * i) 0) (get_or a (4 * i + 1) 0) (get_or a (4 * i + 2) 0) (get_or a (4 * i + 3) 0) (w (call_at a i) (at_mem a fa i h)))

pub same-is-exact : SameIsExact
unfolding same_lists
same-is-exact a b ma mb =
    let fa = whole (length a) ma in
    let fb = whole (length b) mb in (
      λ e. (covers-within a b fa fb (and_l (covers a b) (covers b a) e), covers-within b a fb fa (and_r (covers a b) (covers b a) e)),
      λ w. and_i (within-covers a b fa fb w.0) (within-covers b a fb fa w.1),
    )

-- what the first list proposes is proposed
proposes : (a b : List ℕ) → length a ≡ 4 * (length a / 4) → (v side : ℕ) → Memᴰ (call 0 v v side) (calls a) → proposed a b v side ≡ true
unfolding proposed
proposes a b fa v side m = ap (λ (x : Bool). x || has_call (length b / 4) b 0 v v side) (mem-has a fa 0 v v side m)

pub same-registers : SameRegisters
unfolding same_lists
same-registers t F a state_a answers_a p b state_b answers_b q A B e none =
    let fa = (fit A).four in
    let fb = (fit B).four in
    (any_order t F a state_a answers_a p b state_b answers_b q A B
    (λ v h out m₀ m₁. clash (and_i (proposes a b fa v 0 m₀) (proposes a b fa v 1 m₁)) (none v (omega (arith, h, few-in t (is-checked A)))))
    (covers-within a b fa fb (and_l (covers a b) (covers b a) e), covers-within b a fb fa (and_r (covers a b) (covers b a) e))).0
