-- What a list of whole calls has, as the desk asks and as demand 3 says it.
use Prim.Native.Nat.{ℕ, zero, suc, ◌+◌, ◌*◌, ◌/◌, ◌%◌, ◌<◌}
use mathlib.Core.Bool.{Bool, true, false, ◌&&◌, ◌||◌, not}
use mathlib.Core.List.Memᴰ
use mathlib.Core.List.{List, [], ◌∷◌, Memᴰ}
use mathlib.Core.Logic.{⊎_elim}
use mathlib.Core.Path.{◌≡◌, refl, sym, ap, ◌∙◌, subst}
use native.Mathlib.Omega.{arith}
use lib.Dec.{eqb, ltb}
use lib.ListN.{length, get_or}
use borrow.Author.Tests.{eqb-true, eq-eqb, not-false}
use Rattle.ground.proofs.Logic.{and_l, and_r, and_i}
use Rattle.ground.proofs.Some.{some_of, some-ex}
use Rattle.pass.proofs.Calls.{calls_at, calls-length}
use Rattle.pass.specs.Calls.{calls, call_at}
use Rattle.run.specs.Run.{list_misshapen}
use Rattle.same_calls.specs.Same.{is_call, has_call}
use Rattle.votes.specs.Call.{Call, call}

-- the member at a place
get_or-mem : (l : List Call) (i : ℕ) (e : Call) → i < length l → Memᴰ (get_or l i e) l
get_or-mem [] i e h = absurd (omega arith)
get_or-mem (x ∷ l) zero e h = Memᴰ.head refl
get_or-mem (x ∷ l) (suc i) e h = Memᴰ.tail (get_or-mem l i e (omega arith))

mem-get_or : (l : List Call) (e : Call) {c : Call} → Memᴰ c l → (i : ℕ) × (i < length l) × (get_or l i e ≡ c)
mem-get_or [] e m = absurd (Memᴰ.not-nil m)
mem-get_or (x ∷ l) e m =
    ⊎_elim (λ p. (0, omega arith, sym p)) (λ k. let r = mem-get_or l e k in (suc r.0, omega (arith, r.1), r.2)) (Memᴰ.cases_cons m)

-- call i is this one
is-call : (l : List ℕ) (i kind from to side : ℕ) → is_call l i kind from to side ≡ true → call_at l i ≡ call kind from to side
unfolding is_call
is-call l i kind from to side e =
    let k = eqb (get_or l (4 * i) 0) kind in
    let f = eqb (get_or l (4 * i + 1) 0) from in
    let t = eqb (get_or l (4 * i + 2) 0) to in
    let s = eqb (get_or l (4 * i + 3) 0) side in
    let e₁ = and_r k (f && (t && s)) e in
    let e₂ = and_r f (t && s) e₁ in
    λ j. record {
      kind = eqb-true (get_or l (4 * i) 0) kind (and_l k (f && (t && s)) e) j;
      from = eqb-true (get_or l (4 * i + 1) 0) from (and_l f (t && s) e₁) j;
      to = eqb-true (get_or l (4 * i + 2) 0) to (and_l t s e₂) j;
      side = eqb-true (get_or l (4 * i + 3) 0) side (and_r t s e₂) j;
    }

call-is : (l : List ℕ) (i kind from to side : ℕ) → call_at l i ≡ call kind from to side → is_call l i kind from to side ≡ true
unfolding is_call
call-is l i kind from to side e =
    and_i (eq-eqb (get_or l (4 * i) 0) kind (ap (λ (c : Call). c.kind) e))
    (and_i (eq-eqb (get_or l (4 * i + 1) 0) from (ap (λ (c : Call). c.from) e))
    (and_i (eq-eqb (get_or l (4 * i + 2) 0) to (ap (λ (c : Call). c.to) e)) (eq-eqb (get_or l (4 * i + 3) 0) side (ap (λ (c : Call). c.side) e))))

-- of a list of whole calls
module _ (l : List ℕ) (four : length l ≡ 4 * (length l / 4)) where
  abbrev k : ℕ
  k = length l / 4

  nobody : Call
  nobody = call 0 0 0 0

  pub at_mem : (i : ℕ) → i < k → Memᴰ (call_at l i) (calls l)
  at_mem i h =
      subst (λ (c : Call). Memᴰ c (calls l)) (calls_at l i nobody (omega (arith, four)))
      (get_or-mem (calls l) i nobody (omega (arith, h, calls-length l k four)))

  pub mem-at : {c : Call} → Memᴰ c (calls l) → (i : ℕ) × (i < k) × (call_at l i ≡ c)
  mem-at m =
      let r = mem-get_or (calls l) nobody m in
      let h : r.0 < k = omega (arith, r.1, calls-length l k four) in
      (r.0, h, sym (calls_at l r.0 nobody (omega (arith, four, h))) ∙ r.2)

  pub has-mem : (kind from to side : ℕ) → has_call k l kind from to side ≡ true → Memᴰ (call kind from to side) (calls l)
  unfolding has_call
  has-mem kind from to side e =
      let r = some-ex k (λ i. is_call l i kind from to side) e in
      subst (λ (c : Call). Memᴰ c (calls l)) (is-call l r.0 kind from to side r.2) (at_mem r.0 r.1)

  pub mem-has : (kind from to side : ℕ) → Memᴰ (call kind from to side) (calls l) → has_call k l kind from to side ≡ true
  unfolding has_call
  mem-has kind from to side m =
      let r = mem-at m in some_of k (λ i. is_call l i kind from to side) r.1 (call-is l r.0 kind from to side r.2)

-- a length that is not refused is of whole calls
pub whole : (n : ℕ) → list_misshapen n ≡ false → n ≡ 4 * (n / 4)
unfolding list_misshapen
whole n e = four-fold n (eqb-true (n % 4) 0 (not-false (eqb (n % 4) 0) (no-left (not (eqb (n % 4) 0)) (ltb 16384 n) e)))
  where
    no-left : (x y : Bool) → x || y ≡ false → x ≡ false
    no-left true y e = e
    no-left false y e = refl

    four-fold : (n : ℕ) → n % 4 ≡ 0 → n ≡ 4 * (n / 4)
    four-fold n e = omega (arith, e)
