-- Laws of a list of calls given as bytes: how many calls it has, and call i of it.
use Prim.Native.Nat.{ℕ, zero, suc, ◌+◌, ◌*◌, ◌<◌}
use mathlib.Core.List.{List, [], ◌∷◌}
use mathlib.Core.Path.{◌≡◌, refl, sym, ap, ◌∙◌}
use native.Mathlib.Omega.{arith}
use lib.ListN.{length, get_or}
use Rattle.pass.specs.Calls.{calls, call_at}
use Rattle.votes.specs.Call.{Call}

later : (j i : ℕ) → j ≡ suc (suc (suc (suc i))) → (a b c d : ℕ) (l : List ℕ) → get_or (a ∷ b ∷ c ∷ d ∷ l) j 0 ≡ get_or l i 0
later j i e a b c d l = ap (λ (x : ℕ). get_or (a ∷ b ∷ c ∷ d ∷ l) x 0) e

pub calls_at : (l : List ℕ) (i : ℕ) (e : Call) → 4 * i + 3 < length l → get_or (calls l) i e ≡ call_at l i
calls_at [] i e h = absurd (omega arith)
calls_at (a ∷ []) i e h = absurd (omega arith)
calls_at (a ∷ (b ∷ [])) i e h = absurd (omega arith)
calls_at (a ∷ (b ∷ (c ∷ []))) i e h = absurd (omega arith)
calls_at (a ∷ (b ∷ (c ∷ (d ∷ l)))) zero e h = refl
calls_at (a ∷ (b ∷ (c ∷ (d ∷ l)))) (suc i) e h = calls_at l i e (omega arith) ∙ λ j. record {
  kind = sym (later (4 * suc i) (4 * i) (omega arith) a b c d l) j;
  from = sym (later (4 * suc i + 1) (4 * i + 1) (omega arith) a b c d l) j;
  to = sym (later (4 * suc i + 2) (4 * i + 2) (omega arith) a b c d l) j;
  side = sym (later (4 * suc i + 3) (4 * i + 3) (omega arith) a b c d l) j;
}

pub calls-length : (l : List ℕ) (k : ℕ) → length l ≡ 4 * k → length (calls l) ≡ k
calls-length [] k h = omega arith
calls-length (a ∷ []) k h = absurd (omega arith)
calls-length (a ∷ (b ∷ [])) k h = absurd (omega arith)
calls-length (a ∷ (b ∷ (c ∷ []))) k h = absurd (omega arith)
calls-length (a ∷ (b ∷ (c ∷ (d ∷ l)))) zero h = absurd (omega arith)
calls-length (a ∷ (b ∷ (c ∷ (d ∷ l)))) (suc k) h = ap suc (calls-length l k (omega arith))
