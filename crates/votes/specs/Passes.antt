-- The run of a list of calls, over any states and any calls: "passes from first to last until a pass changes nothing (that pass counts)".
use Rattle.std.specs.Prelude.{ℕ, zero, suc, Bool, cond, length}
use mathlib.Core.List.{List, [], ◌∷◌, Memᴰ}

-- "The answer is the state, the number of passes, and one byte a call with its answer in the last pass."
pub record Run (S : Type 0) : Type 0 where
  pub state : S
  pub passes : ℕ
  pub answers : List ℕ

-- one pass more in front
abbrev pub again : {S : Type 0} → Run S → Run S
again r = record { state = r.state; passes = suc r.passes; answers = r.answers }

-- `step c s` is the state after the call c; a refused call leaves it as it was
module _ {S C : Type 0} (step : C → S → S) where
  -- one pass, from the first call to the last
  abbrev pub pass : List C → S → S
  pass [] s = s
  pass (c ∷ l) s = pass l (step c s)

  -- so many passes
  abbrev pub iter : ℕ → List C → S → S
  iter zero l s = s
  iter (suc k) l s = iter k l (pass l s)

  -- `ans c s` is the answer of the call c in the state s
  module _ (ans : C → S → ℕ) where
    -- the answers of one pass
    abbrev pub answers_of : List C → S → List ℕ
    answers_of [] s = []
    answers_of (c ∷ l) s = ans c s ∷ answers_of l (step c s)

    -- the pass that changes nothing
    abbrev pub last : List C → S → Run S
    last l s = record { state = s; passes = 1; answers = answers_of l s }

    -- `same s t` says whether two states are the same
    module _ (same : S → S → Bool) where
      -- with so many passes allowed
      unfoldable pub passes : ℕ → List C → S → Run S
      passes zero l s = record { state = s; passes = zero; answers = [] }
      passes (suc f) l s =
          let r = passes f l (pass l s) in
          let one = last l s in
          let more = again r in
          cond (same s (pass l s)) one more

      -- one pass more than there are calls is enough
      unfoldable pub run : S → List C → Run S
      unfolding passes
      run fresh l = passes (suc (length l)) l fresh

-- every call of a stands in b
abbrev pub Within : {C : Type 0} → List C → List C → Type 0
Within {C} a b = (c : C) → Memᴰ c a → Memᴰ c b

-- "every list of the same calls, in whichever order and with whichever repeats"
abbrev pub SameCalls : {C : Type 0} → List C → List C → Type 0
SameCalls a b = Within a b × Within b a
