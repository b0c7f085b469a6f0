-- What the loops over the calls that wait carry, of any vote.
use Rattle.std.specs.Prelude.{ℕ, ◌*◌, ◌≤◌, ◌<◌, Bool, List, ◌≡◌, eqb, length, get_or, set}
use Rattle.pass.specs.Calls.{call_at}
use Rattle.pass.specs.Inner.{After, Passed}
use Rattle.refusals.specs.Refusal.{code}
use Rattle.votes.specs.Call.{Call}
use Rattle.votes.specs.Inner.{Works}
use Rattle.votes.specs.Vote.{Vote, step}
use Rattle.waiting.specs.Inner.{Listed}

module _ (X : Vote) where
  -- a call that waits for nothing: it answers with this byte and changes nothing, in this state and in each later one
  pub record Settled (c : Call) (a : ℕ) (s : List ℕ) : Type 0 where
    pub answers-so : {t : List ℕ} → X.Below s t → X.Sound t → code (X.answer c t) ≡ a
    pub still : {t : List ℕ} → X.Below s t → X.Sound t → step X c t ≡ t

  -- a call that was refused with 15 once
  pub record Waited (c : Call) : Type 0 where
    pub once : List ℕ
    pub refused : code (X.answer c once) ≡ 15

  -- each call of the list is settled with its answer byte, or waits: its byte is 15, and it was refused so
  pub record Told (list s out : List ℕ) : Type 0 where
    pub settled : (i : ℕ) → i < length out → (get_or out i 0 ≡ 15 → ⊥) → Settled (call_at list i) (get_or out i 0) s
    pub waited : (i : ℕ) → i < length out → get_or out i 0 ≡ 15 → Waited (call_at list i)

  -- one call again, that has waited: its byte is written, and whether it waits still
  pub record Again (c : Call) (i : ℕ) (s out : List ℕ) (changed waits : Bool) (s₁ out₁ : List ℕ) : Type 0 where
    pub works : Works X c s (X.answer c s) changed s₁
    pub byte : out₁ ≡ set out i (code (X.answer c s))
    pub waits-so : waits ≡ eqb (code (X.answer c s)) 15

  -- amid a later pass that began with the state s₀ and the bytes out₀: the first k of the calls that wait are behind it, and `left` of them wait still
  pub record Amid (list s₀ out₀ : List ℕ) (count k left : ℕ) (changed : Bool) (s out w : List ℕ) : Type 0 where
    pub at : ℕ
    pub after : After X list s₀ out₀ at changed s out
    pub kept : Listed out 0 at w 0 left
    pub rest : Listed out₀ at (length out₀) w k count
    pub few : left ≤ k
    pub within : k ≤ count

  -- what a later pass starts from: each call is settled or waits, and the first `count` of w are those that wait
  pub record Waiting (list s out : List ℕ) (count : ℕ) (w : List ℕ) : Type 0 where
    pub fits : length list ≡ 4 * length out
    pub short : length out ≤ 4096
    pub sound : X.Sound s
    pub told : Told list s out
    pub listed : Listed out 0 (length out) w 0 count
    pub few : count ≤ length w

  -- and what it leaves: a whole pass, after which `left` wait
  pub record PassedAgain (l : List Call) (s₀ : List ℕ) (count : ℕ) (changed : Bool) (left : ℕ) (s out w : List ℕ) : Type 0 where
    pub passed : Passed X l s₀ changed s out
    pub listed : Listed out 0 (length out) w 0 left
    pub fewer : left ≤ count
