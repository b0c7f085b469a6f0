-- Laws of the ways through the code: each rule and each change of the state as the functions compute them.
use Rattle.refusals.specs.Check.{Check}
use Prim.Native.Nat.{ℕ}
use mathlib.Core.Bool.{Bool, true, false}
use mathlib.Core.List.{List}
use mathlib.Core.Path.{◌≡◌, refl, sym, ap, ap₂, ◌∙◌, subst}
use lib.Bits.{bit_or}
use Rattle.masks.proofs.Laws.AllBelow.{in_all}
use Rattle.masks.proofs.Laws.Subsets.{mem}
use Rattle.masks.specs.Mask.{has, single, minus, others, ◌∈◌}
use Rattle.sets.proofs.Groups.{lawful, table-promises}
use Rattle.sets.specs.Promises.{Questions}
use Rattle.rules.specs.Rules.{only, accepting, confirming, now_accepts, now_confirms, hears, taken}
use Rattle.rules.specs.State.{votes, accepts, voted, accepted, confirmed, get, add}
use Rattle.rules.specs.Theorems.{Rests}
use Rattle.rules.proofs.Heard.{hears-proposal, hears-vote, hears-accept}
use Rattle.rules.proofs.Receiver.{now_accepts-still, now_confirms-still}
use Rattle.rules.proofs.RuleLaws.{others-found, by-blocked, unblocked}
use Rattle.votes.specs.Call.{call, Call}
use Rattle.votes.specs.Inner.{Works}
use Rattle.rules.specs.Vote.{vote}
use Rattle.sets.proofs.Rows.{rows-promises}
use Rattle.sets.specs.Groups.{questions, Groups, sites_of, fbqs_in, Checked}
use Rattle.sets.specs.Forms.{closure}
use Rattle.sets.specs.Inner.Rows.{Rows, rules_of, row_questions}

-- what the rules rest on, of a checked table and of rows
pub table-rests : (t : Groups) → Checked t → Rests (λ v. fbqs_in t) (questions t) (sites_of t)
table-rests t c = record { promises = table-promises t c; sites = λ v l. subst (λ (x : ℕ). v ∈ x) (sym (lawful t c).all-sites) (in_all l) }

pub rows-rests : {t : List ℕ} {n : ℕ} → Rows t n → Rests (λ v. closure (rules_of t) n) (row_questions t n) n
rows-rests rows = record { promises = rows-promises rows; sites = λ v l. in_all l }

-- the rule for accepting, with the accepts of the others in o, and whether those block in d
module _ (Q : Questions) (v heard_votes heard_accepts : ℕ) {m o : ℕ} (em : m ≡ single v) (eo : o ≡ minus heard_accepts m) {d : Bool}
    (ed : d ≡ Q.blocked v o) where
  rest : o ≡ others heard_accepts v
  rest = others-found v heard_accepts em eo

  pub accepts-by-blocking : d ≡ true → true ≡ accepting Q v heard_votes heard_accepts
  accepts-by-blocking t = sym (by-blocked Q v heard_votes heard_accepts (ap (Q.blocked v) (sym rest) ∙ sym ed ∙ t))

  pub accepts-by-quorum : d ≡ false → {b : Bool} → b ≡ Q.in_quorum v (bit_or heard_votes o) → b ≡ accepting Q v heard_votes heard_accepts
  accepts-by-quorum t e =
      e ∙ ap (λ (x : ℕ). Q.in_quorum v (bit_or heard_votes x)) rest
      ∙ sym (unblocked Q v heard_votes heard_accepts (ap (Q.blocked v) (sym rest) ∙ sym ed ∙ t))

-- hearing, by the kind of the call, with what is added at the places i and j
module _ (n to side : ℕ) (s : List ℕ) where
  pub votes-way : {m i j : ℕ} {s₁ s₂ : List ℕ} → m ≡ single to → s₁ ≡ add i m s → s₂ ≡ add j m s₁ → i ≡ voted n side → j ≡ votes side to →
      s₂ ≡ hears n (call 0 to to side) s
  votes-way {m} {i} {j} {s₁} em e₁ e₂ p q =
      e₂ ∙ ap₂ (λ (x : ℕ) (t : List ℕ). add x m t) q (e₁ ∙ ap (λ (x : ℕ). add x m s) p)
      ∙ ap (λ (x : ℕ). add (votes side to) x (add (voted n side) x s)) em
      ∙ sym (hears-proposal n (call 0 to to side) s refl)

  module _ (kind from : ℕ) {s₁ : List ℕ} where
    pub proposal-way : kind ≡ 0 → s₁ ≡ hears n (call 0 to to side) s → s₁ ≡ hears n (call kind from to side) s
    proposal-way k e = e ∙ hears-proposal n (call 0 to to side) s refl ∙ sym (hears-proposal n (call kind from to side) s k)

    module _ {m : ℕ} (em : m ≡ single from) {i : ℕ} (e : s₁ ≡ add i m s) where
      pub vote-way : kind ≡ 1 → i ≡ votes side to → s₁ ≡ hears n (call kind from to side) s
      vote-way k p = e ∙ ap₂ (λ (x y : ℕ). add x y s) p em ∙ sym (hears-vote n (call kind from to side) s k)

      pub accept-way : (kind ≡ 0 → ⊥) → (kind ≡ 1 → ⊥) → i ≡ accepts side to → s₁ ≡ hears n (call kind from to side) s
      accept-way k l p = e ∙ ap₂ (λ (x y : ℕ). add x y s) p em ∙ sym (hears-accept n (call kind from to side) s k l)

-- the receiver worked out again
module _ (Q : Questions) (n v side : ℕ) (s : List ℕ) where
  -- it has accepted, or confirmed, as b is read at place i
  module _ {b : Bool} {i : ℕ} (e : b ≡ has (get s i) v) (t : b ≡ true) where
    there : {j : ℕ} → i ≡ j → v ∈ get s j
    there {j} p = mem (ap (λ (k : ℕ). has (get s k) v) (sym p) ∙ sym e ∙ t)

    pub accepted-way : (v ∈ get s (accepted n side) → v ∈ get s (accepts side v)) → i ≡ accepted n side → s ≡ now_accepts Q n v side s
    accepted-way own p = sym (now_accepts-still Q n v side s (λ z. there p) (λ z. own (there p)))

    pub confirmed-way : i ≡ confirmed n side → s ≡ now_confirms Q n v side s
    confirmed-way p = sym (now_confirms-still Q n v side s (λ z. there p))

  -- or the rule says b, as it is asked of what is read
  module _ {b : Bool} {m : ℕ} (em : m ≡ only b v) {s₁ : List ℕ} where
    pub accepts-way : {s₂ : List ℕ} {i j k l : ℕ} → b ≡ accepting Q v (get s i) (get s j) → s₁ ≡ add k m s → s₂ ≡ add l m s₁ →
        i ≡ votes side v → j ≡ accepts side v → k ≡ accepted n side → l ≡ accepts side v → s₂ ≡ now_accepts Q n v side s
    unfolding now_accepts
    accepts-way eb e₁ e₂ pi pj pk pl =
        let e : m ≡ only (accepting Q v (get s (votes side v)) (get s (accepts side v))) v =
        em ∙ ap (λ (x : Bool). only x v) (eb ∙ ap₂ (λ (x y : ℕ). accepting Q v (get s x) (get s y)) pi pj) in
        e₂ ∙ ap₂ (λ (x : ℕ) (t : List ℕ). add x m t) pl (e₁ ∙ ap (λ (x : ℕ). add x m s) pk)
        ∙ ap (λ (x : ℕ). add (accepts side v) x (add (accepted n side) x s)) e

    pub confirms-way : {i k : ℕ} → b ≡ Q.in_quorum v (get s i) → s₁ ≡ add k m s → i ≡ accepts side v → k ≡ confirmed n side →
        s₁ ≡ now_confirms Q n v side s
    unfolding now_confirms confirming
    confirms-way eb e₁ pi pk =
        e₁ ∙ ap₂ (λ (x y : ℕ). add x y s) pk (em ∙ ap (λ (x : Bool). only x v) (eb ∙ ap (λ (x : ℕ). Q.in_quorum v (get s x)) pi))

-- a taken call
pub taken-way : (Q : Questions) (n : ℕ) (c : Call) (s : List ℕ) {s₁ s₂ s₃ : List ℕ} → s₁ ≡ hears n c s → s₂ ≡ now_accepts Q n c.to c.side s₁ →
    s₃ ≡ now_confirms Q n c.to c.side s₂ → s₃ ≡ taken Q n c s
unfolding taken
taken-way Q n c s e₁ e₂ e₃ = e₃ ∙ ap (now_confirms Q n c.to c.side) (e₂ ∙ ap (now_accepts Q n c.to c.side) e₁)

-- the inner step of a call whose four numbers are equal
pub same-works : {Q : Questions} {n F kind from to side k f u d : ℕ} {s s₁ : List ℕ} {a : Check} {changed : Bool} → k ≡ kind → f ≡ from → u ≡ to →
    d ≡ side → Works (vote Q n F) (call k f u d) s a changed s₁ → Works (vote Q n F) (call kind from to side) s a changed s₁
same-works {Q} {n} {F} {s = s} {s₁} {a} {changed} p q r h w =
    subst (λ (c : Call). Works (vote Q n F) c s a changed s₁) (λ i. record { kind = p i; from = q i; to = r i; side = h i }) w
