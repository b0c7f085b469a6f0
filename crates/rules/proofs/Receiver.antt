-- Laws of a receiver that is worked out again: what it adds to the state, that this grows with the state, and where nothing changes.
use Prim.Native.Nat.{ℕ, ◌<◌}
use mathlib.Core.Bool.{Bool, true}
use mathlib.Core.List.{List}
use mathlib.Core.Logic.{◌⊎◌, inl, inr, ⊎_elim}
use mathlib.Core.Path.{◌≡◌, ap, ap₂, ◌∙◌}
use native.Mathlib.Omega.{arith}
use lib.Bits.{bit_or}
use lib.ListN.{length}
use Rattle.masks.proofs.Laws.Single.{single-∈}
use Rattle.masks.specs.Mask.{◌∈◌}
use Rattle.sets.specs.Paper.{Fbqs}
use Rattle.sets.specs.Promises.{Questions, Promises}
use Rattle.rules.specs.Rules.{only, accepting, confirming, now_accepts, now_confirms}
use Rattle.rules.specs.State.{votes, accepts, accepted, confirmed, width, get, add, Below}
use Rattle.rules.proofs.Alone.{Alone, alone-trans, alone-accepts, alone-accepted, alone-confirmed}
use Rattle.rules.proofs.RuleLaws.{only-⊆, ∈-only, only-holds, only-still, only-grows, accepting-own, accepting-grows, confirming-grows}
use Rattle.rules.proofs.State.{length-add, get-add, get-add-other, add-adds, add-grows, add-still, add-there, add-cases}

module _ (Q : Questions) (v side : ℕ) where
  -- site v accepts, or confirms, from what it has heard
  abbrev pub accepts_now : List ℕ → Bool
  accepts_now s = accepting Q v (get s (votes side v)) (get s (accepts side v))

  abbrev pub confirms_now : List ℕ → Bool
  confirms_now s = confirming Q v (get s (accepts side v))

module _ (Q : Questions) (n v side : ℕ) (s : List ℕ) where
  pub now_accepts-alone : Alone n v side s (now_accepts Q n v side s)
  unfolding now_accepts
  now_accepts-alone =
      let b = accepts_now Q v side s in
      alone-trans (alone-accepted n v side (only b v) s (only-⊆ b v)) (alone-accepts n v side (only b v) (add (accepted n side) (only b v) s))

  pub now_confirms-alone : Alone n v side s (now_confirms Q n v side s)
  unfolding now_confirms
  now_confirms-alone = let b = confirms_now Q v side s in alone-confirmed n v side (only b v) s (only-⊆ b v)

  -- the places that they leave alone
  pub now_accepts-else : {i : ℕ} → (i ≡ accepts side v → ⊥) → (i ≡ accepted n side → ⊥) → get (now_accepts Q n v side s) i ≡ get s i
  unfolding now_accepts
  now_accepts-else p q =
      let a = only (accepts_now Q v side s) v in
      get-add-other (accepts side v) a (add (accepted n side) a s) p ∙ get-add-other (accepted n side) a s q

  pub now_confirms-else : {i : ℕ} → (i ≡ confirmed n side → ⊥) → get (now_confirms Q n v side s) i ≡ get s i
  unfolding now_confirms
  now_confirms-else p = get-add-other (confirmed n side) (only (confirms_now Q v side s) v) s p

  -- who is at a place was there, or is v by the rule
  pub now_accepts-cases : (i : ℕ) {u : ℕ} → u ∈ get (now_accepts Q n v side s) i → (u ∈ get s i) ⊎ ((accepts_now Q v side s ≡ true) × (u ≡ v))
  unfolding now_accepts
  now_accepts-cases i {u} h =
      let b = accepts_now Q v side s in
      let new : u ∈ only b v → (b ≡ true) × (u ≡ v) = λ k. (only-holds b v k, single-∈ v ((only-⊆ b v).each u k)) in
      ⊎_elim (λ x. ⊎_elim inl (λ y. inr (new y.1)) (add-cases (accepted n side) (only b v) s x)) (λ x. inr (new x.1))
      (add-cases (accepts side v) (only b v) (add (accepted n side) (only b v) s) h)

  pub now_confirms-cases : (i : ℕ) {u : ℕ} → u ∈ get (now_confirms Q n v side s) i → (u ∈ get s i) ⊎ ((confirms_now Q v side s ≡ true) × (u ≡ v))
  unfolding now_confirms
  now_confirms-cases i {u} h =
      let b = confirms_now Q v side s in
      ⊎_elim inl (λ x. inr (only-holds b v x.1, single-∈ v ((only-⊆ b v).each u x.1))) (add-cases (confirmed n side) (only b v) s h)

  -- nothing changes where what the rule says holds already
  pub now_accepts-still : (accepts_now Q v side s ≡ true → v ∈ get s (accepted n side)) → (accepts_now Q v side s ≡ true → v ∈ get s (accepts side v)) →
      now_accepts Q n v side s ≡ s
  unfolding now_accepts
  now_accepts-still f g =
      let b = accepts_now Q v side s in
      ap (add (accepts side v) (only b v)) (add-still (accepted n side) (only b v) s (only-still b v f))
      ∙ add-still (accepts side v) (only b v) s (only-still b v g)

  pub now_confirms-still : (confirms_now Q v side s ≡ true → v ∈ get s (confirmed n side)) → now_confirms Q n v side s ≡ s
  unfolding now_confirms
  now_confirms-still f = let b = confirms_now Q v side s in add-still (confirmed n side) (only b v) s (only-still b v f)

  -- where the rule says so, v is at the places
  module _ (hv : v < n) (hs : side < 2) (long : length s ≡ width n) where
    pub now_accepts-accepted : accepts_now Q v side s ≡ true → v ∈ get (now_accepts Q n v side s) (accepted n side)
    unfolding now_accepts
    now_accepts-accepted e =
        let a = only (accepts_now Q v side s) v in
        ((add-adds (accepts side v) a (add (accepted n side) a s)).each (accepted n side)).each v ((add-there (accepted n side) a s (omega arith)).each v (∈-only v e))

    pub now_accepts-accepts : accepts_now Q v side s ≡ true → v ∈ get (now_accepts Q n v side s) (accepts side v)
    unfolding now_accepts
    now_accepts-accepts e =
        let a = only (accepts_now Q v side s) v in
        (add-there (accepts side v) a (add (accepted n side) a s) (omega (arith, length-add (accepted n side) a s))).each v (∈-only v e)

    -- the rule says the same once the own accept is heard
    pub accepts_now-after : accepts_now Q v side (now_accepts Q n v side s) ≡ accepts_now Q v side s
    unfolding now_accepts
    accepts_now-after =
        let b = accepts_now Q v side s in
        let a = only b v in
        let t = add (accepted n side) a s in
        let heard_accepts : get (add (accepts side v) a t) (accepts side v) ≡ bit_or (get s (accepts side v)) a =
        get-add (accepts side v) a t (omega (arith, length-add (accepted n side) a s))
        ∙ ap (λ (m : ℕ). bit_or m a) (get-add-other (accepted n side) a s (λ e. omega arith)) in
        let heard_votes : get (add (accepts side v) a t) (votes side v) ≡ get s (votes side v) = get-add-other (accepts side v) a t (λ e. omega arith)
        ∙ get-add-other (accepted n side) a s (λ e. omega arith) in
        ap₂ (accepting Q v) heard_votes heard_accepts ∙ accepting-own Q v (get s (votes side v)) (get s (accepts side v)) (only-⊆ b v)

    pub now_confirms-confirmed : confirms_now Q v side s ≡ true → v ∈ get (now_confirms Q n v side s) (confirmed n side)
    unfolding now_confirms
    now_confirms-confirmed e = (add-there (confirmed n side) (only (confirms_now Q v side s) v) s (omega arith)).each v (∈-only v e)

module _ {S : ℕ → Fbqs} {Q : Questions} (P : Promises S Q) (n v side : ℕ) {s t : List ℕ} (b : Below s t) where
  pub accepts_now-grows : accepts_now Q v side s ≡ true → accepts_now Q v side t ≡ true
  accepts_now-grows = accepting-grows P v (b.each (votes side v)) (b.each (accepts side v))

  pub confirms_now-grows : confirms_now Q v side s ≡ true → confirms_now Q v side t ≡ true
  confirms_now-grows = confirming-grows P v (b.each (accepts side v))

  pub now_accepts-grows : Below (now_accepts Q n v side s) (now_accepts Q n v side t)
  unfolding now_accepts
  now_accepts-grows =
      let p = only-grows (accepts_now Q v side s) (accepts_now Q v side t) v accepts_now-grows in
      add-grows (accepts side v) p (add-grows (accepted n side) p b)

  pub now_confirms-grows : Below (now_confirms Q n v side s) (now_confirms Q n v side t)
  unfolding now_confirms
  now_confirms-grows = add-grows (confirmed n side) (only-grows (confirms_now Q v side s) (confirms_now Q v side t) v confirms_now-grows) b
