-- Laws of the state after a taken call: only the receiver changes, and whatever is new comes from the call or from the rules.
use Prim.Native.Nat.{ℕ, ◌<◌}
use mathlib.Core.Bool.{true}
use mathlib.Core.List.{List}
use mathlib.Core.Logic.{◌⊎◌, inl, inr, ⊎_elim}
use mathlib.Core.Path.{◌≡◌, sym, ap, ap₂, ◌∙◌, subst}
use native.Mathlib.Omega.{arith}
use lib.ListN.{length}
use Rattle.ground.proofs.Numbers.{same?}
use Rattle.masks.proofs.Laws.Single.{∈-eq}
use Rattle.masks.specs.Mask.{◌∈◌}
use Rattle.sets.specs.Paper.{Fbqs}
use Rattle.sets.specs.Promises.{Questions, Promises}
use Rattle.rules.specs.Rules.{accepting, confirming, hears, now_accepts, taken}
use Rattle.rules.specs.Sound.{Sound}
use Rattle.rules.specs.State.{votes, accepts, voted, accepted, confirmed, width, get, Below}
use Rattle.rules.proofs.Alone.{Alone, alone-trans}
use Rattle.rules.proofs.Answer.{Takes}
use Rattle.rules.proofs.Heard.{hears-alone, hears-grows, hears-cases, hears-kept, says-below, says-voted, says-votes, says-accepts, proposal-voted}
use Rattle.rules.proofs.Receiver.{accepts_now, confirms_now, accepts_now-after, now_accepts-grows, now_confirms-grows}
use Rattle.rules.proofs.Receiver.{now_accepts-alone, now_confirms-alone, now_accepts-else, now_confirms-else, now_accepts-cases, now_confirms-cases, now_accepts-accepted, now_accepts-accepts, now_confirms-confirmed}
use Rattle.votes.specs.Call.{Call}

-- from hearing on, and from the state before, only the receiver changes
module _ (Q : Questions) (n : ℕ) (c : Call) (s : List ℕ) where
  pub worked-alone : Alone n c.to c.side (hears n c s) (taken Q n c s)
  unfolding taken
  worked-alone =
      alone-trans (now_accepts-alone Q n c.to c.side (hears n c s))
      (now_confirms-alone Q n c.to c.side (now_accepts Q n c.to c.side (hears n c s)))

  pub taken-alone : Alone n c.to c.side s (taken Q n c s)
  taken-alone = alone-trans (hears-alone n c s) worked-alone

  -- a taken call only adds
  pub taken-adds : Below s (taken Q n c s)
  taken-adds = taken-alone.adds

-- the state after a taken call grows with the state before it
pub taken_mono : {Σ : ℕ → Fbqs} {Q : Questions} → Promises Σ Q → (n : ℕ) (c : Call) {s t : List ℕ} → Below s t → Below (taken Q n c s) (taken Q n c t)
unfolding taken
taken_mono P n c {s} b = now_confirms-grows P n c.to c.side (now_accepts-grows P n c.to c.side (hears-grows n c s b))

module _ {Q : Questions} {n F : ℕ} {c : Call} {s : List ℕ} (S : Sound Q n F s) (K : Takes n F c s) where
  -- the receiver and the side; the state after hearing, then after accepting, then after confirming
  abbrev v : ℕ
  v = c.to

  abbrev side : ℕ
  side = c.side

  abbrev s₁ : List ℕ
  s₁ = hears n c s

  abbrev s₂ : List ℕ
  s₂ = now_accepts Q n v side s₁

  hv : v < n
  hv = K.range.to_in

  hs : side < 2
  hs = K.range.side-in

  long₁ : length s₁ ≡ width n
  long₁ = sym (hears-alone n c s).adds.long ∙ S.long

  long₂ : length s₂ ≡ width n
  long₂ = sym (now_accepts-alone Q n v side s₁).adds.long ∙ long₁

  -- what accepting and confirming leave alone
  pub votes-kept : {τ w : ℕ} → τ < 2 → w < n → get (taken Q n c s) (votes τ w) ≡ get (hears n c s) (votes τ w)
  unfolding taken
  votes-kept ht hw = now_confirms-else Q n v side s₂ (λ e. omega arith) ∙ now_accepts-else Q n v side s₁ (λ e. omega arith) (λ e. omega arith)

  pub voted-kept : {τ : ℕ} → τ < 2 → get (taken Q n c s) (voted n τ) ≡ get (hears n c s) (voted n τ)
  unfolding taken
  voted-kept ht = now_confirms-else Q n v side s₂ (λ e. omega arith) ∙ now_accepts-else Q n v side s₁ (λ e. omega arith) (λ e. omega arith)

  accepts-kept : {τ w : ℕ} → τ < 2 → w < n → get (taken Q n c s) (accepts τ w) ≡ get s₂ (accepts τ w)
  unfolding taken
  accepts-kept ht hw = now_confirms-else Q n v side s₂ (λ e. omega arith)

  -- the rule for accepting says the same before and after
  pub accepts_now-kept : accepts_now Q c.to c.side (taken Q n c s) ≡ accepts_now Q c.to c.side (hears n c s)
  accepts_now-kept =
      ap₂ (accepting Q v) (votes-kept hs hv ∙ sym (now_accepts-else Q n v side s₁ (λ e. omega arith) (λ e. omega arith))) (accepts-kept hs hv)
      ∙ accepts_now-after Q n v side s₁ hv hs long₁

  -- who is at a place of the state is a site
  pub taken-below : (i u : ℕ) → u ∈ get (taken Q n c s) i → u < n
  unfolding taken
  taken-below i u h =
      ⊎_elim (λ x. ⊎_elim (λ y. ⊎_elim (S.below i u) (says-below K.range) (hears-cases n c s i y)) (λ y. omega (arith, y.1))
      (now_accepts-cases Q n v side s₁ i x))
      (λ x. omega (arith, x.1)) (now_confirms-cases Q n v side s₂ i h)

  -- only a proposal makes a vote, and only the receiver's own
  pub taken-voted : {τ u : ℕ} → τ < 2 → u ∈ get (taken Q n c s) (voted n τ) → (u ∈ get s (voted n τ)) ⊎ ((c.kind ≡ 0) × (τ ≡ c.side) × (u ≡ c.to))
  taken-voted {τ} ht h = ⊎_elim inl (λ x. inr (says-voted K.range ht x)) (hears-cases n c s (voted n τ) (∈-eq (voted-kept ht) h))

  -- a site hears a vote from itself, or from the sender of the call
  pub taken-votes : {τ w u : ℕ} → τ < 2 → w < n → u ∈ get (taken Q n c s) (votes τ w) →
      (u ∈ get s (votes τ w)) ⊎ (u ≡ w) ⊎ ((c.kind ≡ 1) × (w ≡ c.to) × (u ≡ c.from))
  taken-votes {τ} {w} {u} ht hw h =
      ⊎_elim inl (λ x. let y = says-votes K.range ht hw x in inr (⊎_elim (λ z. inl (z.1 ∙ sym y.0)) (λ z. inr (z.0, y.0, z.1)) y.1))
      (hears-cases n c s (votes τ w) (∈-eq (votes-kept ht hw) h))

  -- so an accept
  pub taken-accepts : {τ w u : ℕ} → τ < 2 → w < n → u ∈ get (taken Q n c s) (accepts τ w) →
      (u ∈ get s (accepts τ w)) ⊎ (u ≡ w) ⊎ ((c.kind ≡ 2) × (w ≡ c.to) × (u ≡ c.from))
  taken-accepts {τ} {w} {u} ht hw h =
      let h₂ : u ∈ get s₂ (accepts τ w) = ∈-eq (accepts-kept ht hw) h in
      ⊎_elim (λ e. ⊎_elim heard (λ x. inr (inl (x.1 ∙ sym e))) (now_accepts-cases Q n v side s₁ (accepts τ w) h₂))
      (λ ne. heard (∈-eq (now_accepts-else Q n v side s₁ (λ e. ne (omega arith)) (λ e. omega arith)) h₂)) (same? w v)
    where
      heard : u ∈ get s₁ (accepts τ w) → (u ∈ get s (accepts τ w)) ⊎ (u ≡ w) ⊎ ((c.kind ≡ 2) × (w ≡ c.to) × (u ≡ c.from))
      heard k = ⊎_elim inl (λ x. let y = says-accepts K.range ht hw x in inr (inr (y.1, y.0, y.2))) (hears-cases n c s (accepts τ w) k)

  -- at the receiver's place and side: heard, or its own by the rule
  pub accepts-cases : {u : ℕ} → u ∈ get (taken Q n c s) (accepts c.side c.to) →
      (u ∈ get (hears n c s) (accepts c.side c.to)) ⊎ ((accepts_now Q c.to c.side (hears n c s) ≡ true) × (u ≡ c.to))
  accepts-cases h = now_accepts-cases Q n v side s₁ (accepts side v) (∈-eq (accepts-kept hs hv) h)

  -- who has accepted or confirmed had before, or is the receiver by the rule
  pub taken-accepted : {τ u : ℕ} → τ < 2 → u ∈ get (taken Q n c s) (accepted n τ) →
      (u ∈ get s (accepted n τ)) ⊎ ((accepts_now Q c.to c.side (hears n c s) ≡ true) × (τ ≡ c.side) × (u ≡ c.to))
  unfolding taken
  taken-accepted {τ} {u} ht h =
      let h₂ : u ∈ get s₂ (accepted n τ) = ∈-eq (now_confirms-else Q n v side s₂ (λ e. omega arith)) h in
      let old : u ∈ get s₁ (accepted n τ) → u ∈ get s (accepted n τ) = ∈-eq (hears-kept K.range s (accepted n τ) (omega arith)) in
      ⊎_elim (λ e. ⊎_elim (λ x. inl (old x)) (λ x. inr (x.0, e, x.1)) (now_accepts-cases Q n v side s₁ (accepted n τ) h₂))
      (λ ne. inl (old (∈-eq (now_accepts-else Q n v side s₁ (λ e. omega arith) (λ e. ne (omega arith))) h₂))) (same? τ side)

  pub confirmed-cases : {τ u : ℕ} → τ < 2 → u ∈ get (taken Q n c s) (confirmed n τ) →
      (u ∈ get s (confirmed n τ)) ⊎ ((confirms_now Q c.to c.side (taken Q n c s) ≡ true) × (τ ≡ c.side) × (u ≡ c.to))
  unfolding taken
  confirmed-cases {τ} {u} ht h =
      let old : u ∈ get s₂ (confirmed n τ) → u ∈ get s (confirmed n τ) =
      λ k. ∈-eq (now_accepts-else Q n v side s₁ (λ e. omega arith) (λ e. omega arith) ∙ hears-kept K.range s (confirmed n τ) (omega arith)) k in
      ⊎_elim (λ e. ⊎_elim (λ x. inl (old x)) (λ x. inr (ap (confirming Q v) (accepts-kept hs hv) ∙ x.0, e, x.1))
      (now_confirms-cases Q n v side s₂ (confirmed n τ) h))
      (λ ne. inl (old (∈-eq (now_confirms-else Q n v side s₂ (λ e. ne (omega arith))) h))) (same? τ side)

  -- where the rules say so, the receiver has accepted, has heard it, and has confirmed
  pub accepted-there : accepts_now Q c.to c.side (hears n c s) ≡ true → c.to ∈ get (taken Q n c s) (accepted n c.side)
  unfolding taken
  accepted-there e = ((now_confirms-alone Q n v side s₂).adds.each (accepted n side)).each v (now_accepts-accepted Q n v side s₁ hv hs long₁ e)

  pub accepts-there : accepts_now Q c.to c.side (hears n c s) ≡ true → c.to ∈ get (taken Q n c s) (accepts c.side c.to)
  unfolding taken
  accepts-there e = ((now_confirms-alone Q n v side s₂).adds.each (accepts side v)).each v (now_accepts-accepts Q n v side s₁ hv hs long₁ e)

  pub confirmed-there : confirms_now Q c.to c.side (taken Q n c s) ≡ true → c.to ∈ get (taken Q n c s) (confirmed n c.side)
  unfolding taken
  confirmed-there e = now_confirms-confirmed Q n v side s₂ hv hs long₂ (ap (confirming Q v) (sym (accepts-kept hs hv)) ∙ e)

  -- what the receiver has heard from a correct site, that site has sent
  pub heard-voted : {u : ℕ} → (u ∈ F → ⊥) → u ∈ get (hears n c s) (votes c.side c.to) → u ∈ get (taken Q n c s) (voted n c.side)
  heard-voted {u} f h =
      ⊎_elim (λ x. ((taken-adds Q n c s).each (voted n side)).each u (S.votes-sent v u side hv hs f x))
      (λ x. ⊎_elim (λ y. ((worked-alone Q n c s).adds.each (voted n side)).each u (subst (λ (w : ℕ). w ∈ get s₁ (voted n side)) (sym y.1)
      (proposal-voted K.range s S.long y.0)))
      (λ y. ((taken-adds Q n c s).each (voted n side)).each u (subst (λ (w : ℕ). w ∈ get s (voted n side)) (sym y.1)
      (K.vote-sent y.0 (subst (λ (w : ℕ). w ∈ F → ⊥) y.1 f))))
      (says-votes K.range hs hv x).1)
      (hears-cases n c s (votes side v) h)

  pub heard-accepted : {u : ℕ} → (u ∈ F → ⊥) → u ∈ get (hears n c s) (accepts c.side c.to) → u ∈ get s (accepted n c.side)
  heard-accepted {u} f h =
      ⊎_elim (λ x. S.accepts-sent v u side hv hs f x)
      (λ x. let y = says-accepts K.range hs hv x in
      subst (λ (w : ℕ). w ∈ get s (accepted n side)) (sym y.2) (K.accept-sent y.1 (subst (λ (w : ℕ). w ∈ F → ⊥) y.2 f)))
      (hears-cases n c s (accepts side v) h)
