-- Laws of runs, over any states and any calls: what follows from a handful of laws of a step. Nothing here knows of sites, sets or votes.
use mathlib.Core.Path.{◌≡◌, refl, sym, ap, subst, ◌∙◌}
use mathlib.Core.List.Memᴰ
use mathlib.Core.List.{List, [], ◌∷◌, ◌++◌, map, Memᴰ}
use mathlib.Core.Logic.{◌⊎◌, inl, inr, ⊎_elim}
use mathlib.Core.Bool.{Bool, true, false, not, cond, false≢true}
use Prim.Native.Nat.{ℕ, zero, suc, ◌≤◌, ◌<◌}
use native.Mathlib.Omega.{arith}
use lib.ListN.{length, get_or, take}
use lib.Seq.{take-suc}
use Rattle.ground.proofs.Logic.{clash}
use Rattle.votes.specs.Passes.{Run, again, pass, iter, answers_of, last, passes, run, Within}

-- Laws of a pass. One call more at the end is what a loop over the calls carries from turn to turn.
module _ {S C : Type 0} (step : C → S → S) where
  pass-append : (l m : List C) (s : S) → pass step (l ++ m) s ≡ pass step m (pass step l s)
  pass-append [] m s = refl
  pass-append (c ∷ l) m s = pass-append l m (step c s)

  answers-append : (ans : C → S → ℕ) (l m : List C) (s : S) → answers_of step ans (l ++ m) s ≡ answers_of step ans l s ++ answers_of step ans m (pass step l s)
  answers-append ans [] m s = refl
  answers-append ans (c ∷ l) m s = ap {B = List ℕ} (λ r. ans c s ∷ r) (answers-append ans l m (step c s))

  pub pass-more : (l : List C) (s : S) (i : ℕ) (d : C) → i < length l → pass step (take (suc i) l) s ≡ step (get_or l i d) (pass step (take i l) s)
  pass-more l s i d h = ap (λ (x : List C). pass step x s) (take-suc l i d h) ∙ pass-append (take i l) (get_or l i d ∷ []) s

  pub answers-more : (ans : C → S → ℕ) (l : List C) (s : S) (i : ℕ) (d : C) → i < length l
      → answers_of step ans (take (suc i) l) s ≡ answers_of step ans (take i l) s ++ ans (get_or l i d) (pass step (take i l) s) ∷ []
  answers-more ans l s i d h = ap (λ (x : List C). answers_of step ans x s) (take-suc l i d h) ∙ answers-append ans (take i l) (get_or l i d ∷ []) s

  -- a pass of which no call changes anything
  pub pass-still : (l : List C) {s : S} → ((c : C) → Memᴰ c l → step c s ≡ s) → pass step l s ≡ s
  pass-still [] f = refl
  pass-still (c ∷ l) f = ap (pass step l) (f c (Memᴰ.head refl)) ∙ pass-still l (λ d k. f d (Memᴰ.tail k))

-- The laws that make a run end and be bounded by its calls.
pub record Spends {S C : Type 0} (step : C → S → S) (same : S → S → Bool) : Type 1 where
  pub Le : S → S → Type 0
  pub le_refl : (s : S) → Le s s
  pub le_trans : (s t u : S) → Le s t → Le t u → Le s u
  pub same-eq : (s t : S) → (same s t ≡ true) → s ≡ t
  pub same_refl : (s : S) → (same s s ≡ true)
  -- the states that can arise
  pub Inv : S → Type 0
  pub up : (c : C) (s : S) → Inv s → Le s (step c s)
  pub inv-step : (c : C) (s : S) → Inv s → Inv (step c s)
  -- what a call leaves behind once it has changed something
  pub done : C → S → Bool
  pub done-up : (c : C) (s t : S) → Le s t → (done c s ≡ true) → (done c t ≡ true)
  pub done-still : (c : C) (s : S) → Inv s → (done c s ≡ true) → step c s ≡ s
  pub change-done : (c : C) (s : S) → Inv s → (step c s ≡ s) ⊎ (done c (step c s) ≡ true)

module _ {S C : Type 0} (step : C → S → S) (same : S → S → Bool) (W : Spends step same) where
  -- the calls that have left nothing behind yet
  abbrev left : List C → S → ℕ
  left [] s = zero
  left (c ∷ l) s = cond (W.done c s) (left l s) (suc (left l s))

  left_le : (l : List C) (s : S) → left l s ≤ length l
  left_le [] s = omega arith
  left_le (c ∷ l) s = go (W.done c s) (left_le l s)
    where
      go : (b : Bool) → left l s ≤ length l → cond b (left l s) (suc (left l s)) ≤ suc (length l)
      go true h = omega arith
      go false h = omega arith

  left_up : (l : List C) (s t : S) → W.Le s t → left l t ≤ left l s
  left_up [] s t h = omega arith
  left_up (c ∷ l) s t h = go (W.done c s) (W.done c t) (W.done-up c s t h) (left_up l s t h)
    where
      go : (a b : Bool) → ((a ≡ true) → (b ≡ true)) → left l t ≤ left l s → cond b (left l t) (suc (left l t)) ≤ cond a (left l s) (suc (left l s))
      go true true f k = k
      go true false f k = absurd (false≢true (f refl))
      go false true f k = omega arith
      go false false f k = omega arith

  left_lt : (l : List C) (s t : S) → W.Le s t → (c : C) → Memᴰ c l → (not (W.done c s) ≡ true) → (W.done c t ≡ true) → left l t < left l s
  left_lt [] s t h c m n d = absurd (Memᴰ.not-nil m)
  left_lt (x ∷ l) s t h c m n d = ⊎_elim here (λ m'. there (left_lt l s t h c m' n d)) (Memᴰ.cases_cons m)
    where
      go : (a b : Bool) → (not a ≡ true) → (b ≡ true) → left l t ≤ left l s → cond b (left l t) (suc (left l t)) < cond a (left l s) (suc (left l s))
      go true b p q k = absurd (false≢true p)
      go false true p q k = omega arith
      go false false p q k = absurd (false≢true q)

      here : c ≡ x → left (x ∷ l) t < left (x ∷ l) s
      here e = go (W.done x s) (W.done x t) (subst (λ (y : C). (not (W.done y s) ≡ true)) e n) (subst (λ (y : C). (W.done y t ≡ true)) e d) (left_up l s t h)

      go₂ : (a b : Bool) → ((a ≡ true) → (b ≡ true)) → left l t < left l s → cond b (left l t) (suc (left l t)) < cond a (left l s) (suc (left l s))
      go₂ true true f k = k
      go₂ true false f k = absurd (false≢true (f refl))
      go₂ false true f k = omega arith
      go₂ false false f k = omega arith

      there : left l t < left l s → left (x ∷ l) t < left (x ∷ l) s
      there k = go₂ (W.done x s) (W.done x t) (W.done-up x s t h) k

  pub pass_up : (l : List C) (s : S) → W.Inv s → W.Le s (pass step l s)
  pass_up [] s i = W.le_refl s
  pass_up (c ∷ l) s i = W.le_trans s (step c s) (pass step l (step c s)) (W.up c s i) (pass_up l (step c s) (W.inv-step c s i))

  pub pass-inv : (l : List C) (s : S) → W.Inv s → W.Inv (pass step l s)
  pass-inv [] s i = i
  pass-inv (c ∷ l) s i = pass-inv l (step c s) (W.inv-step c s i)

  -- a pass changes nothing, or spends a call
  abbrev Spent : List C → S → Type 0
  Spent l s = (c : C) × Memᴰ c l × (not (W.done c s) ≡ true) × (W.done c (pass step l s) ≡ true)

  change : (c : C) (s : S) → W.Inv s → (step c s ≡ s) ⊎ ((not (W.done c s) ≡ true) × (W.done c (step c s) ≡ true))
  change c s i = ⊎_elim inl (λ d. go (W.done c s) refl d) (W.change-done c s i)
    where
      go : (b : Bool) → W.done c s ≡ b → (W.done c (step c s) ≡ true) → (step c s ≡ s) ⊎ ((not (W.done c s) ≡ true) × (W.done c (step c s) ≡ true))
      go true e d = inl (W.done-still c s i e)
      go false e d = inr (ap not e, d)

  pass-spends : (l : List C) (s : S) → W.Inv s → (pass step l s ≡ s) ⊎ Spent l s
  pass-spends [] s i = inl refl
  pass-spends (c ∷ l) s i = ⊎_elim (λ e. still e (pass-spends l s i)) moved (change c s i)
    where
      still : step c s ≡ s → (pass step l s ≡ s) ⊎ Spent l s → (pass step l (step c s) ≡ s) ⊎ Spent (c ∷ l) s
      still e (inl p) = inl (ap (pass step l) e ∙ p)
      still e (inr x) = inr (x.0, Memᴰ.tail x.1, x.2, subst (λ (u : S). (W.done x.0 (pass step l u) ≡ true)) (sym e) x.3)

      moved : (not (W.done c s) ≡ true) × (W.done c (step c s) ≡ true) → (pass step l (step c s) ≡ s) ⊎ Spent (c ∷ l) s
      moved x = inr (c, Memᴰ.head refl, x.0, W.done-up c (step c s) (pass step l (step c s)) (pass_up l (step c s) (W.inv-step c s i)) x.1)

  -- What is true of what a run answers, from the state s on.
  pub record Ends (ans : C → S → ℕ) (l : List C) (s : S) (r : Run S) : Type 0 where
    pub fixed : pass step l r.state ≡ r.state
    pub bound : r.passes ≤ suc (left l s)
    pub last-answers : r.answers ≡ answers_of step ans l r.state
    pub inv : W.Inv r.state
    -- the passes are those of the definition: so many, the state after all but the last, and each but the last changed something
    pub changing : ℕ
    pub passes-is : r.passes ≡ suc changing
    pub state-is : r.state ≡ iter step changing l s
    pub each-changed : (j : ℕ) → j < changing → iter step (suc j) l s ≡ iter step j l s → ⊥

  module _ (ans : C → S → ℕ) where
    ends_now : (l : List C) (s : S) → W.Inv s → pass step l s ≡ s → Ends ans l s (last step ans l s)
    ends_now l s i e = record { fixed = e; bound = omega arith; last-answers = refl; inv = i; changing = zero; passes-is = refl; state-is = refl; each-changed = λ j h. absurd (omega arith) }

    ends_more : (l : List C) (s : S) (r : Run S) → left l (pass step l s) < left l s → (pass step l s ≡ s → ⊥) → Ends ans l (pass step l s) r → Ends ans l s (again r)
    ends_more l s r h n E = record {
      fixed = E.fixed;
      bound = omega (arith, E.bound);
      last-answers = E.last-answers;
      inv = E.inv;
      changing = suc E.changing;
      passes-is = ap suc E.passes-is;
      state-is = E.state-is;
      each-changed = elim [ zero ↦ λ h'. n | suc j ↦ λ h'. E.each-changed j (omega (arith, h')) ];
    }

    passes-end : (f : ℕ) (l : List C) (s : S) → left l s ≤ f → W.Inv s → Ends ans l s (passes step ans same (suc f) l s)
    unfolding passes
    passes-end zero l s h i = go (same s (pass step l s)) refl
      where
        go : (b : Bool) → same s (pass step l s) ≡ b → Ends ans l s (cond b (last step ans l s) (again (passes step ans same zero l (pass step l s))))
        go true e = ends_now l s i (sym (W.same-eq s (pass step l s) e))
        go false e = absurd (⊎_elim (λ p. clash (subst (λ (u : S). same s u ≡ true) (sym p) (W.same_refl s)) e) (λ x. omega (arith, left_lt l s (pass step l s) (pass_up l s i) x.0 x.1 x.2 x.3)) (pass-spends l s i))
    passes-end (suc f) l s h i = go (λ k. passes-end f l (pass step l s) k (pass-inv l s i)) (same s (pass step l s)) refl
      where
        go : (left l (pass step l s) ≤ f → Ends ans l (pass step l s) (passes step ans same (suc f) l (pass step l s))) → (b : Bool) → same s (pass step l s) ≡ b →
            Ends ans l s (cond b (last step ans l s) (again (passes step ans same (suc f) l (pass step l s))))
        go ih true e = ends_now l s i (sym (W.same-eq s (pass step l s) e))
        go ih false e = ⊎_elim (λ p. absurd (changed p)) spent (pass-spends l s i)
          where
            changed : pass step l s ≡ s → ⊥
            changed p = clash (subst (λ (u : S). same s u ≡ true) (sym p) (W.same_refl s)) e

            spent : Spent l s → Ends ans l s (again (passes step ans same (suc f) l (pass step l s)))
            spent x = let k : left l (pass step l s) < left l s = left_lt l s (pass step l s) (pass_up l s i) x.0 x.1 x.2 x.3 in ends_more l s (passes step ans same (suc f) l (pass step l s)) k changed (ih (omega arith))

    -- The run ends on a pass that changes nothing, with at most one pass more than calls.
    pub run_ends : (fresh : S) → W.Inv fresh → (l : List C) → Ends ans l fresh (run step ans same fresh l)
    unfolding run
    run_ends fresh i l = passes-end (length l) l fresh (left_le l fresh) i

    pub run-bound : (fresh : S) → W.Inv fresh → (l : List C) → (run step ans same fresh l).passes ≤ suc (length l)
    run-bound fresh i l = omega (arith, (run_ends fresh i l).bound, left_le l fresh)

-- What makes the end of a run the same for every order: on the states P that calls of l can make, each call of l keeps the order.
pub record Rises {S C : Type 0} (step : C → S → S) (Le : S → S → Type 0) (l : List C) (fresh : S) : Type 1 where
  pub P : S → Type 0
  pub at-fresh : P fresh
  pub at-step : (c : C) → Memᴰ c l → (s : S) → P s → P (step c s)
  pub mono : (c : C) → Memᴰ c l → (s t : S) → P s → P t → Le s t → Le (step c s) (step c t)

-- reading a list of answers
get_or-mapped : {C : Type 0} (f : C → ℕ) (l : List C) (i : ℕ) (d : C) → i < length l → get_or (map f l) i 0 ≡ f (get_or l i d)
get_or-mapped f [] i d h = absurd (omega arith)
get_or-mapped f (x ∷ l) zero d h = refl
get_or-mapped f (x ∷ l) (suc i) d h = get_or-mapped f l i d (omega arith)

module _ {S C : Type 0} (step : C → S → S) (same : S → S → Bool) (W : Spends step same)
    (anti : (s t : S) → W.Inv s → W.Inv t → W.Le s t → W.Le t s → s ≡ t) (fresh : S) (least : (s : S) → W.Inv s → W.Le fresh s) (inv : W.Inv fresh) where
  -- a state that a pass leaves alone, each of its calls leaves alone
  pub fixed-each : (l : List C) (s : S) → W.Inv s → pass step l s ≡ s → (c : C) → Memᴰ c l → step c s ≡ s
  fixed-each [] s i e c m = absurd (Memᴰ.not-nil m)
  fixed-each (x ∷ l) s i e c m =
      let first : step x s ≡ s = anti (step x s) s (W.inv-step x s i) i (subst (λ (u : S). W.Le (step x s) u) e (pass_up step same W l (step x s) (W.inv-step x s i))) (W.up x s i) in
      ⊎_elim (λ p. ap (λ (y : C). step y s) p ∙ first) (λ m'. fixed-each l s i (ap (pass step l) (sym first) ∙ e) c m') (Memᴰ.cases_cons m)

  fixed-answers : (ans : C → S → ℕ) (l : List C) (s : S) → ((c : C) → Memᴰ c l → step c s ≡ s) → answers_of step ans l s ≡ map (λ (c : C). ans c s) l
  fixed-answers ans [] s h = refl
  fixed-answers ans (x ∷ l) s h = ap {B = List ℕ} (λ r. ans x s ∷ r) (ap (answers_of step ans l) (h x (Memᴰ.head refl)) ∙ fixed-answers ans l s (λ c m. h c (Memᴰ.tail m)))

  pass-keeps : (P : S → Type 0) (l : List C) → ((c : C) → Memᴰ c l → (s : S) → P s → P (step c s)) → (s : S) → P s → P (pass step l s)
  pass-keeps P [] h s p = p
  pass-keeps P (x ∷ l) h s p = pass-keeps P l (λ c m. h c (Memᴰ.tail m)) (step x s) (h x (Memᴰ.head refl) s p)

  iter-keeps : (P : S → Type 0) (l : List C) → ((c : C) → Memᴰ c l → (s : S) → P s → P (step c s)) → (k : ℕ) (s : S) → P s → P (iter step k l s)
  iter-keeps P l h zero s p = p
  iter-keeps P l h (suc k) s p = iter-keeps P l h k (pass step l s) (pass-keeps P l h s p)

  -- what every step of the list keeps, the end of its run has
  pub run-keeps : (ans : C → S → ℕ) (l : List C) (P : S → Type 0) → ((c : C) → Memᴰ c l → (s : S) → P s → P (step c s)) → P fresh → P (run step ans same fresh l).state
  run-keeps ans l P h p = let E = run_ends step same W ans fresh inv l in subst P (sym E.state-is) (iter-keeps P l h E.changing fresh p)

  -- Fewer calls, in whichever order and with whichever repeats, end lower.
  pub run-below : (ans : C → S → ℕ) (l l' : List C) → Rises step W.Le l fresh → Within l' l → W.Le (run step ans same fresh l').state (run step ans same fresh l).state
  run-below ans l l' R w = (run-keeps ans l' Q step_keeps (R.at-fresh, least X E.inv)).1
    where
      X : S
      X = (run step ans same fresh l).state

      E : Ends step same W ans l fresh (run step ans same fresh l)
      E = run_ends step same W ans fresh inv l

      at-X : R.P X
      at-X = run-keeps ans l R.P R.at-step R.at-fresh

      Q : S → Type 0
      Q s = R.P s × W.Le s X

      step_keeps : (c : C) → Memᴰ c l' → (s : S) → Q s → Q (step c s)
      step_keeps c m s q = (R.at-step c (w c m) s q.0, subst (λ (u : S). W.Le (step c s) u) (fixed-each l X E.inv E.fixed c (w c m)) (R.mono c (w c m) s X q.0 at-X q.1))

  rises-within : (l l' : List C) → Rises step W.Le l fresh → Within l' l → Rises step W.Le l' fresh
  rises-within l l' R w = record { P = R.P; at-fresh = R.at-fresh; at-step = λ c m. R.at-step c (w c m); mono = λ c m. R.mono c (w c m) }

  -- The same calls end in the same state.
  pub run-same-state : (ans : C → S → ℕ) (l l' : List C) → Rises step W.Le l fresh → Within l l' → Within l' l → (run step ans same fresh l).state ≡ (run step ans same fresh l').state
  run-same-state ans l l' R w w' = anti _ _ (run_ends step same W ans fresh inv l).inv (run_ends step same W ans fresh inv l').inv (run-below ans l' l (rises-within l l' R w') w) (run-below ans l l' R w')

  -- An answer of the last pass is the answer of the call in the end state.
  run-answer : (ans : C → S → ℕ) (l : List C) (i : ℕ) (d : C) → i < length l → get_or (run step ans same fresh l).answers i 0 ≡ ans (get_or l i d) (run step ans same fresh l).state
  run-answer ans l i d h =
      let E = run_ends step same W ans fresh inv l in
      ap (λ (r : List ℕ). get_or r i 0) (E.last-answers ∙ fixed-answers ans l _ (fixed-each l _ E.inv E.fixed)) ∙ get_or-mapped (λ (c : C). ans c (run step ans same fresh l).state) l i d h

  pub run-same-answers : (ans : C → S → ℕ) (l l' : List C) → Rises step W.Le l fresh → Within l l' → Within l' l
      → (d : C) (i j : ℕ) → i < length l → j < length l' → get_or l i d ≡ get_or l' j d
      → get_or (run step ans same fresh l).answers i 0 ≡ get_or (run step ans same fresh l').answers j 0
  run-same-answers ans l l' R w w' d i j hi hj e =
      run-answer ans l i d hi ∙ ap (λ (c : C). ans c (run step ans same fresh l).state) e ∙ ap (ans (get_or l' j d)) (run-same-state ans l l' R w w') ∙ sym (run-answer ans l' j d hj)
