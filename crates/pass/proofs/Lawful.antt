-- The vote of 01 is lawful, from the laws of its rules.
use Rattle.std.specs.Prelude.{Err}
use Prim.Native.Nat.{ℕ, zero, suc, ◌-◌, ◌<◌}
use mathlib.Core.Bool.{true}
use mathlib.Core.List.{List}
use mathlib.Core.Logic.{⊎_elim}
use mathlib.Core.Path.{◌≡◌, refl, sym, ap, subst, subst₂, ◌∙◌}
use native.Mathlib.Omega.{arith}
use lib.Dec.{eqb}
use Rattle.ground.proofs.Logic.{and_l, and_r, and_i}
use Rattle.ground.proofs.Numbers.{two}
use Rattle.masks.proofs.Laws.Subsets.{mem}
use Rattle.masks.specs.Mask.{has, ◌∈◌}
use Rattle.refusals.specs.Refusal.{code}
use Rattle.refusals.specs.declared.Refusal.{Refusal}
use Rattle.rules.proofs.Answer.{Takes, takes, takes-answer, takes-later, Refuses, refused, answered, step-refused, step-cases}
use Rattle.rules.proofs.Heard.{heard-grows, heard-proposal}
use Rattle.rules.proofs.Inner.{heard-still, still-or-heard, step-heard}
use Rattle.rules.proofs.SoundLaws.{fresh-sound}
use Rattle.rules.proofs.State.{below-refl, below-trans, below-antisym, fresh-none, fresh-least}
use Rattle.rules.proofs.Steps.{step-sound, step-adds, step-mono, taken-stays}
use Rattle.rules.proofs.Taken.{taken-voted}
use Rattle.rules.proofs.WorkWays.{table-rests, rows-rests}
use Rattle.rules.specs.Inner.{heard}
use Rattle.rules.specs.Rules.{answer, against, taken}
use Rattle.rules.specs.Sound.{Sound}
use Rattle.rules.specs.State.{voted, width, get, Below}
use Rattle.rules.specs.Theorems.{Rests}
use Rattle.rules.specs.Vote.{vote, vote_of}
use Rattle.rules.specs.Inner.{row_vote}
use Rattle.sets.specs.Groups.{Groups, Checked}
use Rattle.sets.specs.Paper.{Fbqs}
use Rattle.sets.specs.Promises.{Questions}
use Rattle.sets.specs.Inner.Rows.{Rows}
use Rattle.votes.specs.Call.{Call}
use Rattle.votes.specs.Inner.{Lawful, Fits}
use Rattle.votes.specs.Vote.{Vote, fresh, step}

-- a site that has voted for a side has not voted for the other
one_side : {Q : Questions} {n F : ℕ} {s : List ℕ} {v : ℕ} → Sound Q n F s → (side : ℕ) → side < 2 → v ∈ get s (voted n side) →
    v ∈ get s (voted n (1 - side)) → ⊥
one_side {n = n} {s = s} {v} S = two (λ σ. v ∈ get s (voted n σ) → v ∈ get s (voted n (1 - σ)) → ⊥) (λ h k. S.once v h k) (λ h k. S.once v k h)

-- a vote for the other side is never taken back
against-grows : (n : ℕ) (c : Call) {s t : List ℕ} → Below s t → against n c s ≡ true → against n c t ≡ true
unfolding against
against-grows n c {s} {t} b e =
    let x = eqb c.kind 0 in
    let y = has (get s (voted n (1 - c.side))) c.to in
    and_i (and_l x y e) ((b.each (voted n (1 - c.side))).each c.to (mem (and_r x y e))).holds

-- the refusals but 15 stay
refuses-later : {n F : ℕ} {r : Refusal} (c : Call) {s t : List ℕ} → Refuses n F c s r → (code (Err r) ≡ 15 → ⊥) → Below s t → Refuses n F c t r
refuses-later c (Refuses.range a) w b = Refuses.range a
refuses-later c (Refuses.proposal a p) w b = Refuses.proposal a p
refuses-later c (Refuses.receiver a p d) w b = Refuses.receiver a p d
refuses-later {n} c (Refuses.voted-other a p d e) w b = Refuses.voted-other a p d (against-grows n c b e)
refuses-later c (Refuses.not-sent a p d e f) w b = absurd (w refl)

module _ {Σ : ℕ → Fbqs} {Q : Questions} {n : ℕ} (R : Rests Σ Q n) (F : ℕ) where
  abbrev X : Vote
  X = vote Q n F

  -- a call that was taken is taken again
  takes-again : (c : Call) (s t : List ℕ) → Sound Q n F s → Takes n F c s → Below (step X c s) t → Sound Q n F t → Takes n F c t
  takes-again c s t S K b T =
      takes-later (below-trans (step-adds Q n F c s) b)
      (λ k. one_side T c.side K.range.side-in
      (mem (sym (heard-proposal n c t k) ∙ heard-grows n c (step X c s) b (step-heard S c K)))) K

  -- a call that does not wait answers the same, and changes nothing, in each later state
  settles : (c : Call) (s t : List ℕ) → Sound Q n F s → (code (answer n F c s) ≡ 15 → ⊥) → Below (step X c s) t → Sound Q n F t →
      (code (answer n F c t) ≡ code (answer n F c s)) × (step X c t ≡ t)
  settles c s t S w b T =
      ⊎_elim
      (λ e. (
        ap code (takes-answer n F c t (takes-again c s t S (takes n F c s e) b T) ∙ sym e),
        taken-stays Σ Q n F R c s t S e b T,
      ))
      (λ x.
      let e = refused n F c s x.1 in
      let later = refused n F c t (refuses-later c x.1 (λ z. w (ap code e ∙ z)) (below-trans (step-adds Q n F c s) b)) in
      (ap code (later ∙ sym e), step-refused n F c t Q later))
      (answered n F c s)

  -- sound, and each vote one that may be proposed
  abbrev Made : (ℕ → ℕ → Type 0) → List ℕ → Type 0
  Made May s = Sound Q n F s × ((τ w : ℕ) → τ < 2 → w ∈ get s (voted n τ) → May w τ)

  made-fresh : (May : ℕ → ℕ → Type 0) → Made May (fresh (width n))
  made-fresh May = (fresh-sound Σ Q n F R, λ τ w ht h. absurd (fresh-none n (voted n τ) h))

  made-step : (May : ℕ → ℕ → Type 0) (c : Call) → Fits May c → (s : List ℕ) → Made May s → Made May (step X c s)
  made-step May c f s p =
      ⊎_elim (λ e. subst (Made May) (sym e) p)
      (λ x. (step-sound Σ Q n F R c s p.0, λ τ w ht h. new x.0 τ w ht (subst (λ (t : List ℕ). w ∈ get t (voted n τ)) x.1 h)))
      (step-cases n F c s Q)
    where
      new : Takes n F c s → (τ w : ℕ) → τ < 2 → w ∈ get (taken Q n c s) (voted n τ) → May w τ
      new K τ w ht h = ⊎_elim (p.1 τ w ht) (λ x. subst₂ May (sym x.2) (sym x.1) (f x.0 (K.straight x.0))) (taken-voted p.0 K ht h)

  opposed : (May : ℕ → ℕ → Type 0) → X.OneSided May → (v side : ℕ) → v < n → side < 2 → (v ∈ F → ⊥) → May v side → May v (1 - side) → ⊥
  opposed May o v zero hv hs nf a b = o v hv nf a b
  opposed May o v (suc zero) hv hs nf a b = o v hv nf b a
  opposed May o v (suc (suc k)) hv hs nf a b = absurd (omega arith)

  mono : (May : ℕ → ℕ → Type 0) → X.OneSided May → (c : Call) → Fits May c → (s t : List ℕ) → Made May s → Made May t → Below s t →
      Below (step X c s) (step X c t)
  mono May o c f s t p q b =
      ⊎_elim (λ e. subst (λ (x : List ℕ). Below x (step X c t)) (sym e) (below-trans b (step-adds Q n F c t)))
      (λ x. step-mono R.promises x.0 (later x.0) b) (step-cases n F c s Q)
    where
      later : Takes n F c s → Takes n F c t
      later K =
          takes-later b
          (λ k h. opposed May o c.to c.side K.range.to_in K.range.side-in K.correct (f k (K.straight k))
          (q.1 (1 - c.side) c.to (omega arith) h)) K

  pub vote-lawful : Lawful (vote Q n F)
  vote-lawful = record {
    below-refl = below-refl;
    below-trans = λ s t u p q. below-trans p q;
    below-antisym = λ s t S T p q. below-antisym p q;
    long = λ s S. S.long;
    fresh-sound = fresh-sound Σ Q n F R;
    fresh-least = λ s S. fresh-least n S.long;
    adds = λ c s S. step-adds Q n F c s;
    keeps = step-sound Σ Q n F R;
    heard = heard n;
    heard-grows = λ c s t b h. heard-grows n c s b h;
    heard-still = λ c s S h. heard-still S c h;
    still-or-heard = λ c s S. still-or-heard S c;
    settles = settles;
    Made = Made;
    made-sound = λ May s m. m.0;
    made-fresh = made-fresh;
    made-step = made-step;
    mono = mono;
  }

-- of rows, and of a checked table
pub rows-vote : {t : List ℕ} {n : ℕ} → Rows t n → (F : ℕ) → Lawful (row_vote t n F)
rows-vote rows F = vote-lawful (rows-rests rows) F

pub table-vote : (t : Groups) → Checked t → (F : ℕ) → Lawful (vote_of t F)
table-vote t c F = vote-lawful (table-rests t c) F
