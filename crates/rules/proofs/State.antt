-- Laws of a state: what stands at a place after something is added, and the order of states.
use Prim.Native.Nat.{ℕ, ◌≤◌, ◌<◌}
use mathlib.Core.List.{List}
use mathlib.Core.Logic.{◌⊎◌, inl, inr, ⊎_elim}
use mathlib.Core.Path.{◌≡◌, refl, sym, ap, ◌∙◌}
use native.Mathlib.Decide.{dec_lt}
use native.Mathlib.Omega.{arith}
use lib.Bits.{bit_or}
use lib.ListN.{length, set, length-set, length-replicate, get_or-replicate, get_or-eq_default}
use lib.Seq.{get_or-set_same, get_or-set_other, set-get_or, set_out, ext_get_or}
use Rattle.ground.proofs.Numbers.{same?}
use Rattle.masks.proofs.Laws.Single.{∈-eq, ∈-or}
use Rattle.masks.proofs.Laws.Subsets.{not-in-zero, ⊆-refl, ⊆-trans, ⊆-antisym, or-⊆, or-⊆-l, or-⊆-r}
use Rattle.masks.specs.Mask.{◌∈◌, ◌⊆◌}
use Rattle.rules.specs.State.{width, get, add, Below}
use Rattle.votes.specs.Vote.{fresh}

-- the order of states

pub below-refl : (s : List ℕ) → Below s s
below-refl s = record { long = refl; each = λ i. ⊆-refl (get s i) }

pub below-trans : {s t u : List ℕ} → Below s t → Below t u → Below s u
below-trans p q = record { long = p.long ∙ q.long; each = λ i. ⊆-trans (p.each i) (q.each i) }

pub below-antisym : {s t : List ℕ} → Below s t → Below t s → s ≡ t
below-antisym {s} {t} p q = ext_get_or 0 s t p.long (λ i h. ⊆-antisym (p.each i) (q.each i))

-- adding

module _ (i m : ℕ) (s : List ℕ) where
  pub length-add : length (add i m s) ≡ length s
  unfolding add
  length-add = length-set s i (bit_or (get s i) m)

  pub get-add : i < length s → get (add i m s) i ≡ bit_or (get s i) m
  unfolding add
  get-add h = get_or-set_same s i (bit_or (get s i) m) 0 h

  pub get-add-other : {j : ℕ} → (j ≡ i → ⊥) → get (add i m s) j ≡ get s j
  unfolding add
  get-add-other {j} ne = get_or-set_other s i j (bit_or (get s i) m) 0 ne

  add-beyond : length s ≤ i → add i m s ≡ s
  unfolding add
  add-beyond h = set_out s i (bit_or (get s i) m) h

  -- adding who is there already changes nothing
  pub add-still : m ⊆ get s i → add i m s ≡ s
  unfolding add
  add-still p = ap (set s i) (⊆-antisym (or-⊆ (⊆-refl (get s i)) p) (or-⊆-l (get s i) m)) ∙ set-get_or s i 0

  -- adding only adds
  pub add-adds : Below s (add i m s)
  add-adds = record {
    long = sym length-add;
    each =
        λ j. ⊎_elim (λ e. rw e (here (dec_lt i (length s)))) (λ ne. rw (get-add-other ne) (⊆-refl (get s j))) (same? j i);
  }
    where
      here : Dec (i < length s) → get s i ⊆ get (add i m s) i
      here (yes h) = rw (get-add h) (or-⊆-l (get s i) m)
      here (no h) = rw (add-beyond (omega arith)) (⊆-refl (get s i))

  -- who was added is there
  pub add-there : i < length s → m ⊆ get (add i m s) i
  add-there h = rw (get-add h) (or-⊆-r (get s i) m)

  -- who is there was there, or was added there
  pub add-cases : {j v : ℕ} → v ∈ get (add i m s) j → (v ∈ get s j) ⊎ ((j ≡ i) × (v ∈ m))
  add-cases {j} {v} h = ⊎_elim (λ e. here e (dec_lt i (length s))) (λ ne. inl (∈-eq (get-add-other ne) h)) (same? j i)
    where
      here : j ≡ i → Dec (i < length s) → (v ∈ get s j) ⊎ ((j ≡ i) × (v ∈ m))
      here e (yes l) = ⊎_elim (λ k. inl (rw e k)) (λ k. inr (e, k)) (∈-or (get s i) m (∈-eq (get-add l) (rw e at h)))
      here e (no l) = inl (rw (add-beyond (omega arith)) at h)

-- adding grows with the state and with who is added
pub add-grows : (i : ℕ) {m k : ℕ} {s t : List ℕ} → m ⊆ k → Below s t → Below (add i m s) (add i k t)
add-grows i {m} {k} {s} {t} p b = record {
  long = length-add i m s ∙ b.long ∙ sym (length-add i k t);
  each = λ j. record {
    each = λ v h. ⊎_elim (λ x. ((add-adds i k t).each j).each v ((b.each j).each v x))
        (λ x. new j v h x.0 x.1 (dec_lt i (length t))) (add-cases i m s h);
  };
}
  where
    new : (j v : ℕ) → v ∈ get (add i m s) j → j ≡ i → v ∈ m → Dec (i < length t) → v ∈ get (add i k t) j
    new j v h e x (yes l) = rw e ((add-there i k t l).each v (p.each v x))
    new j v h e x (no l) = ((add-adds i k t).each j).each v ((b.each j).each v (rw (add-beyond i m s (omega (arith, b.long))) at h))

-- the fresh state

pub fresh-length : (n : ℕ) → length (fresh (width n)) ≡ width n
unfolding fresh
fresh-length n = length-replicate (width n) 0

pub fresh-get : (n i : ℕ) → get (fresh (width n)) i ≡ 0
unfolding fresh
fresh-get n i = go (dec_lt i (width n))
  where
    go : Dec (i < width n) → get (fresh (width n)) i ≡ 0
    go (yes h) = get_or-replicate (width n) i 0 0 h
    go (no h) = get_or-eq_default (fresh (width n)) 0 (omega (arith, length-replicate {A = ℕ} (width n) 0))

pub fresh-none : (n i : ℕ) {v : ℕ} → v ∈ get (fresh (width n)) i → ⊥
fresh-none n i h = not-in-zero (∈-eq (fresh-get n i) h)

-- it is below each state of its length
pub fresh-least : (n : ℕ) {s : List ℕ} → length s ≡ width n → Below (fresh (width n)) s
fresh-least n e = record { long = fresh-length n ∙ sym e; each = λ i. record { each = λ v h. absurd (fresh-none n i h) } }
