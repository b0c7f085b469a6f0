-- Where the rows of a table stand: one row changed leaves the others; the rows of zeros.
use Prim.Native.Nat.{ℕ, zero, suc, ◌+◌, ◌-◌, ◌*◌, ◌≤◌, ◌<◌}
use mathlib.Core.List.{List, ◌∷◌, ◌++◌, append_assoc}
use mathlib.Core.Logic.{⊎_elim}
use mathlib.Core.Path.{◌≡◌, refl, sym, ap, ◌∙◌}
use native.Mathlib.Omega.{arith}
use lib.Dec.{ltb}
use lib.ListN.{length, take, drop, replicate, length-append, length-drop, take-append-drop}
use lib.Seq.{length-take-le, take_at, drop_at, take-append-le, drop-append-le, drop-append-add, drop-drop}
use borrow.Author.Tests.{ltb-true, ltb-false}
use Rattle.ground.proofs.Logic.{cases}
use Rattle.ground.specs.Pieces.{part}

-- a piece that stands in the first of two lists
pub part-front : (w u : ℕ) (a b : List ℕ) → w * u + w ≤ length a → part w u (a ++ b) ≡ part w u a
part-front w u a b h =
    ap (take w) (drop-append-le (w * u) a b (omega arith)) ∙ take-append-le w (drop (w * u) a) b (rw (length-drop (w * u) a) (omega arith))

-- row w of t is x now
abbrev pub put : List ℕ → ℕ → List ℕ → List ℕ
put t w x = take (63 * w) t ++ (x ++ drop (63 * w + 63) t)

module _ (t : List ℕ) (w : ℕ) (x : List ℕ) (h : 63 * w + 63 ≤ length t) (e : length x ≡ 63) where
  front : length (take (63 * w) t) ≡ 63 * w
  front = length-take-le (63 * w) t (omega arith)

  pub length-put : length (put t w x) ≡ length t
  length-put =
      rw (length-append (take (63 * w) t) (x ++ drop (63 * w + 63) t), length-append x (drop (63 * w + 63) t), front, e, length-drop (63 * w + 63) t) (omega arith)

  pub put-here : part 63 w (put t w x) ≡ x
  put-here = ap (take 63) (drop_at (take (63 * w) t) (x ++ drop (63 * w + 63) t) (63 * w) front) ∙ take_at x (drop (63 * w + 63) t) 63 e

  before : (u : ℕ) → u < w → part 63 u (put t w x) ≡ part 63 u t
  before u l =
      let b : 63 * u + 63 ≤ length (take (63 * w) t) = omega (arith, front) in
      part-front 63 u (take (63 * w) t) (x ++ drop (63 * w + 63) t) b
      ∙ sym (part-front 63 u (take (63 * w) t) (drop (63 * w) t) b) ∙ ap (part 63 u) (take-append-drop (63 * w) t)

  behind : (u : ℕ) → w < u → part 63 u (put t w x) ≡ part 63 u t
  behind u l =
      let c : List ℕ = take (63 * w) t ++ x in
      let k : ℕ = 63 * u - (63 * w + 63) in
      let n : length c ≡ 63 * w + 63 = length-append (take (63 * w) t) x ∙ omega (arith, front) in
      let z : 63 * u ≡ length c + k = omega (arith, n) in
      let y : 63 * w + 63 + k ≡ 63 * u = omega arith in
      ap (take 63)
      (ap (λ (j : ℕ). drop j (put t w x)) z ∙ ap (drop (length c + k)) (sym (append_assoc (take (63 * w) t) x (drop (63 * w + 63) t)))
      ∙ drop-append-add c (drop (63 * w + 63) t) k ∙ drop-drop k (63 * w + 63) t ∙ ap (λ (j : ℕ). drop j t) y)

  pub put-there : (u : ℕ) → (u ≡ w → ⊥) → part 63 u (put t w x) ≡ part 63 u t
  put-there u n =
      ⊎_elim (λ a. before u (ltb-true u w a)) (λ b. let g = ltb-false u w b in behind u (omega arith)) (cases (ltb u w))

-- zeros
drop-zeros : (i m : ℕ) → drop {A = ℕ} i (replicate m 0) ≡ replicate (m - i) 0
drop-zeros zero m = let e : m ≡ m - 0 = omega arith in ap (λ (k : ℕ). replicate k 0) e
drop-zeros (suc i) zero = let e : 0 ≡ 0 - suc i = omega arith in ap (λ (k : ℕ). replicate k 0) e
drop-zeros (suc i) (suc m) = let e : m - i ≡ suc m - suc i = omega arith in drop-zeros i m ∙ ap (λ (k : ℕ). replicate k 0) e

take-zeros : (i m : ℕ) → i ≤ m → take {A = ℕ} i (replicate m 0) ≡ replicate i 0
take-zeros zero m h = refl
take-zeros (suc i) zero h = absurd (omega arith)
take-zeros (suc i) (suc m) h = ap (λ (l : List ℕ). 0 ∷ l) (take-zeros i m (omega arith))

pub part-zeros : (w u m : ℕ) → w * u + w ≤ m → part w u (replicate m 0) ≡ replicate w 0
part-zeros w u m h = ap (take w) (drop-zeros (w * u) m) ∙ take-zeros w (m - w * u) (omega arith)
