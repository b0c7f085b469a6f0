-- Laws of a block's check as it is written.
use Rattle.std.proofs.Common.{◌≡◌, ℕ, ◌+◌, ◌≤◌, true, List, [], ◌++◌, length, take, drop, sym, refl, ap, ◌∙◌, ap₂, append_assoc, append-nil, arith, length-append, take-append-drop, length-take-le, take_all, drop-drop, take-add}
use lib.Seq.{sets, drop-length}
use Rattle.block.proofs.Laws.{check_s-front, check_t-front, check_s-lt, check_t-lt, sealed-sums, sums-sealed}
use Rattle.block.specs.Block.{check_s, check_t, seal, sealed}
use Rattle.ground.proofs.Pieces.{fill-sets}
use Rattle.le.proofs.Laws.{number_digits, digits-field, field-front, field_at}
use Rattle.le.specs.Le.{Bytes, digits, field}

-- the two stores of the code
pub seal-puts : (b : List ℕ) (s t : ℕ) → length b ≡ 512 → s ≡ check_s b → t ≡ check_t b
    → sets (sets b 504 (digits 4 s)) 508 (digits 4 t) ≡ seal (take 504 b)
unfolding seal
seal-puts b s t h es et =
    let q : List ℕ = take 504 b in
    let l : length q ≡ 504 = length-take-le 504 b (omega arith) in
    let g : 504 ≤ length q = omega arith in
    let ks : s ≡ check_s q = es ∙ ap check_s (sym (take-append-drop 504 b)) ∙ check_s-front q (drop 504 b) g in
    let kt : t ≡ check_t q = et ∙ ap check_t (sym (take-append-drop 504 b)) ∙ check_t-front q (drop 504 b) g in
    let z : drop 512 b ≡ [] = rw (← h) (drop-length b) in
    ap (λ (x : List ℕ). sets (sets x 504 (digits 4 s)) 508 (digits 4 t)) (sym (take-append-drop 504 b))
    ∙ ap (λ (x : List ℕ). sets x 508 (digits 4 t)) (fill-sets q (digits 4 s) b 504 4 l refl (omega arith))
    ∙ fill-sets (q ++ digits 4 s) (digits 4 t) b 508 4 (length-append q (digits 4 s) ∙ ap (λ (x : ℕ). x + 4) l) refl (omega arith)
    ∙ ap (λ (x : List ℕ). ((q ++ digits 4 s) ++ digits 4 t) ++ x) z
    ∙ append-nil ((q ++ digits 4 s) ++ digits 4 t)
    ∙ append_assoc q (digits 4 s) (digits 4 t)
    ∙ ap (λ (x : ℕ). q ++ (digits 4 x ++ digits 4 t)) ks
    ∙ ap (λ (x : ℕ). q ++ (digits 4 (check_s q) ++ digits 4 x)) kt

pub length-seal : (b : List ℕ) → length b ≡ 504 → length (seal b) ≡ 512
unfolding seal
length-seal b h = length-append b (digits 4 (check_s b) ++ digits 4 (check_t b)) ∙ omega (arith, h)

-- what stands before the check is as it was
pub seal-field : (w : ℕ) (b : List ℕ) (at : ℕ) → at + w ≤ length b → field w (seal b) at ≡ field w b at
unfolding seal
seal-field w b at h = field-front w b _ at h

-- a check that was written is right
pub seal-sealed : (b : List ℕ) → length b ≡ 504 → sealed (seal b) ≡ true
unfolding seal
seal-sealed b l =
    let s : List ℕ = digits 4 (check_s b) in
    let t : List ℕ = digits 4 (check_t b) in
    let h : 504 ≤ length b = omega (arith, l) in
    let e : b ++ (s ++ t) ≡ (b ++ s) ++ (t ++ []) = sym (append_assoc b s t) ∙ ap (λ (x : List ℕ). (b ++ s) ++ x) (sym (append-nil t)) in
    let p : length (b ++ s) ≡ 508 = length-append b s ∙ ap (λ (x : ℕ). x + 4) l in
    sums-sealed (b ++ (s ++ t))
    (field_at 4 b s t 504 l refl ∙ number_digits 4 (check_s b) (check_s-lt b) ∙ sym (check_s-front b (s ++ t) h))
    (ap (λ (x : List ℕ). field 4 x 508) e ∙ field_at 4 (b ++ s) t [] 508 p refl ∙ number_digits 4 (check_t b) (check_t-lt b)
    ∙ sym (check_t-front b (s ++ t) h))

-- and a block whose check is right is the one that writing its check gives
pub sealed-seal : (b : List ℕ) → Bytes b → length b ≡ 512 → sealed b ≡ true → seal (take 504 b) ≡ b
unfolding seal
sealed-seal b hb len s =
    let q = sealed-sums b s in
    let l : length (take 504 b) ≡ 504 = length-take-le 504 b (rw len (omega arith)) in
    let h : 504 ≤ length (take 504 b) = rw l (omega arith) in
    let ks : check_s (take 504 b) ≡ field 4 b 504 = sym (check_s-front (take 504 b) (drop 504 b) h) ∙ ap check_s (take-append-drop 504 b) ∙ sym q.0 in
    let kt : check_t (take 504 b) ≡ field 4 b 508 = sym (check_t-front (take 504 b) (drop 504 b) h) ∙ ap check_t (take-append-drop 504 b) ∙ sym q.1 in
    ap (λ (x : List ℕ). take 504 b ++ x)
    (ap₂ ◌++◌ (ap (digits 4) ks ∙ digits-field 4 b 504 (rw len (omega arith)) hb) (ap (digits 4) kt ∙ digits-field 4 b 508 (rw len (omega arith)) hb))
    ∙ (ap (λ (x : List ℕ). take 504 b ++ (take 4 (drop 504 b) ++ take 4 x)) (sym (drop-drop 4 504 b))
    ∙ ap (λ (x : List ℕ). take 504 b ++ x) (sym (take-add 4 4 (drop 504 b)))
    ∙ sym (take-add 504 8 b)
    ∙ take_all 512 b (rw len (omega arith)))
