-- Laws of little-endian numbers: what was written is read, what was read is written, and two fields side by side are one.
use Prim.Native.Nat.{ℕ, zero, suc, ◌+◌, ◌-◌, ◌*◌, ◌/◌, ◌%◌, ◌^◌, ◌≤◌, ◌<◌}
use mathlib.Core.List.{List, [], ◌∷◌, ◌++◌}
use mathlib.Core.Path.{◌≡◌, refl, sym, ap, ◌∙◌}
use native.Mathlib.Nat.{le_refl, add-sub_cancel_left, div-one, one-le-pow, mul_comm, div-div-eq-div-mul, mod-lt, pow-suc, pow-zero, zero-add, add-zero, suc-add, div-lt_iff_lt-mul}
use native.Mathlib.Numerals.{add-one}
use native.Mathlib.Omega.{arith}
use lib.Arith.{mod-mul, digits_mod, digits_div}
use lib.ListN.{length, get_or, take, drop, length-drop, set}
use lib.Seq.{take-nil, drop-nil, sets, drop_at, take_at, length-take-le, get_or-drop, drop-append-le, take-append-le, take-take}
use Rattle.le.specs.Le.{Bytes, number, digits, field}

-- one byte more: holds also past the end, where every byte is 0
field-suc : (w : ℕ) (b : List ℕ) (at : ℕ) → field (suc w) b at ≡ get_or b at 0 + 256 * field w b (suc at)
unfolding field
field-suc w [] at = rw (drop-nil at, drop-nil (suc at), take-nil w) refl
field-suc w (x ∷ b) zero = refl
field-suc w (x ∷ b) (suc at) = field-suc w b at

pub field-zero : (b : List ℕ) (at : ℕ) → field 0 b at ≡ 0
unfolding field
field-zero b at = refl

-- the same at a sum, as code has it
pub field_step : (w : ℕ) (b : List ℕ) (at k : ℕ) → field (suc w) b (at + k) ≡ get_or b (at + k) 0 + 256 * field w b (at + suc k)
field_step w b at k =
    let e : at + suc k ≡ suc (at + k) = omega arith in
    rw e (field-suc w b (at + k))

field-first : (w : ℕ) (b : List ℕ) (at : ℕ) → field (suc w) b at ≡ get_or b at 0 + 256 * field w b (at + 1)
field-first w b at = rw (add-one at) (field-suc w b at)

pub field2 : (b : List ℕ) (at : ℕ) → field 2 b at ≡ get_or b at 0 + 256 * get_or b (at + 1) 0
field2 b at = omega (arith, field-first 1 b at, field_step 0 b at 1, field-zero b (at + 2))

pub field4 : (b : List ℕ) (at : ℕ) → field 4 b at ≡ get_or b at 0 + 256 * get_or b (at + 1) 0 + 65536 * get_or b (at + 2) 0 + 16777216 * get_or b (at + 3) 0
field4 b at = omega (arith, field-first 3 b at, field_step 2 b at 1, field_step 1 b at 2, field_step 0 b at 3, field-zero b (at + 4))

-- two fields side by side are one
pub field-plus : (v w : ℕ) (b : List ℕ) (at : ℕ) → field (v + w) b at ≡ field v b at + 256 ^ v * field w b (at + v)
field-plus zero w b at =
    rw (zero-add w, add-zero at) (omega (arith, field-zero b at, pow-zero 256))
field-plus (suc v) w b at =
    let e : at + suc v ≡ suc at + v = omega arith in
    rw (suc-add v w, e, pow-suc 256 v)
    (omega (arith, field-suc (v + w) b at, field-suc v b at, field-plus v w b (suc at)))

pub length_digits : (w v : ℕ) → length (digits w v) ≡ w
length_digits zero v = refl
length_digits (suc w) v = ap suc (length_digits w (v / 256))

-- and so are the bytes of a number: its low part, then its high part
pub digits-plus : (v w x : ℕ) → digits (v + w) x ≡ digits v (x % 256 ^ v) ++ digits w (x / 256 ^ v)
digits-plus zero w x = rw (zero-add w, pow-zero 256, div-one x) refl
digits-plus (suc v) w x =
    let m : x % (256 ^ v * 256) ≡ (x / 256 % 256 ^ v) * 256 + x % 256 = mod-mul x (one-le-pow v 256 (omega arith)) (omega arith) in
    let r : (x / 256 % 256 ^ v * 256 + x % 256) % 256 ≡ x % 256 = digits_mod (x / 256 % 256 ^ v) (mod-lt x (omega arith)) in
    let q : (x / 256 % 256 ^ v * 256 + x % 256) / 256 ≡ x / 256 % 256 ^ v = digits_div (x / 256 % 256 ^ v) (mod-lt x (omega arith)) in
    let d : x / (256 ^ v * 256) ≡ x / 256 / 256 ^ v = ap (λ (k : ℕ). x / k) (mul_comm (256 ^ v) 256) ∙ sym (div-div-eq-div-mul x 256 (256 ^ v)) in
    rw (suc-add v w, pow-suc 256 v, m, r, q, d) (ap (λ (l : List ℕ). x % 256 ∷ l) (digits-plus v w (x / 256)))

-- two runs of stores side by side are one
pub sets-append : (x y b : List ℕ) (at : ℕ) → sets (sets b at x) (at + length x) y ≡ sets b at (x ++ y)
sets-append [] y b at = ap (λ (k : ℕ). sets b k y) (add-zero at)
sets-append (a ∷ x) y b at =
    let e : at + suc (length x) ≡ suc at + length x = omega arith in
    ap (λ (k : ℕ). sets (sets (set b at a) (suc at) x) k y) e ∙ sets-append x y (set b at a) (suc at)

-- a number written as its low and its high part
pub sets-plus : (v w : ℕ) (b : List ℕ) (at x : ℕ) → sets (sets b at (digits v (x % 256 ^ v))) (at + v) (digits w (x / 256 ^ v)) ≡ sets b at (digits (v + w) x)
sets-plus v w b at x =
    let n : at + length (digits v (x % 256 ^ v)) ≡ at + v = ap (λ (k : ℕ). at + k) (length_digits v (x % 256 ^ v)) in
    ap (λ (k : ℕ). sets (sets b at (digits v (x % 256 ^ v))) k (digits w (x / 256 ^ v))) (sym n)
    ∙ sets-append (digits v (x % 256 ^ v)) (digits w (x / 256 ^ v)) b at
    ∙ ap (sets b at) (sym (digits-plus v w x))

-- a part of a list of bytes is one
pub bytes_take : (n : ℕ) (b : List ℕ) → Bytes b → Bytes (take n b)
bytes_take zero b h i = omega arith
bytes_take (suc n) [] h i = omega arith
bytes_take (suc n) (x ∷ b) h zero = h 0
bytes_take (suc n) (x ∷ b) h (suc i) = bytes_take n b (λ j. h (suc j)) i

pub bytes-part : (w at : ℕ) (b : List ℕ) → Bytes b → Bytes (take w (drop at b))
bytes-part w at b h = bytes_take w (drop at b) (λ i. rw (get_or-drop at b i 0) (h (at + i)))

-- a number is its bytes, and bytes are those of their number
pub number_digits : (w v : ℕ) → v < 256 ^ w → number (digits w v) ≡ v
number_digits zero v h = let z : v < 1 = rw pow-zero at h in omega arith
number_digits (suc w) v h =
    let k : v < 256 ^ w * 256 = rw pow-suc at h in
    let j : v / 256 < 256 ^ w = (div-lt_iff_lt-mul {k = 256} (omega arith)).1 k in
    omega (arith, number_digits w (v / 256) j)

pub digits_number : (l : List ℕ) → Bytes l → digits (length l) (number l) ≡ l
digits_number [] h = refl
digits_number (x ∷ l) h =
    let hx : x < 256 = h 0 in
    let r : (x + 256 * number l) % 256 ≡ x = omega arith in
    let q : (x + 256 * number l) / 256 ≡ number l = omega arith in
    rw (r, q) (ap (λ (t : List ℕ). x ∷ t) (digits_number l (λ i. h (suc i))))

-- the bytes of a field
pub digits-field : (w : ℕ) (b : List ℕ) (at : ℕ) → at + w ≤ length b → Bytes b → digits w (field w b at) ≡ take w (drop at b)
unfolding field
digits-field w b at h hb =
    let n : length (take w (drop at b)) ≡ w = length-take-le w (drop at b) (rw length-drop (omega arith)) in
    ap (λ (k : ℕ). digits k (number (take w (drop at b)))) (sym n) ∙ digits_number (take w (drop at b)) (bytes-part w at b hb)

-- a field of what a longer list begins with
pub field-front : (w : ℕ) (b q : List ℕ) (at : ℕ) → at + w ≤ length b → field w (b ++ q) at ≡ field w b at
unfolding field
field-front w b q at h =
    let h₁ : at ≤ length b = omega arith in
    let h₂ : w ≤ length (drop at b) = rw length-drop (omega arith) in
    rw (drop-append-le at b q h₁, take-append-le w (drop at b) q h₂) refl

-- a field of the part that it is
pub field_cut : (w : ℕ) (b : List ℕ) (at : ℕ) → field w (take (at + w - at) (drop at b)) 0 ≡ field w b at
unfolding field
field_cut w b at = rw (add-sub_cancel_left at w) (ap number (take-take w w (drop at b) (le_refl w)))

-- a field that is a piece of the list
pub field_at : (w : ℕ) (p x q : List ℕ) (at : ℕ) → length p ≡ at → length x ≡ w → field w (p ++ (x ++ q)) at ≡ number x
unfolding field
field_at w p x q at e ew = rw (drop_at p (x ++ q) at e, take_at x q w ew) refl

-- a field is 0 exactly if each of its bytes is
pub field-zeros : (w : ℕ) (b : List ℕ) (at : ℕ) → ((j : ℕ) → j < w → get_or b (at + j) 0 ≡ 0) → field w b at ≡ 0
field-zeros zero b at h = field-zero b at
field-zeros (suc w) b at h =
    let e : get_or b at 0 ≡ 0 = rw add-zero at (h 0 (omega arith)) in
    let r : field w b (suc at) ≡ 0 =
    field-zeros w b (suc at) (λ j l. let k : suc at + j ≡ at + suc j = omega arith in rw k (h (suc j) (omega arith))) in
    field-suc w b at ∙ omega arith

pub zeros-field : (w : ℕ) (b : List ℕ) (at : ℕ) → field w b at ≡ 0 → (j : ℕ) → j < w → get_or b (at + j) 0 ≡ 0
zeros-field zero b at e j l = absurd (omega arith)
zeros-field (suc w) b at e zero l = rw add-zero (omega (arith, field-suc w b at))
zeros-field (suc w) b at e (suc j) l =
    let k : at + suc j ≡ suc at + j = omega arith in
    rw k (zeros-field w b (suc at) (omega (arith, field-suc w b at)) j (omega arith))
