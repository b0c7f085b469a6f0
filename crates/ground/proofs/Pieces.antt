-- Laws of lists in pieces.
use Prim.Native.Nat.{ℕ, zero, suc, ◌+◌, ◌*◌, ◌-◌, ◌≤◌, ◌<◌}
use mathlib.Core.List.{List, ◌∷◌, ◌++◌, append_assoc, append-nil, []}
use mathlib.Core.Logic.{⊎_elim}
use mathlib.Core.Path.{◌≡◌, refl, sym, ap, ◌∙◌}
use native.Mathlib.Nat.{mul-suc, mul-zero, add-sub_cancel_left, le_trans, mul-le-mul_left, not-suc-le-zero, eq-or-lt_of_le, le_of_suc-le-suc, lt_of_lt_of_le, le_of_lt, le_refl}
use native.Mathlib.Numerals.{add-one}
use native.Mathlib.Omega.{arith}
use lib.ListN.{length, get_or, take, drop, set, length-append, length-drop}
use lib.Seq.{drop-cons, set_at, append_snoc, take_at, drop_at, drop-drop, length-take-le, take-add, take-suc, sets, sets-eq, get_or-drop, get_or_at}
use Rattle.ground.specs.Pieces.{cat, part}

-- one store of a loop that fills a list from the front
pub fill_one : (p d : List ℕ) (j x : ℕ) → length p ≡ j → j < length d → set (p ++ drop j d) j x ≡ (p ++ (x ∷ [])) ++ drop (j + 1) d
fill_one p d j x e h =
    rw (add-one j, drop-cons d j 0 h, set_at p (get_or d j 0) (drop (suc j) d) x j e)
    (sym (append_snoc p x (drop (suc j) d)))

-- one piece more
pub cat-more : (f : ℕ → List ℕ) (n : ℕ) → cat f (n + 1) ≡ cat f n ++ f n
unfolding cat
cat-more f n = rw (add-one n) refl

pub length-cat : (f : ℕ → List ℕ) (w n : ℕ) → ((i : ℕ) → i < n → length (f i) ≡ w) → length (cat f n) ≡ w * n
unfolding cat
length-cat f w zero h = sym (mul-zero w)
length-cat f w (suc n) h =
    rw (length-append (cat f n) (f n), mul-suc w n)
    (omega (arith, length-cat f w n (λ i l. h i (omega arith)), h n (omega arith)))

-- a part as code cuts it
pub part_cut : (w i : ℕ) (l : List ℕ) → take (w * i + w - w * i) (drop (w * i) l) ≡ part w i l
part_cut w i l = rw (add-sub_cancel_left (w * i) w) refl

pub length_part : (w i n : ℕ) (l : List ℕ) → i < n → w * n ≤ length l → length (part w i l) ≡ w
length_part w i n l h e =
    length-take-le w (drop (w * i) l)
    (rw (length-drop (w * i) l) (room (w * i) w (length l) (le_trans (rw (mul-suc w i) at (mul-le-mul_left w h)) e)))
  where
    room : (a w n : ℕ) → a + w ≤ n → w ≤ n - a
    room a w n h = omega arith

-- one piece of a loop that fills a list from the front: what a call on `&mut m[w * i..w * i + w]` leaves
pub fill-part : (f : ℕ → List ℕ) (w i : ℕ) (m d y : List ℕ) → length (cat f i) ≡ w * i → m ≡ cat f i ++ drop (w * i) d → y ≡ f i
    → take (w * i) m ++ (y ++ drop (w * i + w - w * i) (drop (w * i) m)) ≡ cat f (i + 1) ++ drop (w * (i + 1)) d
fill-part f w i m d y n e ey =
    let k : w * (i + 1) ≡ w * i + w = rw (add-one i) (mul-suc w i) in
    rw (
      e,
      ey,
      add-sub_cancel_left (w * i) w,
      take_at (cat f i) (drop (w * i) d) (w * i) n,
      drop_at (cat f i) (drop (w * i) d) (w * i) n,
      drop-drop w (w * i) d,
      k,
      cat-more f i,
    )
    (sym (append_assoc (cat f i) (f i) (drop (w * i + w) d)))

-- equal pieces, equal whole
pub cat-ext : (f g : ℕ → List ℕ) (n : ℕ) → ((i : ℕ) → i < n → f i ≡ g i) → cat f n ≡ cat g n
unfolding cat
cat-ext f g zero h = refl
cat-ext f g (suc n) h = rw (cat-ext f g n (λ i l. h i (omega arith)), h n (omega arith)) refl

-- what stands before and after piece k
pub cat-split : (f : ℕ → List ℕ) (n k : ℕ) → k < n → (r : List ℕ) × (cat f n ≡ cat f k ++ (f k ++ r))
unfolding cat
cat-split f zero k l = absurd (not-suc-le-zero l)
cat-split f (suc n) k l =
    ⊎_elim
    (λ e. ([], rw e (ap (λ (x : List ℕ). cat f n ++ x) (sym (append-nil (f n))))))
    (λ lt. let s = cat-split f n k lt in
    (s.0 ++ f n, rw s.1 (append_assoc (cat f k) (f k ++ s.0) (f n) ∙ ap (λ (x : List ℕ). cat f k ++ x) (append_assoc (f k) s.0 (f n)))))
    (eq-or-lt_of_le (le_of_suc-le-suc l))

-- piece k of the whole is f k
pub part-cat : (f : ℕ → List ℕ) (w n k : ℕ) → k < n → ((i : ℕ) → i < n → length (f i) ≡ w) → part w k (cat f n) ≡ f k
part-cat f w n k l h =
    let s = cat-split f n k l in
    let e : length (cat f k) ≡ w * k = length-cat f w k (λ i j. h i (lt_of_lt_of_le j (le_of_lt l))) in
    rw (s.1, drop_at (cat f k) (f k ++ s.0) (w * k) e) (take_at (f k) s.0 w (h k l))

-- a list is its pieces
pub cat-parts : (w n : ℕ) (l : List ℕ) → cat (λ i. part w i l) n ≡ take (w * n) l
unfolding cat
cat-parts w zero l = rw (mul-zero w) refl
cat-parts w (suc n) l = rw (mul-suc w n, take-add (w * n) w l, cat-parts w n l) refl

-- a list is its elements
pub cat-elements : (l : List ℕ) (n : ℕ) → n ≤ length l → cat (λ k. get_or l k 0 ∷ []) n ≡ take n l
unfolding cat
cat-elements l zero h = refl
cat-elements l (suc n) h = rw (cat-elements l n (omega arith)) (sym (take-suc l n 0 h))

-- a run of stores behind what is written already
pub fill-sets : (p x d : List ℕ) (j w : ℕ) → length p ≡ j → length x ≡ w → j + w ≤ length d → sets (p ++ drop j d) j x ≡ (p ++ x) ++ drop (j + w) d
fill-sets p x d j w e ew h =
    let l : length (p ++ drop j d) ≡ length d = length-append p (drop j d) ∙ rw (e, length-drop j d) (omega arith) in
    let h' : j + length x ≤ length (p ++ drop j d) = rw (l, ew) h in
    let a : drop (j + w) (p ++ drop j d) ≡ drop (j + w) d =
    sym (drop-drop w j (p ++ drop j d)) ∙ ap (drop w) (drop_at p (drop j d) j e) ∙ drop-drop w j d in
    rw (sets-eq x (p ++ drop j d) j h', ew, take_at p (drop j d) j e, a) refl

-- pieces of one element each
pub cat-at : (g : ℕ → ℕ) (n k : ℕ) → k < n → get_or (cat (λ j. g j ∷ []) n) k 0 ≡ g k
cat-at g n k l =
    let f : ℕ → List ℕ = λ j. g j ∷ [] in
    let s = cat-split f n k l in
    rw s.1 (get_or_at (cat f k) (g k) s.0 0 k (length-cat f 1 k (λ i h. refl) ∙ omega arith))

-- an element of a part is one of the list, or past the part's end 0
take-le : (n : ℕ) (l : List ℕ) (k : ℕ) → get_or (take n l) k 0 ≤ get_or l k 0
take-le zero l k = omega arith
take-le (suc n) [] k = omega arith
take-le (suc n) (x ∷ l) zero = le_refl x
take-le (suc n) (x ∷ l) (suc k) = take-le n l k

pub part-le : (w i : ℕ) (l : List ℕ) (k : ℕ) → get_or (part w i l) k 0 ≤ get_or l (w * i + k) 0
part-le w i l k = rw (← get_or-drop (w * i) l k 0) (take-le w (drop (w * i) l) k)
