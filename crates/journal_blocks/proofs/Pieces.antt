-- Laws of pieces of which only the last may be shorter.
use Prim.Native.Nat.{ℕ, suc, min, ◌+◌, ◌-◌, ◌*◌, ◌≤◌, ◌<◌}
use mathlib.Core.List.{List, ◌++◌, append_assoc}
use mathlib.Core.Logic.{⊎_elim}
use mathlib.Core.Path.{◌≡◌, refl, sym, ap, subst, ◌∙◌}
use native.Mathlib.Nat.{eq-or-lt_of_le}
use native.Mathlib.Decide.{dec_lt}
use native.Mathlib.Omega.{arith}
use lib.ListN.{length, get_or, take, drop, length-append, length-drop, get_or-append}
use lib.Seq.{take_at, drop_at, drop-drop, take_all, get_or-append-add}
use Rattle.ground.proofs.Pieces.{length-cat, cat-more, cat-split}
use Rattle.ground.specs.Pieces.{cat, part}

-- one piece more of a loop that fills a list from the front: what a call on `&mut m[at..end]` leaves
pub fill-piece : (f : ℕ → List ℕ) (i at end : ℕ) (m d y : List ℕ) → at ≡ length (cat f i) → end ≡ at + length (f i) → m ≡ cat f i ++ drop at d → y ≡ f i
    → take at m ++ (y ++ drop (end - at) (drop at m)) ≡ cat f (i + 1) ++ drop end d
fill-piece f i at end m d y ea ee em ey =
    let n : end - at ≡ length (f i) = omega arith in
    rw (
      em,
      ey,
      n,
      take_at (cat f i) (drop at d) at (sym ea),
      drop_at (cat f i) (drop at d) at (sym ea),
      drop-drop (length (f i)) at d,
      sym ee,
      cat-more f i,
    )
    (sym (append_assoc (cat f i) (f i) (drop end d)))

-- what stands before the end of a piece is no longer than the whole
pub front-le : (f : ℕ → List ℕ) (n i : ℕ) → i < n → length (cat f i) + length (f i) ≤ length (cat f n)
front-le f n i h =
    let x = cat-split f n i h in
    let e = ap length x.1 ∙ length-append (cat f i) (f i ++ x.0) in
    omega (arith, e, length-append (f i) x.0)

-- piece i as code cuts it, up to the end of the list where that comes first
pub piece_cut : (w i : ℕ) (l : List ℕ) → take (min (length l) (w * i + w) - w * i) (drop (w * i) l) ≡ part w i l
piece_cut w i l = go (w * i) (dec_lt (length l) (w * i + w))
  where
    go : (a : ℕ) → Dec (length l < a + w) → take (min (length l) (a + w) - a) (drop a l) ≡ take w (drop a l)
    go a (yes h) =
        let d = length-drop a l in
        take_all (min (length l) (a + w) - a) (drop a l) (omega arith) ∙ sym (take_all w (drop a l) (omega arith))
    go a (no h) = let e : min (length l) (a + w) - a ≡ w = omega arith in rw e refl

-- a number of a list of pieces, those before it of equal length
pub cat-get : (f : ℕ → List ℕ) (w n q r : ℕ) → q < n → ((i : ℕ) → i < q → length (f i) ≡ w) → r < length (f q) → get_or (cat f n) (w * q + r) 0 ≡ get_or (f q) r 0
cat-get f w n q r h l k =
    let x = cat-split f n q h in
    ap (λ (s : List ℕ). get_or s (w * q + r) 0) x.1
    ∙ ap (λ (j : ℕ). get_or (cat f q ++ (f q ++ x.0)) (j + r) 0) (sym (length-cat f w q l))
    ∙ get_or-append-add (cat f q) (f q ++ x.0) r 0
    ∙ get_or-append (f q) x.0 0 r k

-- a piece of the whole
pub part-piece : (f : ℕ → List ℕ) (w n i : ℕ) → i < n → ((j : ℕ) → suc j < n → length (f j) ≡ w) → length (f i) ≤ w → part w i (cat f n) ≡ f i
unfolding cat
part-piece f w n i h full few =
    ⊎_elim
    (λ e. subst (λ (k : ℕ). part w i (cat f k) ≡ f i) e last)
    (λ l. let x = cat-split f n i h in
    ap (λ (s : List ℕ). take w (drop (w * i) s)) x.1
    ∙ ap (take w) (drop_at (cat f i) (f i ++ x.0) (w * i) before)
    ∙ take_at (f i) x.0 w (full i l))
    (eq-or-lt_of_le h)
  where
    before : length (cat f i) ≡ w * i
    before = length-cat f w i (λ j l. full j (omega arith))

    last : part w i (cat f (suc i)) ≡ f i
    last = ap (take w) (drop_at (cat f i) (f i) (w * i) before) ∙ take_all w (f i) few
