-- How long a set's text is, and how texts of one kind are put together.
use Prim.Native.Nat.{ℕ, zero, suc, ◌+◌, ◌*◌, ◌≤◌, ◌<◌}
use mathlib.Core.Bool.{Bool, true, false, cond}
use mathlib.Core.List.{List, [], ◌++◌}
use mathlib.Core.Path.{◌≡◌, refl, sym}
use native.Mathlib.Nat.{le_refl, le-suc, le_trans}
use native.Mathlib.Omega.{arith}
use lib.Dec.{ltb}
use lib.ListN.{length, length-append}
use borrow.Author.Tests.{ltb-true}
use Rattle.ground.proofs.Every.{every-at}
use Rattle.ground.proofs.Pieces.{cat-more}
use Rattle.ground.specs.Pieces.{cat}
use Rattle.ground.specs.Search.{every, least}
use Rattle.lines.proofs.Chain.{as-text}
use Rattle.lines.proofs.Lengths.{length-line}
use Rattle.lines.specs.Lines.{line}
use Rattle.masks.specs.Mask.{has}
use Rattle.members.specs.Members.{site_shown, members}
use Rattle.text.proofs.Width.{length_digits}
use Rattle.text.proofs.Written.{then}
use Rattle.text.specs.Text.{ascii, decimal, digit_count}
use Rattle.text.specs.Written.{Writes}

-- one piece more
pub more : (f : ℕ → List ℕ) (k : ℕ) {before mid after : List ℕ} {at m end : ℕ}
    → Writes (cat f k) before at m mid → Writes (f k) mid m end after → at ≤ length before → Writes (cat f (k + 1)) before at end after
more f k a b h = as-text (sym (cat-more f k)) (then a b h)

pub cat-none : (f : ℕ → List ℕ) → cat f 0 ≡ []
unfolding cat
cat-none f = refl

pub cat-le : (f : ℕ → List ℕ) (w n : ℕ) → ((i : ℕ) → i < n → length (f i) ≤ w) → length (cat f n) ≤ w * n
unfolding cat
cat-le f w zero h = omega arith
cat-le f w (suc n) h =
    let a = cat-le f w n (λ i l. h i (le_trans l (le-suc n))) in
    let b = h n (le_refl (suc n)) in
    rw (length-append (cat f n) (f n)) (omega arith)

-- a site's number has at most two digits
small : every 64 (λ u. ltb (digit_count u) 3) ≡ true
unfolding every digit_count least
small = refl

pub two_digits : (u : ℕ) → u < 64 → length (decimal u) ≤ 2
unfolding decimal
two_digits u h = rw (length_digits 10 (digit_count u) u) (omega (arith, ltb-true (digit_count u) 3 (every-at 64 (λ u. ltb (digit_count u) 3) small u h)))

one : (b : Bool) (l : List ℕ) → length l ≤ 2 → length (cond b (ascii " " ++ l) []) ≤ 3
one true l h = omega arith
one false l h = omega arith

pub length-member : (set u : ℕ) → u < 64 → length (site_shown set u) ≤ 3
unfolding site_shown
length-member set u h = one (has set u) (decimal u) (two_digits u h)

pub length-members : (set : ℕ) → length (members set) ≤ 192
unfolding members
length-members set = cat-le (site_shown set) 3 64 (length-member set)

pub members-line : (word : List ℕ) (set : ℕ) → length (line word (members set)) ≤ length word + 193
members-line word set = omega (arith, length-line word (members set), length-members set)
