-- A refusal is settled by its number and its place.
use Prim.Native.Nat.{ℕ, ◌≤◌}
use mathlib.Core.Bool.{false, cond}
use mathlib.Core.Path.{◌≡◌, refl, sym, ap, ◌∙◌}
use native.Mathlib.Omega.{arith}
use lib.Dec.{eqb}
use borrow.Author.Tests.{ne_eqb}
use Rattle.refusals.specs.Refusal.{number, place, NumberSettles}
use Rattle.refusals.specs.declared.Refusal.{Refusal}
use Rattle.refusals.specs.declared.Refusal.TheVariants.{Length, Sums, Header, Count, Slice, Order, NoQuorum, Filler, Room}
use Rattle.refusals.specs.declared.Refusal.TheVariants.{Set, Range, Receiver, Proposal, Voted, Unsent, Large, List, Unsound, Journal, Numbering, Threshold, Nesting, Slices}

-- the refusal that has a number and a place
unfoldable pub refusal_of : ℕ → ℕ → Refusal
refusal_of n i =
    cond (eqb n 1) Length (
    cond (eqb n 2) (Sums i) (
    cond (eqb n 3) (Header i) (
    cond (eqb n 4) (Count i) (
    cond (eqb n 5) (Slice i) (
    cond (eqb n 6) (Order i) (
    cond (eqb n 7) NoQuorum (
    cond (eqb n 8) (Filler i) (
    cond (eqb n 9) Room (
    cond (eqb n 10) Set (
    cond (eqb n 11) (Range i) (
    cond (eqb n 12) Receiver (
    cond (eqb n 13) Proposal (
    cond (eqb n 14) Voted (
    cond (eqb n 15) Unsent (
    cond (eqb n 16) Large (
    cond (eqb n 17) List (
    cond (eqb n 18) Unsound (
    cond (eqb n 19) Journal (
    cond (eqb n 20) (Numbering i) (
    cond (eqb n 21) (Threshold i) (
    cond (eqb n 22) (Nesting i) (
    Slices i))))))))))))))))))))))

pub back : (r : Refusal) → refusal_of (number r) (place r) ≡ r
unfolding refusal_of
back Length = refl
back (Sums i) = refl
back (Header i) = refl
back (Count i) = refl
back (Slice i) = refl
back (Order i) = refl
back NoQuorum = refl
back (Filler i) = refl
back Room = refl
back Set = refl
back (Range i) = refl
back Receiver = refl
back Proposal = refl
back Voted = refl
back Unsent = refl
back Large = refl
back List = refl
back Unsound = refl
back Journal = refl
back (Numbering i) = refl
back (Threshold i) = refl
back (Nesting i) = refl
back (Slices i) = refl

pub settled : NumberSettles
settled r s p q = sym (back r) ∙ ap (λ (n : ℕ). refusal_of n (place r)) p ∙ ap (λ (i : ℕ). refusal_of (number s) i) q ∙ back s

-- a refusal's number is not 0, which is the answer of a call that was taken
pub some_number : (r : Refusal) → eqb (number r) 0 ≡ false
unfolding refusal_of
some_number r =
    ne_eqb (number r) 0
    (λ e. let u : refusal_of 0 (place r) ≡ r = rw e at (back r) in let v : 23 ≡ number r = ap number u in omega (arith, e, v))

-- and it fits a byte
pub small-number : (r : Refusal) → number r ≤ 23
small-number Length = omega arith
small-number (Sums i) = omega arith
small-number (Header i) = omega arith
small-number (Count i) = omega arith
small-number (Slice i) = omega arith
small-number (Order i) = omega arith
small-number NoQuorum = omega arith
small-number (Filler i) = omega arith
small-number Room = omega arith
small-number Set = omega arith
small-number (Range i) = omega arith
small-number Receiver = omega arith
small-number Proposal = omega arith
small-number Voted = omega arith
small-number Unsent = omega arith
small-number Large = omega arith
small-number List = omega arith
small-number Unsound = omega arith
small-number Journal = omega arith
small-number (Numbering i) = omega arith
small-number (Threshold i) = omega arith
small-number (Nesting i) = omega arith
small-number (Slices i) = omega arith
