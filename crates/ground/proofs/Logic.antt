-- Laws of tests.
use mathlib.Core.Bool.{Bool, true, false, ◌&&◌, ◌||◌, not, true≢false, false≢true}
use mathlib.Core.Logic.{◌⊎◌, inl, inr}
use mathlib.Core.Path.{◌≡◌, refl, sym, ◌∙◌}

pub and_l : (a b : Bool) → a && b ≡ true → a ≡ true
and_l true b e = refl
and_l false b e = e

pub and_r : (a b : Bool) → a && b ≡ true → b ≡ true
and_r true b e = e
and_r false b e = absurd (false≢true e)

pub and_i : {a b : Bool} → a ≡ true → b ≡ true → a && b ≡ true
and_i {a = true} {b = b} p q = q
and_i {a = false} {b = b} p q = p

-- two tests that imply each other are equal
pub iff : (a b : Bool) → (a ≡ true → b ≡ true) → (b ≡ true → a ≡ true) → a ≡ b
iff true b f g = sym (f refl)
iff false true f g = g refl
iff false false f g = refl

-- a test that never passes
pub is_false : (a : Bool) → (a ≡ true → ⊥) → a ≡ false
is_false true f = absurd (f refl)
is_false false f = refl

pub clash : {a : Bool} → a ≡ true → a ≡ false → ⊥
clash p q = true≢false (sym p ∙ q)

-- a test passes or fails
pub cases : (a : Bool) → (a ≡ true) ⊎ (a ≡ false)
cases true = inl refl
cases false = inr refl

-- of an implication between two tests
pub absorb : (a b : Bool) → (a ≡ true → b ≡ true) → a && b ≡ a
absorb true b f = f refl
absorb false b f = refl

pub not_t : (a : Bool) → not a ≡ true → a ≡ false
not_t true e = sym e
not_t false e = refl

pub or-i : (a b : Bool) → b ≡ true → a || b ≡ true
or-i true b e = refl
or-i false b e = e

pub or-e : (a b : Bool) → a || b ≡ true → (a ≡ true) ⊎ (b ≡ true)
or-e true b e = inl refl
or-e false b e = inr e

-- neither of two tests passes
pub or-none : (a b : Bool) → a || b ≡ false → (a ≡ false) × (b ≡ false)
or-none true b e = absurd (true≢false e)
or-none false b e = (refl, e)

-- two tests that fail together are equal
pub fail-alike : (a b : Bool) → (a ≡ false → b ≡ false) → (b ≡ false → a ≡ false) → a ≡ b
fail-alike true true f g = refl
fail-alike true false f g = g refl
fail-alike false b f g = sym (f refl)
