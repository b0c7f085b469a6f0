-- Every word leaves a spot sane, at most 64 sites and no more lines than sites, and passes one line end at most.
use Prim.Native.Nat.{ℕ, ◌+◌, ◌≤◌}
use mathlib.Core.Bool.{Bool, true, false, ◌||◌, not, cond}
use mathlib.Core.Path.{◌≡◌, refl, sym}
use native.Mathlib.Omega.{arith}
use lib.Dec.{eqb, ltb}
use borrow.Author.Tests.{ltb-true, ltb-false, eqb-true}
use Rattle.ground.proofs.Logic.{or-none}
use Rattle.masks.specs.Mask.{has}
use Rattle.table_words.specs.declared.Token.{Token}
use Rattle.table_words.specs.declared.Token.TheVariants.{Silence, Sites, Number, Colon, Bar, End, Strange}
use Rattle.table_grammar.specs.Grammar.{Sane, at, missed, onward, many, owner, member, first_member, numbered, sited, coloned, barred, line_end, spoken}
use Rattle.table_grammar.specs.declared.Phase.{Phase}
use Rattle.table_grammar.specs.declared.Phase.TheVariants.{Head, Count, Tail, Owner, Mark, First, More, Wrong}
use Rattle.table_grammar.specs.declared.Spot.{Spot}

-- sane, and at most so many lines further than the spot before
pub record After (d : ℕ) (s r : Spot) : Type 0 where
  pub sane : Sane r
  pub line : r.line ≤ s.line + d

-- the end of a line passes one, no other word does
abbrev pub ends : Token → ℕ
ends Silence = 0
ends Sites = 0
ends (Number x) = 0
ends Colon = 0
ends Bar = 0
ends End = 1
ends Strange = 0

not_f : (a : Bool) → not a ≡ false → a ≡ true
not_f true e = refl
not_f false e = sym e

either : (b : Bool) {d : ℕ} (s x y : Spot) → (b ≡ true → After d s x) → (b ≡ false → After d s y) → After d s (cond b x y)
either true s x y f g = f refl
either false s x y f g = g refl

stay : (s : Spot) → Sane s → After 0 s s
stay s f = record { sane = f; line = omega arith }

at_after : (s : Spot) (p : Phase) → Sane s → After 0 s (at s p)
at_after s p f = record { sane = f; line = omega arith }

next-after : (s : Spot) (p : Phase) → Sane s → After 1 s (onward s p)
next-after s p f = record { sane = f; line = omega arith }

missed-after : (s : Spot) → Sane s → After 0 s (missed s)
unfolding missed
missed-after s f = record { sane = f; line = omega arith }

missed-later : (s : Spot) → Sane s → After 1 s (missed s)
unfolding missed
missed-later s f = record { sane = f; line = omega arith }

many-after : (s : Spot) (x : ℕ) → Sane s → After 0 s (many s x)
unfolding many
many-after s x f =
    either (ltb x 1 || ltb 64 x) s _ _ (λ e. missed-after s f)
    (λ e. let h = ltb-false 64 x (or-none (ltb x 1) (ltb 64 x) e).1 in record { sane = (omega arith, omega arith); line = omega arith })

owner-after : (s : Spot) (x : ℕ) → Sane s → After 0 s (owner s x)
unfolding owner
owner-after s x f =
    either (not (ltb x s.n) || not (eqb x s.v)) s _ _ (λ e. missed-after s f)
    (λ e. let z = or-none (not (ltb x s.n)) (not (eqb x s.v)) e in
    let h = ltb-true x s.n (not_f (ltb x s.n) z.0) in
    let g = eqb-true x s.v (not_f (eqb x s.v) z.1) in
    record { sane = (f.0, omega arith); line = omega arith })

member-after : (s : Spot) (x : ℕ) → Sane s → After 0 s (member s x)
unfolding member
member-after s x f =
    either (not (ltb x s.n)) s _ _ (λ e. at_after s _ f)
    (λ e. either (has s.q x) s _ _ (λ d. at_after s _ f) (λ d. record { sane = f; line = omega arith }))

first-after : (s : Spot) (full : Bool) (x : ℕ) → Sane s → After 0 s (first_member s full x)
unfolding first_member
first-after s full x f = either full s _ _ (λ e. at_after s _ f) (λ e. member-after s x f)

in-numbered : (p : Phase) (s : Spot) (full : Bool) (x : ℕ) → Sane s → After 0 s (numbered p s full x)
in-numbered Head s full x f = missed-after s f
in-numbered Count s full x f = many-after s x f
in-numbered Tail s full x f = missed-after s f
in-numbered Owner s full x f = owner-after s x f
in-numbered Mark s full x f = missed-after s f
in-numbered First s full x f = first-after s full x f
in-numbered More s full x f = member-after s x f
in-numbered (Wrong w) s full x f = missed-after s f

in-sited : (p : Phase) (s : Spot) → Sane s → After 0 s (sited p s)
in-sited Head s f = at_after s Count f
in-sited Count s f = missed-after s f
in-sited Tail s f = missed-after s f
in-sited Owner s f = missed-after s f
in-sited Mark s f = missed-after s f
in-sited First s f = missed-after s f
in-sited More s f = missed-after s f
in-sited (Wrong w) s f = missed-after s f

in-coloned : (p : Phase) (s : Spot) → Sane s → After 0 s (coloned p s)
in-coloned Head s f = missed-after s f
in-coloned Count s f = missed-after s f
in-coloned Tail s f = missed-after s f
in-coloned Owner s f = missed-after s f
in-coloned Mark s f = at_after s First f
in-coloned First s f = missed-after s f
in-coloned More s f = missed-after s f
in-coloned (Wrong w) s f = missed-after s f

in-barred : (p : Phase) (s : Spot) → Sane s → After 0 s (barred p s)
in-barred Head s f = missed-after s f
in-barred Count s f = missed-after s f
in-barred Tail s f = missed-after s f
in-barred Owner s f = missed-after s f
in-barred Mark s f = missed-after s f
in-barred First s f = missed-after s f
in-barred More s f = at_after s First f
in-barred (Wrong w) s f = missed-after s f

at-end : (p : Phase) (s : Spot) → Sane s → After 1 s (line_end p s)
at-end Head s f = next-after s Head f
at-end Count s f = missed-later s f
at-end Tail s f = next-after s Owner f
at-end Owner s f = next-after s Owner f
at-end Mark s f = missed-later s f
at-end First s f = missed-later s f
at-end More s f = next-after s Owner f
at-end (Wrong w) s f = missed-later s f

pub told-after : (t : Token) (full : Bool) (s : Spot) → Sane s → After (ends t) s (spoken t full s)
told-after Silence full s f = stay s f
told-after Sites full s f = in-sited s.phase s f
told-after (Number x) full s f = in-numbered s.phase s full x f
told-after Colon full s f = in-coloned s.phase s f
told-after Bar full s f = in-barred s.phase s f
told-after End full s f = at-end s.phase s f
told-after Strange full s f = missed-after s f
