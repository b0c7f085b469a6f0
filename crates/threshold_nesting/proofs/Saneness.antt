-- Every word leaves a spot sane, passes one line end at most, and begins one inner set at most.
use Prim.Native.Nat.{ℕ, ◌+◌, ◌≤◌}
use mathlib.Core.Bool.{Bool, true, false, ◌||◌, not, cond}
use mathlib.Core.Path.{◌≡◌, refl, sym}
use native.Mathlib.Omega.{arith}
use lib.Dec.{eqb, ltb}
use borrow.Author.Tests.{ltb-true, ltb-false, eqb-true}
use Rattle.ground.proofs.Logic.{or-none}
use Rattle.masks.specs.Mask.{has}
use Rattle.threshold_words.specs.declared.Token.{Token}
use Rattle.threshold_words.specs.declared.Token.TheVariants.{Silence, Sites, Number, Colon, Open, Close, End, Strange}
use Rattle.threshold_words.specs.declared.Token.TheVariants.{Of as TheOf}
use Rattle.threshold_grammar.specs.Grammar.{ThresholdSane, doing, spot_at, threshold_missed, threshold_onward, threshold_many, threshold_owner, threshold_sited, linked, threshold_coloned}
use Rattle.threshold_grammar.specs.declared.Deed.{Deed}
use Rattle.threshold_grammar.specs.declared.Deed.TheVariants.{Nothing, Root, Inner, Least, Site}
use Rattle.threshold_grammar.specs.declared.Phase.{Phase}
use Rattle.threshold_grammar.specs.declared.Phase.TheVariants.{Head, Count, Tail, Owner, Mark, Threshold, Of, Members, Wrong}
use Rattle.threshold_grammar.specs.declared.Spot.{Spot}
use Rattle.threshold_nesting.specs.Nesting.{unreached, threshold_member, set_opened, set_closed, set_completed, threshold_numbered, bracket_opens, bracket_closes, threshold_line_end, threshold_spoken}
use Rattle.threshold_nesting.specs.declared.Held.{Held}

-- how many inner sets a word begins
abbrev pub begins : Deed → ℕ
begins Nothing = 0
begins Root = 0
begins Inner = 1
begins (Least x) = 0
begins (Site q) = 0

-- sane, at most so many lines further than the spot before, and with at most so many inner sets begun
pub record After (d e : ℕ) (s r : Spot) : Type 0 where
  pub sane : ThresholdSane r
  pub line : r.line ≤ s.line + d
  pub begun : begins r.deed ≤ e

-- the end of a line passes one, no other word does
abbrev pub ends : Token → ℕ
ends Silence = 0
ends Sites = 0
ends TheOf = 0
ends (Number x) = 0
ends Colon = 0
ends Open = 0
ends Close = 0
ends End = 1
ends Strange = 0

-- an opening bracket begins an inner set, no other word does
abbrev pub opens : Token → ℕ
opens Silence = 0
opens Sites = 0
opens TheOf = 0
opens (Number x) = 0
opens Colon = 0
opens Open = 1
opens Close = 0
opens End = 0
opens Strange = 0

not_f : (a : Bool) → not a ≡ false → a ≡ true
not_f true e = refl
not_f false e = sym e

either : (b : Bool) {d e : ℕ} (s x y : Spot) → (b ≡ true → After d e s x) → (b ≡ false → After d e s y) → After d e s (cond b x y)
either true s x y f g = f refl
either false s x y f g = g refl

doing-after : (s : Spot) (d : Deed) (p : Phase) → begins d ≤ 0 → ThresholdSane s → After 0 0 s (doing s d p)
doing-after s d p b f = record { sane = f; line = omega arith; begun = b }

at_after : {e : ℕ} (s : Spot) (p : Phase) → ThresholdSane s → After 0 e s (spot_at s p)
at_after s p f = record { sane = f; line = omega arith; begun = omega arith }

at-later : (s : Spot) (p : Phase) → ThresholdSane s → After 1 0 s (spot_at s p)
at-later s p f = record { sane = f; line = omega arith; begun = omega arith }

next-after : (s : Spot) (p : Phase) → ThresholdSane s → After 1 0 s (threshold_onward s p)
next-after s p f = record { sane = (f.0, f.1, omega arith, omega arith, omega arith); line = omega arith; begun = omega arith }

missed-after : {e : ℕ} (s : Spot) → ThresholdSane s → After 0 e s (threshold_missed s)
unfolding threshold_missed
missed-after s f = record { sane = f; line = omega arith; begun = omega arith }

missed-later : (s : Spot) → ThresholdSane s → After 1 0 s (threshold_missed s)
unfolding threshold_missed
missed-later s f = record { sane = f; line = omega arith; begun = omega arith }

many-after : (s : Spot) (x : ℕ) → ThresholdSane s → After 0 0 s (threshold_many s x)
unfolding threshold_many
many-after s x f =
    either (ltb x 1 || ltb 64 x) s _ _ (λ e. missed-after s f)
    (λ e. let h = ltb-false 64 x (or-none (ltb x 1) (ltb 64 x) e).1 in
    record { sane = (omega arith, omega arith, omega arith, omega arith, omega arith); line = omega arith; begun = omega arith })

owner-after : (s : Spot) (x : ℕ) → ThresholdSane s → After 0 0 s (threshold_owner s x)
unfolding threshold_owner
owner-after s x f =
    either (not (ltb x s.n) || not (eqb x s.v)) s _ _ (λ e. missed-after s f)
    (λ e. let z = or-none (not (ltb x s.n)) (not (eqb x s.v)) e in
    let h = ltb-true x s.n (not_f (ltb x s.n) z.0) in
    let g = eqb-true x s.v (not_f (eqb x s.v) z.1) in
    record { sane = (f.0, omega arith, omega arith, omega arith, omega arith); line = omega arith; begun = omega arith })

member-after : (s : Spot) (h : Held) (x : ℕ) → ThresholdSane s → After 0 0 s (threshold_member s h x)
unfolding threshold_member
member-after s h x f =
    either (not (ltb x s.n)) s _ _ (λ e. at_after s _ f)
    (λ e. either (has h.plain x) s _ _ (λ d. at_after s _ f) (λ d. doing-after s _ _ (omega arith) f))

opened_after : (s : Spot) (h : Held) → ThresholdSane s → After 0 1 s (set_opened s h)
unfolding set_opened
opened_after s h f =
    either (ltb 48 h.sets) s _ _ (λ e. at_after s _ f)
    (λ e. either (ltb 3 s.depth) s _ _ (λ d. at_after s _ f)
    (λ d. let g = ltb-false 48 h.sets e in record { sane = (f.0, f.1, omega arith, f.2, f.3); line = omega arith; begun = omega arith }))

closed_after : (s : Spot) (h : Held) → ThresholdSane s → After 0 0 s (set_closed s h)
unfolding set_closed
closed_after s h f =
    either (not (ltb 1 s.depth)) s _ _ (λ e. missed-after s f)
    (λ e. either (unreached h) s _ _ (λ d. at_after s _ f) (λ d. record { sane = (f.0, f.1, f.3, f.4, omega arith); line = omega arith; begun = omega arith }))

completed-after : (s : Spot) (h : Held) → ThresholdSane s → After 1 0 s (set_completed s h)
unfolding set_completed
completed-after s h f =
    either (ltb 1 s.depth) s _ _ (λ e. missed-later s f) (λ e. either (unreached h) s _ _ (λ d. at-later s _ f) (λ d. next-after s Owner f))

in-numbered : (p : Phase) (s : Spot) (h : Held) (x : ℕ) → ThresholdSane s → After 0 0 s (threshold_numbered p s h x)
in-numbered Head s h x f = missed-after s f
in-numbered Count s h x f = many-after s x f
in-numbered Tail s h x f = missed-after s f
in-numbered Owner s h x f = owner-after s x f
in-numbered Mark s h x f = missed-after s f
in-numbered Threshold s h x f = doing-after s (Least x) Of (omega arith) f
in-numbered Of s h x f = missed-after s f
in-numbered Members s h x f = member-after s h x f
in-numbered (Wrong w) s h x f = missed-after s f

in-sited : (p : Phase) (s : Spot) → ThresholdSane s → After 0 0 s (threshold_sited p s)
in-sited Head s f = at_after s Count f
in-sited Count s f = missed-after s f
in-sited Tail s f = missed-after s f
in-sited Owner s f = missed-after s f
in-sited Mark s f = missed-after s f
in-sited Threshold s f = missed-after s f
in-sited Of s f = missed-after s f
in-sited Members s f = missed-after s f
in-sited (Wrong w) s f = missed-after s f

in-linked : (p : Phase) (s : Spot) → ThresholdSane s → After 0 0 s (linked p s)
in-linked Head s f = missed-after s f
in-linked Count s f = missed-after s f
in-linked Tail s f = missed-after s f
in-linked Owner s f = missed-after s f
in-linked Mark s f = missed-after s f
in-linked Threshold s f = missed-after s f
in-linked Of s f = at_after s Members f
in-linked Members s f = missed-after s f
in-linked (Wrong w) s f = missed-after s f

in-coloned : (p : Phase) (s : Spot) → ThresholdSane s → After 0 0 s (threshold_coloned p s)
in-coloned Head s f = missed-after s f
in-coloned Count s f = missed-after s f
in-coloned Tail s f = missed-after s f
in-coloned Owner s f = missed-after s f
in-coloned Mark s f = doing-after s Root Threshold (omega arith) f
in-coloned Threshold s f = missed-after s f
in-coloned Of s f = missed-after s f
in-coloned Members s f = missed-after s f
in-coloned (Wrong w) s f = missed-after s f

in_opening : (p : Phase) (s : Spot) (h : Held) → ThresholdSane s → After 0 1 s (bracket_opens p s h)
in_opening Head s h f = missed-after s f
in_opening Count s h f = missed-after s f
in_opening Tail s h f = missed-after s f
in_opening Owner s h f = missed-after s f
in_opening Mark s h f = missed-after s f
in_opening Threshold s h f = missed-after s f
in_opening Of s h f = missed-after s f
in_opening Members s h f = opened_after s h f
in_opening (Wrong w) s h f = missed-after s f

in-closing : (p : Phase) (s : Spot) (h : Held) → ThresholdSane s → After 0 0 s (bracket_closes p s h)
in-closing Head s h f = missed-after s f
in-closing Count s h f = missed-after s f
in-closing Tail s h f = missed-after s f
in-closing Owner s h f = missed-after s f
in-closing Mark s h f = missed-after s f
in-closing Threshold s h f = missed-after s f
in-closing Of s h f = missed-after s f
in-closing Members s h f = closed_after s h f
in-closing (Wrong w) s h f = missed-after s f

at-end : (p : Phase) (s : Spot) (h : Held) → ThresholdSane s → After 1 0 s (threshold_line_end p s h)
at-end Head s h f = next-after s Head f
at-end Count s h f = missed-later s f
at-end Tail s h f = next-after s Owner f
at-end Owner s h f = next-after s Owner f
at-end Mark s h f = missed-later s f
at-end Threshold s h f = missed-later s f
at-end Of s h f = missed-later s f
at-end Members s h f = completed-after s h f
at-end (Wrong w) s h f = missed-later s f

pub told-after : (t : Token) (h : Held) (s : Spot) → ThresholdSane s → After (ends t) (opens t) s (threshold_spoken t h s)
told-after Silence h s f = at_after s s.phase f
told-after Sites h s f = in-sited s.phase s f
told-after TheOf h s f = in-linked s.phase s f
told-after (Number x) h s f = in-numbered s.phase s h x f
told-after Colon h s f = in-coloned s.phase s f
told-after Open h s f = in_opening s.phase s h f
told-after Close h s f = in-closing s.phase s h f
told-after End h s f = at-end s.phase s h f
told-after Strange h s f = missed-after s f
