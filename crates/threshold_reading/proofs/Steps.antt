-- The code's steps are those of the definition.
use Prim.Native.Nat.{ℕ, zero, suc, ◌+◌, ◌*◌, ◌≤◌, ◌<◌}
use mathlib.Core.Bool.{Bool, true, false, cond}
use mathlib.Core.List.{List, [], ◌∷◌}
use mathlib.Core.Logic.{⊎_elim}
use mathlib.Core.Path.{◌≡◌, refl, sym, ap, subst, ◌∙◌}
use native.Mathlib.Numerals.{add-one}
use native.Mathlib.Omega.{arith}
use lib.Bits.{bit_or}
use lib.Dec.{eqb, ltb}
use lib.ListN.{length, drop, get_or, set, replicate, length-set}
use lib.Seq.{drop-cons, drop-length}
use borrow.Author.Tests.{ltb-true, ltb-false}
use Rattle.ground.proofs.Logic.{cases}
use Rattle.threshold_words.specs.Words.{threshold_sign_of, threshold_turn, threshold_spelled, threshold_whole, threshold_ended, threshold_said, threshold_closing, threshold_stopped}
use Rattle.threshold_words.specs.declared.Begun.{Begun}
use Rattle.threshold_words.specs.declared.Begun.TheVariants.{Fresh, Gap, Digits, Letters, Oh, Of, Odd, Return, Comment}
use Rattle.threshold_words.specs.declared.Sign.{Sign}
use Rattle.threshold_words.specs.declared.Sign.TheVariants.{Line, Note, Colon, Open, Close, Blank, Part}
use Rattle.threshold_words.specs.declared.Sign.TheVariants.{Return as Back}
use Rattle.threshold_words.specs.declared.Token.{Token}
use Rattle.threshold_words.specs.declared.Token.TheVariants.{Sites, Strange}
use Rattle.threshold_grammar.specs.Grammar.{ThresholdSane, threshold_own}
use Rattle.threshold_grammar.specs.declared.Deed.{Deed}
use Rattle.threshold_grammar.specs.declared.Deed.TheVariants.{Nothing, Root, Inner, Least, Site}
use Rattle.threshold_grammar.specs.declared.Spot.{Spot}
use Rattle.threshold_nesting.proofs.Saneness.{begins, ends, opens, told-after}
use Rattle.threshold_nesting.specs.Nesting.{threshold_spoken}
use Rattle.threshold_nesting.specs.declared.Held.{Held}
use Rattle.threshold_reading.specs.Inner.{Few}
use Rattle.threshold_reading.specs.Lines.{count_at, threshold_at, inner_at, plain_at, held, enacted}
use Rattle.threshold_reading.specs.Reading.{ThresholdHere, threshold_here, word_after, word_leaves, threshold_heard_as, threshold_hearing, threshold_read_on, threshold_start, threshold_finished, threshold_text_read}

pub sane-eq : {r s : Spot} → r ≡ s → ThresholdSane s → ThresholdSane r
sane-eq e f = subst (λ (x : Spot). ThresholdSane x) (sym e) f

-- a number that is put is below a bound, where what it replaces is no other number
pub set-lt : (l : List ℕ) (i a j b : ℕ) → get_or l j 0 < b → (j ≡ i → a < b) → get_or (set l i a) j 0 < b
set-lt [] i a j b h f = h
set-lt (x ∷ l) zero a zero b h f = f refl
set-lt (x ∷ l) zero a (suc j) b h f = h
set-lt (x ∷ l) (suc i) a zero b h f = h
set-lt (x ∷ l) (suc i) a (suc j) b h f = set-lt l i a j b h (λ e. f (ap suc e))

-- counts, thresholds and masks stand apart from the numbers of inner sets
order : (P : Type 0) (u v : ℕ) → (u < v → P) → (u ≡ v → P) → (v < u → P) → P
order P u v f g h =
    ⊎_elim (λ e. f (ltb-true u v e))
    (λ e. ⊎_elim (λ d. h (ltb-true v u d)) (λ d. let a = ltb-false u v e in let b = ltb-false v u d in g (omega arith)) (cases (ltb v u))) (cases (ltb u v))

apart-count : (u i v a k : ℕ) → i < 49 → 148 * u + (2 + 3 * i) ≡ 148 * v → a < k
apart-count u i v a k l e = order (a < k) u v (λ h. omega (arith, l, e, h)) (λ h. omega (arith, l, e, h)) (λ h. omega (arith, l, e, h))

apart-threshold : (u i v j a k : ℕ) → i < 49 → j < 49 → 148 * u + (2 + 3 * i) ≡ 148 * v + (1 + 3 * j) → a < k
apart-threshold u i v j a k l m e =
    order (a < k) u v (λ h. omega (arith, l, m, e, h))
    (λ h. order (a < k) i j (λ g. omega (arith, e, h, g)) (λ g. omega (arith, e, h, g)) (λ g. omega (arith, e, h, g))) (λ h. omega (arith, l, m, e, h))

apart-plain : (u i v j a k : ℕ) → i < 49 → j < 49 → 148 * u + (2 + 3 * i) ≡ 148 * v + (3 + 3 * j) → a < k
apart-plain u i v j a k l m e =
    order (a < k) u v (λ h. omega (arith, l, m, e, h))
    (λ h. order (a < k) i j (λ g. omega (arith, e, h, g)) (λ g. omega (arith, e, h, g)) (λ g. omega (arith, e, h, g))) (λ h. omega (arith, l, m, e, h))

-- a word begins at most so many inner sets
pub few-after : (d : Deed) (s : Spot) (t : List ℕ) (k : ℕ) → ThresholdSane s → Few k t → Few (k + begins d) (enacted d s t)
few-after Nothing s t k f w u i l = let h = w u i l in omega arith
few-after Root s t k f w u i l =
    let h = w u i l in
    set-lt t (count_at (threshold_own s.v)) 1 (inner_at u i) (k + 0) (omega arith) (apart-count u i (threshold_own s.v) 1 (k + 0) l)
few-after Inner s t k f w u i l =
    let h = w u i l in
    let g = w (threshold_own s.v) s.around f.3 in
    set-lt (set t (count_at (threshold_own s.v)) (s.set + 1)) (inner_at (threshold_own s.v) s.around) _ (inner_at u i) (k + 1)
    (set-lt t (count_at (threshold_own s.v)) (s.set + 1) (inner_at u i) (k + 1) (omega arith) (apart-count u i (threshold_own s.v) (s.set + 1) (k + 1) l)) (λ e. omega arith)
few-after (Least x) s t k f w u i l =
    let h = w u i l in
    set-lt t (threshold_at (threshold_own s.v) s.set) x (inner_at u i) (k + 0) (omega arith) (apart-threshold u i (threshold_own s.v) s.set x (k + 0) l f.2)
few-after (Site q) s t k f w u i l =
    let h = w u i l in
    set-lt t (plain_at (threshold_own s.v) s.set) (bit_or (get_or t (plain_at (threshold_own s.v) s.set) 0) q) (inner_at u i) (k + 0) (omega arith)
    (apart-plain u i (threshold_own s.v) s.set _ (k + 0) l f.2)

pub length-enacted : (d : Deed) (s : Spot) (t : List ℕ) → length (enacted d s t) ≡ length t
length-enacted Nothing s t = refl
length-enacted Root s t = length-set t _ _
length-enacted Inner s t = length-set (set t _ _) _ _ ∙ length-set t _ _
length-enacted (Least x) s t = length-set t _ _
length-enacted (Site q) s t = length-set t _ _

pub length-leaves : (k : Token) (s : Spot) (t : List ℕ) → length (word_leaves k s t) ≡ length t
unfolding word_leaves
length-leaves k s t = length-enacted (word_after k s t).deed (word_after k s t) t

-- one word
pub after-sane : (k : Token) (s : Spot) (t : List ℕ) → ThresholdSane s → ThresholdSane (word_after k s t)
unfolding word_after
after-sane k s t f = (told-after k (held s t) s f).sane

pub after_line : (k : Token) (s : Spot) (t : List ℕ) → ThresholdSane s → (word_after k s t).line ≤ s.line + ends k
unfolding word_after
after_line k s t f = (told-after k (held s t) s f).line

pub few-leaves : (k : Token) (s : Spot) (t : List ℕ) (b : ℕ) → ThresholdSane s → Few b t → Few (b + opens k) (word_leaves k s t)
unfolding word_leaves word_after
few-leaves k s t b f w u i l =
    let a = told-after k (held s t) s f in
    let h = few-after (word_after k s t).deed (word_after k s t) t b a.sane w u i l in
    omega (arith, h, a.begun)

pub stepped : (k : Token) (s r : Spot) (h : Held) (t x : List ℕ) → h ≡ held s t → r ≡ threshold_spoken k h s → x ≡ enacted r.deed r t
    → (r ≡ word_after k s t) × (x ≡ word_leaves k s t)
unfolding word_after word_leaves
stepped k s r h t x e f g =
    let z : r ≡ word_after k s t = f ∙ ap (λ (y : Held). threshold_spoken k y s) e in
    (z, g ∙ ap (λ (y : Spot). enacted y.deed y t) z)

-- a word passes no line end and opens no bracket
spelled-ends : (b : Bool) → (ends (cond b Sites Strange) ≡ 0) × (opens (cond b Sites Strange) ≡ 0)
spelled-ends true = (refl, refl)
spelled-ends false = (refl, refl)

whole-ends : (w : Begun) → (ends (threshold_whole w) ≡ 0) × (opens (threshold_whole w) ≡ 0)
unfolding threshold_spelled
whole-ends Fresh = (refl, refl)
whole-ends Gap = (refl, refl)
whole-ends (Digits x) = (refl, refl)
whole-ends (Letters k) = spelled-ends (eqb k 5)
whole-ends Oh = (refl, refl)
whole-ends Of = (refl, refl)
whole-ends Odd = (refl, refl)
whole-ends Return = (refl, refl)
whole-ends Comment = (refl, refl)

pub word-ends : (c : Sign) (w : Begun) → (ends (threshold_ended c w) ≡ 0) × (opens (threshold_ended c w) ≡ 0)
word-ends Line w = whole-ends w
word-ends Note w = whole-ends w
word-ends Colon w = whole-ends w
word-ends Open w = whole-ends w
word-ends Close w = whole-ends w
word-ends Back w = whole-ends w
word-ends Blank w = whole-ends w
word-ends Part w = (refl, refl)

pub sign-ends : (c : Sign) → (ends (threshold_said c) ≤ 1) × (opens (threshold_said c) ≤ 1)
sign-ends Line = (omega arith, omega arith)
sign-ends Note = (omega arith, omega arith)
sign-ends Colon = (omega arith, omega arith)
sign-ends Open = (omega arith, omega arith)
sign-ends Close = (omega arith, omega arith)
sign-ends Back = (omega arith, omega arith)
sign-ends Blank = (omega arith, omega arith)
sign-ends Part = (omega arith, omega arith)

-- what the first word of a byte leaves
module _ (c : Sign) (w : Begun) (s s₁ : Spot) (t t₁ : List ℕ) (k : Token) (ek : k ≡ threshold_ended c w) (e₁ : s₁ ≡ word_after k s t) (e₂ : t₁ ≡ word_leaves k s t) (f : ThresholdSane s) where
  pub sane₁ : ThresholdSane s₁
  sane₁ = sane-eq e₁ (after-sane k s t f)

  pub line₁ : s₁.line ≤ s.line
  line₁ = omega (arith, ap (λ (z : Spot). z.line) e₁, after_line k s t f, ap ends ek, (word-ends c w).0)

  pub few₁ : (b : ℕ) → Few b t → Few b t₁
  few₁ b g u i l = let h = few-leaves k s t b f g u i l in omega (arith, h, ap opens ek, (word-ends c w).1, ap (λ (x : List ℕ). get_or x (inner_at u i) 0) e₂)

  pub length₁ : length t₁ ≡ length t
  length₁ = ap length e₂ ∙ length-leaves k s t

  pub byte : (r : Spot) (u : List ℕ) (l : Token) → l ≡ threshold_said c → r ≡ word_after l s₁ t₁ → u ≡ word_leaves l s₁ t₁ → (r ≡ (threshold_heard_as c w s t).0) × (u ≡ (threshold_heard_as c w s t).1)
  unfolding threshold_heard_as
  byte r u l el p q =
      let a : s₁ ≡ word_after (threshold_ended c w) s t = e₁ ∙ ap (λ (y : Token). word_after y s t) ek in
      let b : t₁ ≡ word_leaves (threshold_ended c w) s t = e₂ ∙ ap (λ (y : Token). word_leaves y s t) ek in (
        p ∙ ap (λ (y : Token). word_after y s₁ t₁) el ∙ ap (λ (y : Spot). word_after (threshold_said c) y t₁) a ∙ ap (word_after (threshold_said c) (word_after (threshold_ended c w) s t)) b,
        q ∙ ap (λ (y : Token). word_leaves y s₁ t₁) el ∙ ap (λ (y : Spot). word_leaves (threshold_said c) y t₁) a ∙ ap (word_leaves (threshold_said c) (word_after (threshold_ended c w) s t)) b,
      )

-- a byte leaves the spot sane, one line further at most, and begins one inner set at most
pub heard-after : (c : Sign) (w : Begun) (s : Spot) (t : List ℕ) → ThresholdSane s → ThresholdSane (threshold_heard_as c w s t).0 × ((threshold_heard_as c w s t).0.line ≤ s.line + 1)
unfolding threshold_heard_as
heard-after c w s t f =
    let u = word_after (threshold_ended c w) s t in
    let l = word_leaves (threshold_ended c w) s t in
    let a = after-sane (threshold_ended c w) s t f in
    (after-sane (threshold_said c) u l a, omega (arith, after_line (threshold_ended c w) s t f, after_line (threshold_said c) u l a, (word-ends c w).0, (sign-ends c).0))

pub heard-few : (c : Sign) (w : Begun) (s : Spot) (t : List ℕ) (b : ℕ) → ThresholdSane s → Few b t → Few (b + 1) (threshold_heard_as c w s t).1
unfolding threshold_heard_as
heard-few c w s t b f g u i l =
    let x = word_after (threshold_ended c w) s t in
    let y = word_leaves (threshold_ended c w) s t in
    let h = few-leaves (threshold_said c) x y (b + opens (threshold_ended c w)) (after-sane (threshold_ended c w) s t f) (few-leaves (threshold_ended c w) s t b f g) u i l in
    omega (arith, h, (word-ends c w).1, (sign-ends c).1)

pub heard-length : (c : Sign) (w : Begun) (s : Spot) (t : List ℕ) → length (threshold_heard_as c w s t).1 ≡ length t
unfolding threshold_heard_as
heard-length c w s t = length-leaves (threshold_said c) (word_after (threshold_ended c w) s t) (word_leaves (threshold_ended c w) s t) ∙ length-leaves (threshold_ended c w) s t

-- byte after byte: what is left to read gives what the whole text gives
pub read_step : (h : ThresholdHere) (text : List ℕ) (i : ℕ) → i < length text → threshold_read_on h (drop i text) ≡ threshold_read_on (threshold_hearing h (get_or text i 0)) (drop (i + 1) text)
unfolding threshold_read_on
read_step h text i l = ap (threshold_read_on h) (drop-cons text i 0 l) ∙ ap (λ (j : ℕ). threshold_read_on (threshold_hearing h (get_or text i 0)) (drop j text)) (sym (add-one i))

pub read-end : (h : ThresholdHere) (text : List ℕ) (i : ℕ) → i ≡ length text → threshold_read_on h (drop i text) ≡ h
unfolding threshold_read_on
read-end h text i e = ap (λ (j : ℕ). threshold_read_on h (drop j text)) e ∙ ap (threshold_read_on h) (drop-length text)

pub whole-step : (h : ThresholdHere) (b : ℕ) (c : Sign) (w : Begun) (s : Spot) (t : List ℕ) → c ≡ threshold_sign_of h.word b → w ≡ threshold_turn c h.word b
    → s ≡ (threshold_heard_as c h.word h.spot h.lines).0 → t ≡ (threshold_heard_as c h.word h.spot h.lines).1 → threshold_here w s t ≡ threshold_hearing h b
unfolding threshold_hearing
whole-step h b c w s t e₁ e₂ e₃ e₄ = cc

pub walk_step : (w w₂ : Begun) (s s₂ : Spot) (t t₂ text : List ℕ) (i b : ℕ) (c : Sign) (G : ThresholdHere) → i < length text → threshold_read_on (threshold_here w s t) (drop i text) ≡ G
    → b ≡ get_or text i 0 → c ≡ threshold_sign_of w b → s₂ ≡ (threshold_heard_as c w s t).0 → t₂ ≡ (threshold_heard_as c w s t).1 → w₂ ≡ threshold_turn c w b
    → threshold_read_on (threshold_here w₂ s₂ t₂) (drop (i + 1) text) ≡ G
walk_step w w₂ s s₂ t t₂ text i b c G l g e e₀ e₁ e₂ e₃ =
    ap (λ (x : ThresholdHere). threshold_read_on x (drop (i + 1) text)) (whole-step (threshold_here w s t) b c w₂ s₂ t₂ e₀ e₃ e₁ e₂)
    ∙ ap (λ (x : ℕ). threshold_read_on (threshold_hearing (threshold_here w s t) x) (drop (i + 1) text)) e
    ∙ sym (read_step (threshold_here w s t) text i l) ∙ g

pub walk_end : (w v : Begun) (c : Sign) (s r : Spot) (t t₀ u text : List ℕ) (i : ℕ) → i ≡ length text
    → threshold_read_on (threshold_here w s t) (drop i text) ≡ threshold_read_on (threshold_here Fresh threshold_start t₀) text → c ≡ threshold_closing w → v ≡ threshold_stopped w
    → r ≡ (threshold_heard_as c v s t).0 → u ≡ (threshold_heard_as c v s t).1 → (r ≡ (threshold_text_read text t₀).spot) × (u ≡ (threshold_text_read text t₀).lines)
unfolding threshold_text_read threshold_finished
walk_end w v c s r t t₀ u text i e g e₁ e₂ p q =
    let z : threshold_here w s t ≡ threshold_read_on (threshold_here Fresh threshold_start t₀) text = sym (read-end (threshold_here w s t) text i e) ∙ g in
    let y : threshold_heard_as c v s t ≡ threshold_heard_as (threshold_closing w) (threshold_stopped w) s t = ap (λ (x : Sign). threshold_heard_as x v s t) e₁ ∙ ap (λ (x : Begun). threshold_heard_as (threshold_closing w) x s t) e₂ in
    (p ∙ ap (λ (x : Spot × List ℕ). x.0) y ∙ ap (λ (x : ThresholdHere). (threshold_finished x).spot) z, q ∙ ap (λ (x : Spot × List ℕ). x.1) y ∙ ap (λ (x : ThresholdHere). (threshold_finished x).lines) z)

read-sane : (l : List ℕ) (h : ThresholdHere) → ThresholdSane h.spot → ThresholdSane (threshold_read_on h l).spot
unfolding threshold_read_on threshold_hearing
read-sane [] h f = f
read-sane (b ∷ l) h f = read-sane l (threshold_hearing h b) (heard-after (threshold_sign_of h.word b) h.word h.spot h.lines f).0

pub start-sane : ThresholdSane threshold_start
start-sane = (omega arith, omega arith, omega arith, omega arith, omega arith)

-- a text never names more than 64 sites
pub text-sane : (text zeros : List ℕ) → ThresholdSane (threshold_text_read text zeros).spot
unfolding threshold_text_read threshold_finished
text-sane text zeros =
    let h = threshold_read_on (threshold_here Fresh threshold_start zeros) text in
    (heard-after (threshold_closing h.word) (threshold_stopped h.word) h.spot h.lines (read-sane text (threshold_here Fresh threshold_start zeros) start-sane)).0

read_length : (l : List ℕ) (h : ThresholdHere) → length (threshold_read_on h l).lines ≡ length h.lines
unfolding threshold_read_on threshold_hearing
read_length [] h = refl
read_length (b ∷ l) h = read_length l (threshold_hearing h b) ∙ heard-length (threshold_sign_of h.word b) h.word h.spot h.lines

pub text-length : (text zeros : List ℕ) → length (threshold_text_read text zeros).lines ≡ length zeros
unfolding threshold_text_read threshold_finished
text-length text zeros =
    let h = threshold_read_on (threshold_here Fresh threshold_start zeros) text in
    heard-length (threshold_closing h.word) (threshold_stopped h.word) h.spot h.lines ∙ read_length text (threshold_here Fresh threshold_start zeros)

pub zero-at : (n j : ℕ) → ◌≡◌ {A = ℕ} (get_or (replicate n 0) j 0) 0
zero-at zero j = refl
zero-at (suc n) zero = refl
zero-at (suc n) (suc j) = zero-at n j
