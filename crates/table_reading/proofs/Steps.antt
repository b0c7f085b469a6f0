-- The code's steps are those of the definition.
use Rattle.std.specs.Prelude.{Ok, Err}
use Prim.Native.Nat.{ℕ, ◌+◌, ◌-◌, ◌*◌, ◌≤◌, ◌<◌}
use mathlib.Core.Bool.{Bool, true, false, cond}
use mathlib.Core.List.{List, [], ◌∷◌, ◌++◌}
use mathlib.Core.Path.{◌≡◌, refl, sym, ap, subst, ◌∙◌}
use native.Mathlib.Numerals.{add-one}
use native.Mathlib.Omega.{arith}
use lib.Dec.{eqb, ltb}
use lib.ListN.{length, take, drop, get_or}
use lib.Seq.{drop-cons, drop-length, drop-drop}
use borrow.Author.Tests.{ltb-false}
use Rattle.ground.proofs.Pieces.{part_cut}
use Rattle.ground.specs.Pieces.{part}
use Rattle.group_order.specs.Joined.{joined}
use Rattle.refusals.specs.Check.{Check}
use Rattle.refusals.proofs.First.{missed}
use Rattle.refusals.specs.declared.Refusal.{Refusal}
use Rattle.rows.specs.Site.{count}
use Rattle.table_words.specs.Words.{sign_of, turn, spelled, whole, ended, said, closing, stopped}
use Rattle.table_words.specs.declared.Begun.{Begun}
use Rattle.table_words.specs.declared.Begun.TheVariants.{Fresh, Gap, Digits, Letters, Odd, Return, Comment}
use Rattle.table_words.specs.declared.Sign.{Sign}
use Rattle.table_words.specs.declared.Sign.TheVariants.{Line, Note, Colon, Bar, Blank, Part}
use Rattle.table_words.specs.declared.Sign.TheVariants.{Return as Back}
use Rattle.table_words.specs.declared.Token.{Token}
use Rattle.table_words.specs.declared.Token.TheVariants.{Sites, Strange}
use Rattle.table_grammar.specs.Grammar.{Sane, at, own, spoken}
use Rattle.table_grammar.specs.declared.Phase.TheVariants.{Wrong}
use Rattle.table_grammar.specs.declared.Why.TheVariants.{Rule}
use Rattle.table_grammar.specs.declared.Spot.{Spot}
use Rattle.table_grammar.proofs.Saneness.{ends, told-after}
use Rattle.table_reading.specs.Groups.{group_check, closes, check_of, ruled, entered, spot_after, table_after, judged, kept}
use Rattle.table_reading.specs.Reading.{Here, here, full, heard_as, hearing, read_on, start, finished, text_read}

pub sane-eq : {r s : Spot} → r ≡ s → Sane s → Sane r
sane-eq e f = subst (λ (x : Spot). Sane x) (sym e) f

-- a group that is not refused finds a place
pub few : (v q : ℕ) (m : List ℕ) → group_check v q m ≡ Ok tt → count m < 62
unfolding group_check
few v q m e = let h = ltb-false 61 (count m) (missed (ltb 61 (count m)) _ _ e).0 in omega arith

abbrev pub cut : ℕ → List ℕ → List ℕ
cut u t = take (63 * u + 63 - 63 * u) (drop (63 * u) t)

module _ (s : Spot) (t : List ℕ) (u : ℕ) (p : Check) (o : u ≡ own s.v) (f : p ≡ group_check u s.q (cut u t)) where
  same : p ≡ check_of s t
  unfolding check_of
  same = f ∙ ap (group_check u s.q) (part_cut 63 u t) ∙ ap (λ (x : ℕ). group_check x s.q (part 63 x t)) o

  pub few-here : p ≡ Ok tt → count (cut u t) < 62
  few-here e = few u s.q (cut u t) (sym f ∙ e)

  behind : drop (63 * u + 63 - 63 * u) (drop (63 * u) t) ≡ drop (63 * u + 63) t
  behind =
      let e : 63 * u + (63 * u + 63 - 63 * u) ≡ 63 * u + 63 = omega arith in
      drop-drop (63 * u + 63 - 63 * u) (63 * u) t ∙ ap (λ (k : ℕ). drop k t) e

  pub joins : (x : List ℕ) → p ≡ Ok tt → x ≡ joined s.q (cut u t)
      → (s ≡ spot_after s t) × (take (63 * u) t ++ (x ++ drop (63 * u + 63 - 63 * u) (drop (63 * u) t)) ≡ table_after s t)
  joins x e j =
      let z : check_of s t ≡ Ok tt = sym same ∙ e in (
        sym (ap (λ (c : Check). ruled c s) z),
        rw (j, part_cut 63 u t, behind) (ap (λ (k : ℕ). take (63 * k) t ++ (joined s.q (part 63 k t) ++ drop (63 * k + 63) t)) o)
            ∙ sym (ap (λ (c : Check). entered c s t) z),
      )

  pub stops : (x : Spot) (r : Refusal) → p ≡ Err r → x ≡ at s (Wrong (Rule r)) → (x ≡ spot_after s t) × (t ≡ table_after s t)
  stops x r e j =
      let z : check_of s t ≡ Err r = sym same ∙ e in
      (j ∙ sym (ap (λ (c : Check). ruled c s) z), sym (ap (λ (c : Check). entered c s t) z))

pub complete : (s : Spot) (k : Token) (t : List ℕ) → closes s.phase k ≡ true → (spot_after s t ≡ judged s k t) × (table_after s t ≡ kept s k t)
unfolding judged kept
complete s k t e = (rw e refl, rw e refl)

pub undone : (s : Spot) (k : Token) (t : List ℕ) → closes s.phase k ≡ false → (s ≡ judged s k t) × (t ≡ kept s k t)
unfolding judged kept
undone s k t e = (rw e refl, rw e refl)

-- a word passes no line end
spelled-ends : (b : Bool) → ends (cond b Sites Strange) ≡ 0
spelled-ends true = refl
spelled-ends false = refl

whole-ends : (w : Begun) → ends (whole w) ≡ 0
unfolding spelled
whole-ends Fresh = refl
whole-ends Gap = refl
whole-ends (Digits x) = refl
whole-ends (Letters k) = spelled-ends (eqb k 5)
whole-ends Odd = refl
whole-ends Return = refl
whole-ends Comment = refl

word-ends : (c : Sign) (w : Begun) → ends (ended c w) ≡ 0
word-ends Line w = whole-ends w
word-ends Note w = whole-ends w
word-ends Colon w = whole-ends w
word-ends Bar w = whole-ends w
word-ends Back w = whole-ends w
word-ends Blank w = whole-ends w
word-ends Part w = refl

sign-ends : (c : Sign) → ends (said c) ≤ 1
sign-ends Line = omega arith
sign-ends Note = omega arith
sign-ends Colon = omega arith
sign-ends Bar = omega arith
sign-ends Back = omega arith
sign-ends Blank = omega arith
sign-ends Part = omega arith

-- a group that is judged leaves the spot sane, in the same line
ruled-sane : (c : Check) (s : Spot) → Sane s → Sane (ruled c s)
ruled-sane (Ok _) s f = f
ruled-sane (Err r) s f = f

ruled-line : (c : Check) (s : Spot) → (ruled c s).line ≡ s.line
ruled-line (Ok _) s = refl
ruled-line (Err r) s = refl

pub judged-sane : (s : Spot) (k : Token) (t : List ℕ) → Sane s → Sane (judged s k t)
unfolding judged
judged-sane s k t f = pick (closes s.phase k)
  where
    pick : (b : Bool) → Sane (cond b (spot_after s t) s)
    pick true = ruled-sane (check_of s t) s f
    pick false = f

pub judged-line : (s : Spot) (k : Token) (t : List ℕ) → (judged s k t).line ≡ s.line
unfolding judged
judged-line s k t = pick (closes s.phase k)
  where
    pick : (b : Bool) → (cond b (spot_after s t) s).line ≡ s.line
    pick true = ruled-line (check_of s t) s
    pick false = refl

module _ (c : Sign) (w : Begun) (s s₁ s₂ : Spot) (t : List ℕ) (x : ℕ) (g : Bool) (k l : Token) (i : x ≡ own s.v) (j : g ≡ ltb 61 (get_or t (63 * x) 0))
    (ek : k ≡ ended c w) (e₁ : s₁ ≡ spoken k g s) (el : l ≡ said c) (f : Sane s) where
  pub sane₁ : Sane s₁
  sane₁ = sane-eq e₁ (told-after k g s f).sane

  line₁ : s₁.line ≤ s.line
  line₁ = omega (arith, ap (λ (z : Spot). z.line) e₁, (told-after k g s f).line, ap ends ek, word-ends c w)

  pub sane₂ : s₂ ≡ judged s₁ l t → Sane s₂
  sane₂ e₂ = sane-eq e₂ (judged-sane s₁ l t sane₁)

  pub line₂ : s₂ ≡ judged s₁ l t → s₂.line ≤ s.line
  line₂ e₂ = omega (arith, line₁, ap (λ (z : Spot). z.line) e₂, judged-line s₁ l t)

  pub byte : (r : Spot) (u : List ℕ) → s₂ ≡ judged s₁ l t → u ≡ kept s₁ l t → r ≡ spoken l g s₂ → (r ≡ (heard_as c w s t).0) × (u ≡ (heard_as c w s t).1)
  unfolding heard_as
  byte r u e₂ e₃ e₄ =
      let m : g ≡ full s t = j ∙ ap (λ (y : ℕ). ltb 61 (get_or t (63 * y) 0)) i in
      let a : s₁ ≡ spoken (ended c w) (full s t) s = e₁ ∙ ap (λ (y : Token). spoken y g s) ek ∙ ap (λ (y : Bool). spoken (ended c w) y s) m in
      let b : judged s₁ l t ≡ judged (spoken (ended c w) (full s t) s) (said c) t = ap (λ (y : Spot). judged y l t) a
      ∙ ap (λ (y : Token). judged (spoken (ended c w) (full s t) s) y t) el in (
        e₄ ∙ ap (λ (y : Token). spoken y g s₂) el ∙ ap (λ (y : Bool). spoken (said c) y s₂) m ∙ ap (spoken (said c) (full s t)) (e₂ ∙ b),
        e₃ ∙ ap (λ (y : Spot). kept y l t) a ∙ ap (λ (y : Token). kept (spoken (ended c w) (full s t) s) y t) el,
      )

-- a byte leaves the spot sane, one line further at most
pub heard-after : (c : Sign) (w : Begun) (s : Spot) (t : List ℕ) → Sane s → Sane (heard_as c w s t).0 × ((heard_as c w s t).0.line ≤ s.line + 1)
unfolding heard_as
heard-after c w s t f =
    let u = spoken (ended c w) (full s t) s in
    let a = told-after (ended c w) (full s t) s f in
    let b = told-after (said c) (full s t) (judged u (said c) t) (judged-sane u (said c) t a.sane) in
    (b.sane, omega (arith, a.line, b.line, judged-line u (said c) t, word-ends c w, sign-ends c))

-- byte after byte: what is left to read gives what the whole text gives
pub read_step : (h : Here) (text : List ℕ) (i : ℕ) → i < length text → read_on h (drop i text) ≡ read_on (hearing h (get_or text i 0)) (drop (i + 1) text)
unfolding read_on
read_step h text i l = ap (read_on h) (drop-cons text i 0 l) ∙ ap (λ (j : ℕ). read_on (hearing h (get_or text i 0)) (drop j text)) (sym (add-one i))

pub read-end : (h : Here) (text : List ℕ) (i : ℕ) → i ≡ length text → read_on h (drop i text) ≡ h
unfolding read_on
read-end h text i e = ap (λ (j : ℕ). read_on h (drop j text)) e ∙ ap (read_on h) (drop-length text)

pub whole-step : (h : Here) (b : ℕ) (c : Sign) (w : Begun) (s : Spot) (t : List ℕ) → c ≡ sign_of h.word b → w ≡ turn c h.word b
    → s ≡ (heard_as c h.word h.spot h.table).0 → t ≡ (heard_as c h.word h.spot h.table).1 → here w s t ≡ hearing h b
unfolding hearing
whole-step h b c w s t e₁ e₂ e₃ e₄ = cc

pub walk_step : (w w₂ : Begun) (s s₂ : Spot) (t t₂ text : List ℕ) (i b : ℕ) (c : Sign) (G : Here) → i < length text → read_on (here w s t) (drop i text) ≡ G
    → b ≡ get_or text i 0 → c ≡ sign_of w b → s₂ ≡ (heard_as c w s t).0 → t₂ ≡ (heard_as c w s t).1 → w₂ ≡ turn c w b
    → read_on (here w₂ s₂ t₂) (drop (i + 1) text) ≡ G
walk_step w w₂ s s₂ t t₂ text i b c G l g e e₀ e₁ e₂ e₃ =
    ap (λ (x : Here). read_on x (drop (i + 1) text)) (whole-step (here w s t) b c w₂ s₂ t₂ e₀ e₃ e₁ e₂)
    ∙ ap (λ (x : ℕ). read_on (hearing (here w s t) x) (drop (i + 1) text)) e
    ∙ sym (read_step (here w s t) text i l) ∙ g

pub walk_end : (w v : Begun) (c : Sign) (s r : Spot) (t t₀ u text : List ℕ) (i : ℕ) → i ≡ length text
    → read_on (here w s t) (drop i text) ≡ read_on (here Fresh start t₀) text → c ≡ closing w → v ≡ stopped w
    → r ≡ (heard_as c v s t).0 → u ≡ (heard_as c v s t).1 → (r ≡ (text_read text t₀).spot) × (u ≡ (text_read text t₀).table)
unfolding text_read finished
walk_end w v c s r t t₀ u text i e g e₁ e₂ p q =
    let z : here w s t ≡ read_on (here Fresh start t₀) text = sym (read-end (here w s t) text i e) ∙ g in
    let y : heard_as c v s t ≡ heard_as (closing w) (stopped w) s t = ap (λ (x : Sign). heard_as x v s t) e₁ ∙ ap (λ (x : Begun). heard_as (closing w) x s t) e₂ in
    (p ∙ ap (λ (x : Spot × List ℕ). x.0) y ∙ ap (λ (x : Here). (finished x).spot) z, q ∙ ap (λ (x : Spot × List ℕ). x.1) y ∙ ap (λ (x : Here). (finished x).table) z)

read-sane : (l : List ℕ) (h : Here) → Sane h.spot → Sane (read_on h l).spot
unfolding read_on hearing
read-sane [] h f = f
read-sane (b ∷ l) h f = read-sane l (hearing h b) (heard-after (sign_of h.word b) h.word h.spot h.table f).0

-- a text never names more than 64 sites
pub text-sane : (text zeros : List ℕ) → Sane (text_read text zeros).spot
unfolding text_read finished
text-sane text zeros =
    let h = read_on (here Fresh start zeros) text in
    (heard-after (closing h.word) (stopped h.word) h.spot h.table (read-sane text (here Fresh start zeros) (omega arith, omega arith))).0
