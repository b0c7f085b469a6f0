-- Every word keeps what holds of the lines, and so does a text.
use Prim.Native.Nat.{ℕ, ◌+◌, ◌-◌}
use mathlib.Core.Bool.{Bool, true, false, ◌||◌, not, cond}
use mathlib.Core.List.{List, [], ◌∷◌}
use mathlib.Core.Path.{◌≡◌, refl, subst, ◌∙◌}
use native.Mathlib.Omega.{arith}
use lib.Dec.{eqb, ltb}
use lib.ListN.{length, replicate, length-replicate}
use borrow.Author.Tests.{ltb-true, ltb-false, not-false}
use Rattle.ground.proofs.Logic.{or-none}
use Rattle.masks.specs.Mask.{has}
use Rattle.threshold_words.specs.Words.{threshold_sign_of, threshold_ended, threshold_said, threshold_closing, threshold_stopped}
use Rattle.threshold_words.specs.declared.Begun.TheVariants.{Fresh}
use Rattle.threshold_words.specs.declared.Begun as Word
use Rattle.threshold_words.specs.declared.Sign.{Sign}
use Rattle.threshold_words.specs.declared.Token.{Token}
use Rattle.threshold_words.specs.declared.Token.TheVariants.{Silence, Sites, Number, Colon, Open, Close, End, Strange}
use Rattle.threshold_words.specs.declared.Token.TheVariants.{Of as TheOf}
use Rattle.threshold_grammar.specs.Grammar.{ThresholdSane, spot_at, outside, threshold_missed, threshold_many, threshold_owner, threshold_sited, linked, threshold_coloned}
use Rattle.threshold_grammar.specs.declared.Phase.{Phase}
use Rattle.threshold_grammar.specs.declared.Phase.TheVariants.{Head, Count, Tail, Owner, Mark, Threshold, Of, Members, Wrong}
use Rattle.threshold_grammar.specs.declared.Spot.{Spot}
use Rattle.threshold_nesting.specs.Nesting.{unreached, threshold_member, set_opened, set_closed, set_completed, threshold_numbered, bracket_opens, bracket_closes as bracketed, threshold_line_end, threshold_spoken}
use Rattle.threshold_reading.proofs.Steps.{after-sane, length-leaves, start-sane, zero-at}
use Rattle.threshold_reading.specs.Lines.{count_at, threshold_at, inner_at, plain_at, held}
use Rattle.threshold_reading.specs.Reading.{ThresholdHere, threshold_here, word_after, word_leaves, threshold_heard_as, threshold_hearing, threshold_read_on, threshold_start, threshold_finished, threshold_text_read}
use Rattle.threshold_sound.proofs.Lines.{Done, Left, Begun, Good, Better, missed-good, rooted, moved, least-good, site-good, inner-good, back-good, end-good}

module _ (s : Spot) (t : List ℕ) (sane : ThresholdSane s) (long : length t ≡ 9472) where
  either : (b : Bool) (x y : Spot) → (b ≡ true → Better x t) → (b ≡ false → Better y t) → Better (cond b x y) t
  either true x y f g = f refl
  either false x y f g = g refl

  many-good : (x : ℕ) → Left 0 t → Better (threshold_many s x) t
  unfolding threshold_many
  many-good x f =
      either (ltb x 1 || ltb 64 x) (threshold_missed s) (outside s.line x 0 Tail) (λ e. missed-good s t sane long)
      (λ e. (ltb-false x 1 (or-none (ltb x 1) (ltb 64 x) e).0, (λ u h. absurd (omega (arith, h))), f))

  owner-good : (x : ℕ) → Good Owner s t → Better (threshold_owner s x) t
  unfolding threshold_owner
  owner-good x f =
      let e : s.v ≡ s.v + 1 - 1 = omega arith in
      either (not (ltb x s.n) || not (eqb x s.v)) (threshold_missed s) (outside s.line s.n (s.v + 1) Mark) (λ y. missed-good s t sane long)
      (λ y. (omega arith, subst (λ (k : ℕ). Done s.n k t) e f.1, subst (λ (k : ℕ). Left k t) e f.2, (refl, refl, refl, refl)))

  member-good : (x : ℕ) → Begun s t → Better (threshold_member s (held s t) x) t
  unfolding threshold_member
  member-good x f =
      either (not (ltb x s.n)) _ _ (λ e. omega arith)
      (λ e. either (has (held s t).plain x) _ _ (λ y. omega arith) (λ y. site-good s t sane long x (ltb-true x s.n (not-false (ltb x s.n) e)) f))

  opened-good : Begun s t → Better (set_opened s (held s t)) t
  unfolding set_opened
  opened-good f =
      either (ltb 48 (held s t).sets) _ _ (λ e. omega arith)
      (λ e. either (ltb 3 s.depth) _ _ (λ y. omega arith) (λ y. inner-good s t sane long (ltb-false 48 (held s t).sets e) (ltb-false 3 s.depth y) f))

  closed-good : Begun s t → Better (set_closed s (held s t)) t
  unfolding set_closed
  closed-good f =
      either (not (ltb 1 s.depth)) _ _ (λ e. missed-good s t sane long)
      (λ e. either (unreached (held s t)) _ _ (λ y. omega arith) (λ y. back-good s t sane long (ltb-true 1 s.depth (not-false (ltb 1 s.depth) e)) y f))

  completed-good : Begun s t → Better (set_completed s (held s t)) t
  unfolding set_completed
  completed-good f =
      either (ltb 1 s.depth) _ _ (λ e. missed-good s t sane long)
      (λ e. either (unreached (held s t)) _ _ (λ y. omega arith)
      (λ y. let g = end-good s t sane long (ltb-false 1 s.depth e) y f in (omega (arith, f.0, sane.1), g.0, g.1)))

  in-numbered : (p : Phase) (x : ℕ) → Good p s t → Better (threshold_numbered p s (held s t) x) t
  in-numbered Head x f = missed-good s t sane long
  in-numbered Count x f = many-good x f
  in-numbered Tail x f = missed-good s t sane long
  in-numbered Owner x f = owner-good x f
  in-numbered Mark x f = missed-good s t sane long
  in-numbered Threshold x f = least-good s t sane long x f
  in-numbered Of x f = missed-good s t sane long
  in-numbered Members x f = member-good x f
  in-numbered (Wrong w) x f = missed-good s t sane long

  in-sited : (p : Phase) → Good p s t → Better (threshold_sited p s) t
  in-sited Head f = f
  in-sited Count f = missed-good s t sane long
  in-sited Tail f = missed-good s t sane long
  in-sited Owner f = missed-good s t sane long
  in-sited Mark f = missed-good s t sane long
  in-sited Threshold f = missed-good s t sane long
  in-sited Of f = missed-good s t sane long
  in-sited Members f = missed-good s t sane long
  in-sited (Wrong w) f = missed-good s t sane long

  in-linked : (p : Phase) → Good p s t → Better (linked p s) t
  in-linked Head f = missed-good s t sane long
  in-linked Count f = missed-good s t sane long
  in-linked Tail f = missed-good s t sane long
  in-linked Owner f = missed-good s t sane long
  in-linked Mark f = missed-good s t sane long
  in-linked Threshold f = missed-good s t sane long
  in-linked Of f = moved s t sane long Members f
  in-linked Members f = missed-good s t sane long
  in-linked (Wrong w) f = missed-good s t sane long

  in-coloned : (p : Phase) → Good p s t → Better (threshold_coloned p s) t
  in-coloned Head f = missed-good s t sane long
  in-coloned Count f = missed-good s t sane long
  in-coloned Tail f = missed-good s t sane long
  in-coloned Owner f = missed-good s t sane long
  in-coloned Mark f = rooted s t sane long f
  in-coloned Threshold f = missed-good s t sane long
  in-coloned Of f = missed-good s t sane long
  in-coloned Members f = missed-good s t sane long
  in-coloned (Wrong w) f = missed-good s t sane long

  in_opening : (p : Phase) → Good p s t → Better (bracket_opens p s (held s t)) t
  in_opening Head f = missed-good s t sane long
  in_opening Count f = missed-good s t sane long
  in_opening Tail f = missed-good s t sane long
  in_opening Owner f = missed-good s t sane long
  in_opening Mark f = missed-good s t sane long
  in_opening Threshold f = missed-good s t sane long
  in_opening Of f = missed-good s t sane long
  in_opening Members f = opened-good f
  in_opening (Wrong w) f = missed-good s t sane long

  in-closing : (p : Phase) → Good p s t → Better (bracketed p s (held s t)) t
  in-closing Head f = missed-good s t sane long
  in-closing Count f = missed-good s t sane long
  in-closing Tail f = missed-good s t sane long
  in-closing Owner f = missed-good s t sane long
  in-closing Mark f = missed-good s t sane long
  in-closing Threshold f = missed-good s t sane long
  in-closing Of f = missed-good s t sane long
  in-closing Members f = closed-good f
  in-closing (Wrong w) f = missed-good s t sane long

  in_end : (p : Phase) → Good p s t → Better (threshold_line_end p s (held s t)) t
  in_end Head f = f
  in_end Count f = missed-good s t sane long
  in_end Tail f = f
  in_end Owner f = f
  in_end Mark f = missed-good s t sane long
  in_end Threshold f = missed-good s t sane long
  in_end Of f = missed-good s t sane long
  in_end Members f = completed-good f
  in_end (Wrong w) f = missed-good s t sane long

  silent : (p : Phase) → Good p s t → Good p (spot_at s p) t
  silent Head f = f
  silent Count f = f
  silent Tail f = f
  silent Owner f = f
  silent Mark f = f
  silent Threshold f = moved s t sane long Threshold f
  silent Of f = moved s t sane long Of f
  silent Members f = moved s t sane long Members f
  silent (Wrong w) f = f

  told : (k : Token) → Good s.phase s t → Better (threshold_spoken k (held s t) s) t
  told Silence f = silent s.phase f
  told Sites f = in-sited s.phase f
  told TheOf f = in-linked s.phase f
  told (Number x) f = in-numbered s.phase x f
  told Colon f = in-coloned s.phase f
  told Open f = in_opening s.phase f
  told Close f = in-closing s.phase f
  told End f = in_end s.phase f
  told Strange f = missed-good s t sane long

  pub word_good : (k : Token) → Good s.phase s t → Good (word_after k s t).phase (word_after k s t) (word_leaves k s t)
  unfolding word_after word_leaves
  word_good k f = told k f

-- what holds of a reading
pub record Keeps (s : Spot) (t : List ℕ) : Type 0 where
  pub sane : ThresholdSane s
  pub long : length t ≡ 9472
  pub good : Good s.phase s t

word_keeps : (k : Token) (s : Spot) (t : List ℕ) → Keeps s t → Keeps (word_after k s t) (word_leaves k s t)
word_keeps k s t f = record {
  sane = after-sane k s t f.sane;
  long = length-leaves k s t ∙ f.long;
  good = word_good s t f.sane f.long k f.good;
}

byte-keeps : (c : Sign) (w : Word.Begun) (s : Spot) (t : List ℕ) → Keeps s t → Keeps (threshold_heard_as c w s t).0 (threshold_heard_as c w s t).1
unfolding threshold_heard_as
byte-keeps c w s t f = word_keeps (threshold_said c) (word_after (threshold_ended c w) s t) (word_leaves (threshold_ended c w) s t) (word_keeps (threshold_ended c w) s t f)

read_keeps : (l : List ℕ) (h : ThresholdHere) → Keeps h.spot h.lines → Keeps (threshold_read_on h l).spot (threshold_read_on h l).lines
unfolding threshold_read_on threshold_hearing
read_keeps [] h f = f
read_keeps (b ∷ l) h f = read_keeps l (threshold_hearing h b) (byte-keeps (threshold_sign_of h.word b) h.word h.spot h.lines f)

-- at first nothing is begun
start-keeps : Keeps threshold_start (replicate 9472 0)
start-keeps = record {
  sane = start-sane;
  long = length-replicate {A = ℕ} 9472 0;
  good = λ u h l. (zero-at 9472 (count_at u), (λ i m. (zero-at 9472 (threshold_at u i), zero-at 9472 (inner_at u i), zero-at 9472 (plain_at u i))));
}

pub text-keeps : (text : List ℕ) → Keeps (threshold_text_read text (replicate 9472 0)).spot (threshold_text_read text (replicate 9472 0)).lines
unfolding threshold_text_read threshold_finished
text-keeps text =
    let h = threshold_read_on (threshold_here Fresh threshold_start (replicate 9472 0)) text in
    byte-keeps (threshold_closing h.word) (threshold_stopped h.word) h.spot h.lines (read_keeps text (threshold_here Fresh threshold_start (replicate 9472 0)) start-keeps)
