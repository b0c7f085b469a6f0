-- Each byte keeps the rows so far sound; those of the lines that are read through have a group.
use Rattle.refusals.specs.Check.{Check}
use Rattle.std.specs.Prelude.{Ok, Err}
use Prim.Native.Nat.{ℕ, ◌+◌, ◌*◌, ◌^◌, ◌≤◌, ◌<◌}
use mathlib.Core.Bool.{Bool, true, false, not, ◌||◌, cond, false≢true}
use mathlib.Core.List.{List, [], ◌∷◌}
use mathlib.Core.Logic.{⊎_elim}
use mathlib.Core.Path.{◌≡◌, refl, sym, ap, subst, ◌∙◌}
use native.Mathlib.Omega.{arith}
use lib.Dec.{eqb, ltb}
use lib.ListN.{length}
use lib.Pow.{ones_lt, pow_pos}
use borrow.Author.Tests.{ltb-true, ltb-false, not-false}
use Rattle.ground.proofs.Logic.{cases, clash, or-none}
use Rattle.ground.proofs.Numbers.{same?}
use Rattle.group_order.specs.Joined.{joined}
use Rattle.masks.proofs.Laws.AllBelow.{in_all, ⊆-all}
use Rattle.masks.proofs.Laws.Single.{single-⊆}
use Rattle.masks.proofs.Laws.Subsets.{or-⊆, below-⊆}
use Rattle.masks.specs.Mask.{has}
use Rattle.rows.specs.Site.{count}
use Rattle.table.specs.Table.{site_of, count_of}
use Rattle.table_words.specs.Words.{sign_of, spelled, whole, ended, said, closing, stopped}
use Rattle.table_words.specs.declared.Begun.{Begun}
use Rattle.table_words.specs.declared.Begun.TheVariants.{Fresh, Gap, Digits, Letters, Odd, Return, Comment}
use Rattle.table_words.specs.declared.Sign.{Sign}
use Rattle.table_words.specs.declared.Sign.TheVariants.{Line, Note, Colon as TheColon, Bar as TheBar, Blank, Part}
use Rattle.table_words.specs.declared.Sign.TheVariants.{Return as Back}
use Rattle.table_words.specs.declared.Token.{Token}
use Rattle.table_words.specs.declared.Token.TheVariants.{Silence, Sites, Number, Colon, Bar, End, Strange}
use Rattle.table_grammar.specs.Grammar.{Sane, at, own, missed, onward, many, owner, member, first_member}
use Rattle.table_grammar.specs.Grammar.{numbered, sited, coloned, barred, line_end, spoken}
use Rattle.table_grammar.specs.declared.Phase.{Phase}
use Rattle.table_grammar.specs.declared.Phase.TheVariants.{Head, Count, Tail, Owner, Mark, First, More, Wrong}
use Rattle.table_grammar.specs.declared.Spot.{Spot}
use Rattle.table_grammar.proofs.Saneness.{told-after}
use Rattle.table_reading.specs.Groups.{completes, closes, row_of, check_of, ruled, entered, judged, kept}
use Rattle.table_reading.specs.Reading.{Here, here, full, heard_as, hearing, read_on, start, finished, text_read}
use Rattle.table_reading.proofs.Steps.{complete, undone, heard-after}
use Rattle.table_sound.proofs.Places.{put, length-put, put-here, put-there}
use Rattle.table_sound.proofs.Rows.{Holds, holds-eq, holds-any, joins, joins_long, joins-some}

-- the group so far names sites below n, and the rows so far are sound
pub record Base (s : Spot) (t : List ℕ) : Type 0 where
  pub long : length t ≡ 4032
  pub fits : s.q < 2 ^ s.n
  pub rows : (u : ℕ) → u < 64 → Holds s.n u (site_of t u)

-- no site below v is without a group
abbrev pub Read : ℕ → List ℕ → Type 0
Read v t = (u : ℕ) → u < v → 1 ≤ count_of t u

-- how far the lines are read where something is expected
abbrev pub Stage : Phase → ℕ → ℕ → List ℕ → Type 0
Stage Head n v t = (u : ℕ) → u < 64 → count_of t u ≡ 0
Stage Count n v t = (u : ℕ) → u < 64 → count_of t u ≡ 0
Stage Tail n v t = (1 ≤ n) × (v ≡ 0)
Stage Owner n v t = (1 ≤ n) × Read v t
Stage Mark n v t = (1 ≤ n) × Read (own v) t
Stage First n v t = (1 ≤ n) × Read (own v) t
Stage More n v t = (1 ≤ n) × Read (own v) t
Stage (Wrong why) n v t = 0 ≤ n

pub record Good (s : Spot) (t : List ℕ) : Type 0 where
  pub base : Base s t
  pub stage : Stage s.phase s.n s.v t

either : (t : List ℕ) (b : Bool) (x y : Spot) → (b ≡ true → Good x t) → (b ≡ false → Good y t) → Good (cond b x y) t
either t true x y f g = f refl
either t false x y f g = g refl

-- the same sites, and no group begun
at_base : (s : Spot) (t : List ℕ) (p : Phase) → Base s t → Base (at s p) t
at_base s t p b = record { long = b.long; fits = pow_pos s.n; rows = b.rows }

wrong-good : (s : Spot) (t : List ℕ) → Base s t → (why : _) → Good (at s (Wrong why)) t
wrong-good s t b why = record { base = at_base s t (Wrong why) b; stage = omega arith }

missed-good : (s : Spot) (t : List ℕ) → Base s t → Good (missed s) t
unfolding missed
missed-good s t b = wrong-good s t b _

next-good : (s : Spot) (t : List ℕ) (p : Phase) → Base s t → Stage p s.n s.v t → Good (onward s p) t
next-good s t p b g = record { base = record { long = b.long; fits = pow_pos s.n; rows = b.rows }; stage = g }

at-good : (s : Spot) (t : List ℕ) (p : Phase) → Base s t → Stage p s.n s.v t → Good (at s p) t
at-good s t p b g = record { base = at_base s t p b; stage = g }

many-good : (s : Spot) (t : List ℕ) (x : ℕ) → Base s t → Stage Count s.n s.v t → Good (many s x) t
unfolding many
many-good s t x b g =
    either t (ltb x 1 || ltb 64 x) _ _ (λ e. missed-good s t b)
    (λ e. let h = ltb-false x 1 (or-none (ltb x 1) (ltb 64 x) e).0 in
    record { base = record { long = b.long; fits = pow_pos x; rows = λ u l. holds-any x (g u l) (b.rows u l) }; stage = (h, refl) })

owner-good : (s : Spot) (t : List ℕ) (x : ℕ) → Base s t → Stage Owner s.n s.v t → Good (owner s x) t
unfolding owner
owner-good s t x b g =
    either t (not (ltb x s.n) || not (eqb x s.v)) _ _ (λ e. missed-good s t b)
    (λ e. record { base = record { long = b.long; fits = pow_pos s.n; rows = b.rows }; stage = (g.0, λ u l. g.1 u (omega arith)) })

member-good : (s : Spot) (t : List ℕ) (x : ℕ) → Base s t → Stage More s.n s.v t → Good (member s x) t
unfolding member
member-good s t x b g =
    either t (not (ltb x s.n)) _ _ (λ e. wrong-good s t b _)
    (λ e. either t (has s.q x) _ _ (λ d. wrong-good s t b _)
    (λ d. let h = ltb-true x s.n (not-false (ltb x s.n) e) in
    record {
      base = record {
        long = b.long;
        fits = below-⊆ s.n (or-⊆ (⊆-all s.n b.fits) (single-⊆ (in_all h))) (ones_lt s.n);
        rows = b.rows;
      };
      stage = g;
    }))

first_good : (s : Spot) (t : List ℕ) (full : Bool) (x : ℕ) → Base s t → Stage First s.n s.v t → Good (first_member s full x) t
unfolding first_member
first_good s t full x b g = either t full _ _ (λ e. wrong-good s t b _) (λ e. member-good s t x b g)

in-numbered : (p : Phase) (s : Spot) (t : List ℕ) (full : Bool) (x : ℕ) → Base s t → Stage p s.n s.v t → Good (numbered p s full x) t
in-numbered Head s t full x b g = missed-good s t b
in-numbered Count s t full x b g = many-good s t x b g
in-numbered Tail s t full x b g = missed-good s t b
in-numbered Owner s t full x b g = owner-good s t x b g
in-numbered Mark s t full x b g = missed-good s t b
in-numbered First s t full x b g = first_good s t full x b g
in-numbered More s t full x b g = member-good s t x b g
in-numbered (Wrong w) s t full x b g = missed-good s t b

in-sited : (p : Phase) (s : Spot) (t : List ℕ) → Base s t → Stage p s.n s.v t → Good (sited p s) t
in-sited Head s t b g = at-good s t Count b g
in-sited Count s t b g = missed-good s t b
in-sited Tail s t b g = missed-good s t b
in-sited Owner s t b g = missed-good s t b
in-sited Mark s t b g = missed-good s t b
in-sited First s t b g = missed-good s t b
in-sited More s t b g = missed-good s t b
in-sited (Wrong w) s t b g = missed-good s t b

in-coloned : (p : Phase) (s : Spot) (t : List ℕ) → Base s t → Stage p s.n s.v t → Good (coloned p s) t
in-coloned Head s t b g = missed-good s t b
in-coloned Count s t b g = missed-good s t b
in-coloned Tail s t b g = missed-good s t b
in-coloned Owner s t b g = missed-good s t b
in-coloned Mark s t b g = at-good s t First b g
in-coloned First s t b g = missed-good s t b
in-coloned More s t b g = missed-good s t b
in-coloned (Wrong w) s t b g = missed-good s t b

in-barred : (p : Phase) (s : Spot) (t : List ℕ) → Base s t → Stage p s.n s.v t → Good (barred p s) t
in-barred Head s t b g = missed-good s t b
in-barred Count s t b g = missed-good s t b
in-barred Tail s t b g = missed-good s t b
in-barred Owner s t b g = missed-good s t b
in-barred Mark s t b g = missed-good s t b
in-barred First s t b g = missed-good s t b
in-barred More s t b g = at-good s t First b g
in-barred (Wrong w) s t b g = missed-good s t b

-- the line that ends has a group
read_more : (v : ℕ) (t : List ℕ) → Read (own v) t → 1 ≤ count_of t (own v) → Read v t
read_more v t r h u l =
    ⊎_elim (λ e. subst (λ (k : ℕ). 1 ≤ count_of t k) (sym e) h) (λ n. r u (omega arith)) (same? u (own v))

at-end : (p : Phase) (s : Spot) (t : List ℕ) → Base s t → Stage p s.n s.v t → (p ≡ More → 1 ≤ count_of t (own s.v)) → Good (line_end p s) t
at-end Head s t b g h = next-good s t Head b g
at-end Count s t b g h = missed-good s t b
at-end Tail s t b g h = next-good s t Owner b (g.0, λ u l. absurd (omega (arith, g.1)))
at-end Owner s t b g h = next-good s t Owner b g
at-end Mark s t b g h = missed-good s t b
at-end First s t b g h = missed-good s t b
at-end More s t b g h = next-good s t Owner b (g.0, read_more s.v t g.1 (h refl))
at-end (Wrong w) s t b g h = missed-good s t b

-- what is heard, where a group that it completes has been taken
told-good : (k : Token) (full : Bool) (s : Spot) (t : List ℕ) → Good s t → (s.phase ≡ More → completes k ≡ true → 1 ≤ count_of t (own s.v))
    → Good (spoken k full s) t
told-good Silence full s t g h = g
told-good Sites full s t g h = in-sited s.phase s t g.base g.stage
told-good (Number x) full s t g h = in-numbered s.phase s t full x g.base g.stage
told-good Colon full s t g h = in-coloned s.phase s t g.base g.stage
told-good Bar full s t g h = in-barred s.phase s t g.base g.stage
told-good End full s t g h = at-end s.phase s t g.base g.stage (λ e. h e refl)
told-good Strange full s t g h = missed-good s t g.base

-- a word completes no group
spelled-completes : (b : Bool) → completes (cond b Sites Strange) ≡ false
spelled-completes true = refl
spelled-completes false = refl

whole-completes : (w : Begun) → completes (whole w) ≡ false
unfolding spelled
whole-completes Fresh = refl
whole-completes Gap = refl
whole-completes (Digits x) = refl
whole-completes (Letters k) = spelled-completes (eqb k 5)
whole-completes Odd = refl
whole-completes Return = refl
whole-completes Comment = refl

word-completes : (c : Sign) (w : Begun) → completes (ended c w) ≡ false
word-completes Line w = whole-completes w
word-completes Note w = whole-completes w
word-completes TheColon w = whole-completes w
word-completes TheBar w = whole-completes w
word-completes Back w = whole-completes w
word-completes Blank w = whole-completes w
word-completes Part w = refl

-- a group is complete only where a further site could stand
closes-more : (p : Phase) (k : Token) → closes p k ≡ true → p ≡ More
closes-more Head k e = absurd (false≢true e)
closes-more Count k e = absurd (false≢true e)
closes-more Tail k e = absurd (false≢true e)
closes-more Owner k e = absurd (false≢true e)
closes-more Mark k e = absurd (false≢true e)
closes-more First k e = absurd (false≢true e)
closes-more More k e = refl
closes-more (Wrong w) k e = absurd (false≢true e)

-- a judged spot, its table, and that the row has a group where one was complete
pub record Judged (k : Token) (s : Spot) (t : List ℕ) : Type 0 where
  pub good : Good s t
  pub some : s.phase ≡ More → completes k ≡ true → 1 ≤ count_of t (own s.v)

judged-eq : {k : Token} {s : Spot} {t : List ℕ} (r : Spot) (u : List ℕ) → r ≡ s → u ≡ t → Judged k s t → Judged k r u
judged-eq {k} {s} {t} r u e f j = subst (λ (x : Spot). Judged k x u) (sym e) (subst (λ (y : List ℕ). Judged k s y) (sym f) j)

module _ (k : Token) (s : Spot) (t : List ℕ) (sane : Sane s) (g : Good s t) where
  undecided : closes s.phase k ≡ false → Judged k s t
  undecided e = record { good = g; some = λ p c. absurd (clash c (sym (ap (λ (x : Phase). closes x k) p) ∙ e)) }

  near : 63 * own s.v + 63 ≤ length t
  near = omega (arith, g.base.long)

  -- the group joins its site
  taken : check_of s t ≡ Ok tt → s.phase ≡ More → Judged k s (put t (own s.v) (joined s.q (row_of s t)))
  unfolding check_of
  taken c p =
      let w : ℕ = own s.v in
      let m : List ℕ = row_of s t in
      let r = g.base.rows w (omega arith) in
      let f = g.base.fits in
      let x = joined s.q m in
      let z = joins_long s.n w s.q m r f c in
      let st : (1 ≤ s.n) × Read w t = subst (λ (x : Phase). Stage x s.n s.v t) p g.stage in
      let y = put-there t w x near z in
      record {
        good = record {
          base = record {
            long = length-put t w x near z ∙ g.base.long;
            fits = f;
            rows = λ u l. ⊎_elim
                (λ e. holds-eq _ (ap (site_of (put t w x)) e ∙ put-here t w x near z) (subst (λ (i : ℕ). Holds s.n i x) (sym e) (joins s.n w s.q m r f c)))
                (λ n. holds-eq _ (y u n) (g.base.rows u l)) (same? u w);
          };
          stage = subst (λ (x : Phase). Stage x s.n s.v (put t w (joined s.q m))) (sym p)
              (st.0, λ u l. subst (λ (a : List ℕ). 1 ≤ count a) (sym (y u (λ e. omega arith))) (st.1 u l));
        };
        some = λ a b. subst (λ (a : List ℕ). 1 ≤ count a) (sym (put-here t w x near z)) (joins-some s.n w s.q m r f c);
      }

  decided : (c : Check) → check_of s t ≡ c → s.phase ≡ More → Judged k (ruled c s) (entered c s t)
  decided (Ok _) e p = taken e p
  decided (Err r) e p =
      record { good = wrong-good s t g.base _; some = λ a b. let z : ◌≡◌ {A = ℕ} 0 1 = cc in absurd (omega arith) }

  pub judged-good : Judged k (judged s k t) (kept s k t)
  judged-good =
      ⊎_elim
      (λ e. let c = complete s k t e in
      judged-eq (judged s k t) (kept s k t) (sym c.0) (sym c.1) (decided (check_of s t) refl (closes-more s.phase k e)))
      (λ e. let c = undone s k t e in judged-eq (judged s k t) (kept s k t) (sym c.0) (sym c.1) (undecided e))
      (cases (closes s.phase k))

heard-good : (c : Sign) (w : Begun) (s : Spot) (t : List ℕ) → Sane s → Good s t → Good (heard_as c w s t).0 (heard_as c w s t).1
unfolding heard_as
heard-good c w s t f g =
    let u = spoken (ended c w) (full s t) s in
    let a = told-good (ended c w) (full s t) s t g (λ p e. absurd (clash e (word-completes c w))) in
    let j = judged-good (said c) u t (told-after (ended c w) (full s t) s f).sane a in
    told-good (said c) (full s t) (judged u (said c) t) (kept u (said c) t) j.good j.some

read-good : (l : List ℕ) (h : Here) → Sane h.spot → Good h.spot h.table
    → Sane (read_on h l).spot × Good (read_on h l).spot (read_on h l).table
unfolding read_on hearing
read-good [] h f g = (f, g)
read-good (b ∷ l) h f g =
    read-good l (hearing h b) (heard-after (sign_of h.word b) h.word h.spot h.table f).0
    (heard-good (sign_of h.word b) h.word h.spot h.table f g)

-- all bytes, from a table without a group
pub text-good : (text zeros : List ℕ) → Good start zeros → Good (text_read text zeros).spot (text_read text zeros).table
unfolding text_read finished
text-good text zeros g =
    let h = read_on (here Fresh start zeros) text in
    let r = read-good text (here Fresh start zeros) (omega arith, omega arith) g in
    heard-good (closing h.word) (stopped h.word) h.spot h.table r.0 r.1
