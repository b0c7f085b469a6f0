-- Sites that are turned, and which sets are said to be beside a set then.
use Prim.Native.Nat.{ℕ, ◌+◌, ◌-◌, ◌*◌, ◌/◌, ◌%◌, ◌^◌, ◌≤◌, ◌<◌}
use mathlib.Core.Bool.{Bool, true, false, ◌&&◌, ◌||◌, not, cond, or-false}
use mathlib.Core.List.{List}
use mathlib.Core.Logic.{◌⊎◌, inl, inr, ⊎_elim}
use mathlib.Core.Path.{◌≡◌, refl, sym, ap, ap₂, ◌∙◌, subst}
use native.Mathlib.Nat.{not-suc-le-zero}
use native.Mathlib.Omega.{arith}
use lib.Bits.{bit_and, bit_or, or_lt, or_disjoint}
use lib.Dec.{ltb}
use lib.ListN.{length, get_or}
use lib.Pow.{pow-lt, pow_mono}
use borrow.Author.Tests.{ltb-true, ltb-false}
use Rattle.ground.proofs.Logic.{cases, clash, or-e, or-i, is_false}
use Rattle.ground.proofs.Numbers.{same?}
use Rattle.masks.proofs.Laws.AllBelow.{has-not}
use Rattle.masks.proofs.Laws.Apart.{apart_of}
use Rattle.masks.proofs.Laws.Members.{has-and, has-or, has-minus, has_above, ext}
use Rattle.masks.proofs.Laws.Single.{in?, ∈-or, ∈-single, single-∈, single-⊆}
use Rattle.masks.proofs.Laws.Step.{or-part, minus-or}
use Rattle.masks.proofs.Laws.Subsets.{mem, ⊆-antisym, ⊆-le, ∈-below, or-⊆-l, or-⊆-r, minus-⊆, ∈-minus, minus-not-in, minus-lt}
use Rattle.masks.specs.Mask.{has, single, minus, ◌∈◌, ◌⊆◌}
use Rattle.set_words.specs.Inner.{Says, in_family, Without}
use Rattle.spread_words.specs.Inner.{Spread}
use Rattle.set_words.proofs.Places.{has-shr, has-shifted, has-shifted-low, low-has, high-has, each-site}
use Rattle.set_words.proofs.WordLaws.{said_at, says_at, says-change}
use Rattle.apart_words.specs.Inner.{Turn, turned_at, turned_unless, Faces, Turned, Beside}

-- one word: with site x the sets without it, without it both

module _ (x word rest : ℕ) (few : x < 6) (w : Without x rest) where
  small : 2 ^ x ≤ 32
  small = pow_mono (five few)
    where
      five : x < 6 → x ≤ 5
      five l = omega arith

  abbrev low : ℕ
  low = bit_and word rest

  abbrev turned : ℕ
  turned = bit_or (bit_or low (bit_and (word / 2 ^ 2 ^ x) rest)) (low * 2 ^ 2 ^ x % 2 ^ 64)

  turned-has : (j : ℕ) → j < 64
      → has turned j ≡ ((has word j && not (has j x)) || (has word (2 ^ x + j) && not (has j x))) || has (low * 2 ^ 2 ^ x % 2 ^ 64) j
  turned-has j l =
      has-or (bit_or low (bit_and (word / 2 ^ 2 ^ x) rest)) (low * 2 ^ 2 ^ x % 2 ^ 64) j
      ∙ ap (λ (c : Bool). c || has (low * 2 ^ 2 ^ x % 2 ^ 64) j)
      (has-or low (bit_and (word / 2 ^ 2 ^ x) rest) j
      ∙ ap₂ (λ a b. a || b) (has-and word rest j ∙ ap (λ (c : Bool). has word j && c) (w.each j l))
      (has-and (word / 2 ^ 2 ^ x) rest j ∙ ap₂ (λ a b. a && b) (has-shr word (2 ^ x) j) (w.each j l)))

  -- with site x: the set without it
  module _ (j : ℕ) (l : j < 64) (e : has j x ≡ true) where
    abbrev less : ℕ
    less = minus j (single x)

    sum : 2 ^ x + less ≡ j
    sum = let p = or-part (single-⊆ (mem e)) in omega (arith, minus-or j (single x))

    fewer : less < 64
    fewer = omega (arith, sum)

    lacks : has less x ≡ false
    lacks = is_false (has less x) (λ o. minus-not-in j (mem o) (∈-single x))

    with-x : has turned j ≡ has word less
    with-x =
        turned-has j l
        ∙ ap (λ (c : Bool). ((has word j && not c) || (has word (2 ^ x + j) && not c)) || has (low * 2 ^ 2 ^ x % 2 ^ 64) j) e
        ∙ none (has word j) (has word (2 ^ x + j)) (has (low * 2 ^ 2 ^ x % 2 ^ 64) j)
        ∙ ap (has (low * 2 ^ 2 ^ x % 2 ^ 64)) (sym sum)
        ∙ has-shifted low (2 ^ x) less (subst (λ (y : ℕ). y < 64) (sym sum) l)
        ∙ has-and word rest less
        ∙ ap (λ (c : Bool). has word less && c) (w.each less fewer ∙ ap not lacks)
        ∙ and-t (has word less)
      where
        none : (a b c : Bool) → ((a && false) || (b && false)) || c ≡ c
        none true true c = refl
        none true false c = refl
        none false true c = refl
        none false false c = refl

        and-t : (a : Bool) → a && true ≡ a
        and-t true = refl
        and-t false = refl

  -- without it: the set, and the one with it
  module _ (j : ℕ) (l : j < 64) (e : has j x ≡ false) where
    more : bit_or j (single x) ≡ 2 ^ x + j
    more = or_disjoint j (single x) (apart_of j (single x) (λ v h k. clash (subst (λ (z : ℕ). z ∈ j) (single-∈ x k) h).holds e)) ∙ turn j (2 ^ x)
      where
        turn : (a b : ℕ) → a + b ≡ b + a
        turn a b = omega arith

    nothing : has (low * 2 ^ 2 ^ x % 2 ^ 64) j ≡ false
    nothing = pick (cases (ltb j (2 ^ x)))
      where
        back : 2 ^ x ≤ j → 2 ^ x + (j - 2 ^ x) ≡ j
        back b = omega arith

        up : (y : ℕ) → 2 ^ x + y ≡ j → has y x ≡ true
        up y s =
            ⊎_elim (λ k. k)
            (λ k.
            let sum = or_disjoint y (single x) (apart_of y (single x) (λ v h m. clash (subst (λ (z : ℕ). z ∈ y) (single-∈ x m) h).holds k)) ∙ turn y (2 ^ x) ∙ s in
            absurd (clash (ap (λ (z : ℕ). has z x) (sym sum) ∙ ((or-⊆-r y (single x)).each x (∈-single x)).holds) e))
            (cases (has y x))
          where
            turn : (a b : ℕ) → a + b ≡ b + a
            turn a b = omega arith

        pick : (ltb j (2 ^ x) ≡ true) ⊎ (ltb j (2 ^ x) ≡ false) → has (low * 2 ^ 2 ^ x % 2 ^ 64) j ≡ false
        pick (inl b) = has-shifted-low low (2 ^ x) j (ltb-true j (2 ^ x) b) (omega (arith, small))
        pick (inr b) =
            let s = back (ltb-false j (2 ^ x) b) in
            let y = j - 2 ^ x in
            ap (has (low * 2 ^ 2 ^ x % 2 ^ 64)) (sym s)
            ∙ has-shifted low (2 ^ x) y (subst (λ (z : ℕ). z < 64) (sym s) l)
            ∙ has-and word rest y
            ∙ ap (λ (c : Bool). has word y && c) (w.each y (omega (arith, s)) ∙ ap not (up y s))
            ∙ and-f (has word y)
          where
            and-f : (a : Bool) → a && false ≡ false
            and-f true = refl
            and-f false = refl

    without-x : has turned j ≡ has word j || has word (bit_or j (single x))
    without-x =
        turned-has j l
        ∙ ap₂ (λ c d. ((has word j && not c) || (has word (2 ^ x + j) && not c)) || d) e nothing
        ∙ both (has word j) (has word (2 ^ x + j))
        ∙ ap (λ (y : ℕ). has word j || has word y) (sym more)
      where
        both : (a b : Bool) → ((a && true) || (b && true)) || false ≡ a || b
        both true b = refl
        both false true = refl
        both false false = refl

  pub turn_is : Turn x word turned
  turn_is =
      record {
        each = λ j l.
            ⊎_elim (λ e. with-x j l e ∙ sym (ap (λ c. cond c (has word (minus j (single x))) (has word j || has word (bit_or j (single x)))) e))
            (λ e. without-x j l e ∙ sym (ap (λ c. cond c (has word (minus j (single x))) (has word j || has word (bit_or j (single x)))) e)) (cases (has j x));
      }

-- what is said of sets in their two parts, with a site of the first six more or less

module _ (x w : ℕ) {j : ℕ} (few : x < 6) (l : j < 64) where
  part-less : minus (w * 64 + j) (single x) ≡ w * 64 + minus j (single x)
  part-less = same_set (λ v. each-site 6 w l (λ v. has (minus (w * 64 + j) (single x)) v ≡ has (w * 64 + minus j (single x)) v) at_low at_high v)
    where
      lm : minus j (single x) < 64
      lm = minus-lt 6 j (single x) l

      at_low : (v : ℕ) → v < 6 → has (minus (w * 64 + j) (single x)) v ≡ has (w * 64 + minus j (single x)) v
      at_low v h =
          has-minus (w * 64 + j) (single x) v ∙ ap (λ (c : Bool). c && not (has (single x) v)) (low-has 6 w l v h) ∙ sym (has-minus j (single x) v) ∙ sym (low-has 6 w lm v h)

      at_high : (y : ℕ) → has (minus (w * 64 + j) (single x)) (6 + y) ≡ has (w * 64 + minus j (single x)) (6 + y)
      at_high y =
          has-minus (w * 64 + j) (single x) (6 + y)
          ∙ ap₂ (λ a b. a && not b) (high-has 6 w l y) (has_above {n = 6} (6 + y) (pow-lt few) (omega arith))
          ∙ and-t (has w y) ∙ sym (high-has 6 w lm y)
        where
          and-t : (a : Bool) → a && true ≡ a
          and-t true = refl
          and-t false = refl

      same_set : ((v : ℕ) → has (minus (w * 64 + j) (single x)) v ≡ has (w * 64 + minus j (single x)) v) → minus (w * 64 + j) (single x) ≡ w * 64 + minus j (single x)
      same_set f = ext (minus (w * 64 + j) (single x)) (w * 64 + minus j (single x)) f

  more-few : bit_or j (single x) < 64
  more-few = or_lt 6 j (single x) l (pow-lt few)

  part-more : bit_or (w * 64 + j) (single x) ≡ w * 64 + bit_or j (single x)
  part-more = ext (bit_or (w * 64 + j) (single x)) (w * 64 + bit_or j (single x)) (each-site 6 w l (λ v. has (bit_or (w * 64 + j) (single x)) v ≡ has (w * 64 + bit_or j (single x)) v) at_low at_high)
    where
      at_low : (v : ℕ) → v < 6 → has (bit_or (w * 64 + j) (single x)) v ≡ has (w * 64 + bit_or j (single x)) v
      at_low v h =
          has-or (w * 64 + j) (single x) v ∙ ap (λ (c : Bool). c || has (single x) v) (low-has 6 w l v h) ∙ sym (has-or j (single x) v) ∙ sym (low-has 6 w more-few v h)

      at_high : (y : ℕ) → has (bit_or (w * 64 + j) (single x)) (6 + y) ≡ has (w * 64 + bit_or j (single x)) (6 + y)
      at_high y =
          has-or (w * 64 + j) (single x) (6 + y)
          ∙ ap₂ (λ a b. a || b) (high-has 6 w l y) (has_above {n = 6} (6 + y) (pow-lt few) (omega arith))
          ∙ or-false (has w y) ∙ sym (high-has 6 w more-few y)

  -- one word turned says it of its sets
  pub turn-said : (old : List ℕ) {here next : ℕ} → here ≡ get_or old w 0 → Turn x here next → has next j ≡ turned_at x old (w * 64 + j)
  unfolding turned_at
  turn-said old {here} {next} e t =
      t.each j l
      ∙ ap (λ (y : ℕ). cond (has j x) (has y (minus j (single x))) (has y j || has y (bit_or j (single x)))) e
      ∙ ap (λ (c : Bool). cond c (has word (minus j (single x))) (has word j || has word (bit_or j (single x)))) (sym (low-has 6 w l x few))
      ∙ ap₂ (λ a b. cond (has (w * 64 + j) x) a b)
      (sym (said_at old w (minus j (single x)) (minus-lt 6 j (single x) l)) ∙ ap (in_family old) (sym part-less))
      (ap₂ (λ a b. a || b) (sym (said_at old w j l)) (sym (said_at old w (bit_or j (single x)) more-few) ∙ ap (in_family old) (sym part-more)))
    where
      word : ℕ
      word = get_or old w 0

-- a site of b stays, another is turned

module _ (b x : ℕ) (old : List ℕ) where
  pub unless-in : length old ≡ 64 → has b x ≡ true → Says (turned_unless b x old) old
  unfolding turned_unless
  unless-in l e = record { long = l; each = λ w j lw lj. sym (said_at old w j lj) ∙ sym (ap (λ c. cond c (in_family old (w * 64 + j)) (turned_at x old (w * 64 + j))) e) }

  pub unless-out : {new : List ℕ} → has b x ≡ false → Says (turned_at x old) new → Says (turned_unless b x old) new
  unfolding turned_unless
  unless-out e = says-change (λ s l. sym (ap (λ c. cond c (in_family old s) (turned_at x old s)) e))

-- sites that are turned one after the other

pub turned_none : (b : ℕ) (old : List ℕ) → length old ≡ 64 → Turned b 0 old old
turned_none b old e =
    record {
      long = e;
      right = λ s l h. (s, l, record { apart = λ y k. absurd (not-suc-le-zero k); to = λ y f i. i; back = λ y f i. i }, h);
      full = λ q s lq ls f h. subst (λ (z : ℕ). in_family old z ≡ true) (same f) h;
    }
  where
    same : {q s : ℕ} → Faces b 0 q s → q ≡ s
    same f = ⊆-antisym (record { each = λ v i. f.to v (λ k. absurd (not-suc-le-zero k)) i }) (record { each = λ v i. f.back v (λ k. absurd (not-suc-le-zero k)) i })

module _ (b x q : ℕ) where
  less-than : {y : ℕ} → y < x + 1 → (y ≡ x → ⊥) → y < x
  less-than h ne = omega arith

  up : {y : ℕ} → y < x → y < x + 1
  up h = omega arith

  here : x < x + 1
  here = omega arith

  not-here : {y : ℕ} → y ≡ x → y < x → ⊥
  not-here e h = omega arith

  -- x is in b: nothing changes
  faces-kept : (s : ℕ) → x ∈ b → Faces b x q s → Faces b (x + 1) q s
  faces-kept s o f =
      record {
        apart = λ y h out. f.apart y (less-than h (λ e. out (subst (λ (z : ℕ). z ∈ b) (sym e) o))) out;
        to = λ y g. f.to y (λ h. g (up h));
        back = λ y g. f.back y (λ h. g (up h));
      }

  kept-faces : (s : ℕ) → x ∈ b → Faces b (x + 1) q s → Faces b x q s
  kept-faces s o f =
      record {
        apart = λ y h out. f.apart y (up h) out;
        to = λ y g. f.to y (at y g);
        back = λ y g. f.back y (at y g);
      }
    where
      at : (y : ℕ) → (y < x → y ∈ b) → y < x + 1 → y ∈ b
      at y g h = ⊎_elim (λ e. subst (λ (z : ℕ). z ∈ b) (sym e) o) (λ ne. g (less-than h ne)) (same? y x)

  -- x is not in b: m and s have the same other sites
  module _ (s m : ℕ) (out : x ∈ b → ⊥) (into : (y : ℕ) → (y ≡ x → ⊥) → y ∈ m → y ∈ s) (from : (y : ℕ) → (y ≡ x → ⊥) → y ∈ s → y ∈ m) where
    other : (y : ℕ) → (y < x + 1 → y ∈ b) → y ≡ x → ⊥
    other y g e = out (subst (λ (z : ℕ). z ∈ b) e (g (subst (λ (z : ℕ). z < x + 1) (sym e) here)))

    -- not both have x
    faces-more : (x ∈ m → x ∈ s → ⊥) → Faces b x q m → Faces b (x + 1) q s
    faces-more ne f =
        record {
          apart = λ y h o i k.
              ⊎_elim (λ e. ne (subst (λ (z : ℕ). z ∈ m) e (f.to y (λ h. absurd (not-here e h)) i)) (subst (λ (z : ℕ). z ∈ s) e k))
              (λ d. f.apart y (less-than h d) o i (from y d k)) (same? y x);
          to = λ y g i. into y (other y g) (f.to y (λ h. g (up h)) i);
          back = λ y g i. f.back y (λ h. g (up h)) (from y (other y g) i);
        }

    -- m has x exactly if q has it
    more-faces : (x ∈ q → x ∈ m) → (x ∈ m → x ∈ q) → Faces b (x + 1) q s → Faces b x q m
    more-faces there back-again f =
        record {
          apart = λ y h o i k. f.apart y (up h) o i (into y (λ e. not-here e h) k);
          to = λ y g i. ⊎_elim (λ e. subst (λ (z : ℕ). z ∈ m) (sym e) (there (subst (λ (z : ℕ). z ∈ q) e i))) (λ d. from y d (f.to y (λ h. g (less-than h d)) i)) (same? y x);
          back = λ y g i. ⊎_elim (λ e. subst (λ (z : ℕ). z ∈ q) (sym e) (back-again (subst (λ (z : ℕ). z ∈ m) e i))) (λ d. f.back y (λ h. g (less-than h d)) (into y d i)) (same? y x);
        }

-- a set with a site less or more

module _ (s x : ℕ) where
  lacks-x : x ∈ minus s (single x) → ⊥
  lacks-x h = minus-not-in s h (∈-single x)

  from_less : (y : ℕ) → (y ≡ x → ⊥) → y ∈ minus s (single x) → y ∈ s
  from_less y ne h = (minus-⊆ s (single x)).each y h

  to-less : (y : ℕ) → (y ≡ x → ⊥) → y ∈ s → y ∈ minus s (single x)
  to-less y ne h = ∈-minus h (λ k. ne (single-∈ x k))

  from_more : (y : ℕ) → (y ≡ x → ⊥) → y ∈ bit_or s (single x) → y ∈ s
  from_more y ne h = ⊎_elim (λ k. k) (λ k. absurd (ne (single-∈ x k))) (∈-or s (single x) h)

  to-more : (y : ℕ) → (y ≡ x → ⊥) → y ∈ s → y ∈ bit_or s (single x)
  to-more y ne h = (or-⊆-l s (single x)).each y h

module _ (b x : ℕ) (few : x < 6) {old words new : List ℕ} (t : Turned b x old words) (u : Says (turned_unless b x words) new) where
  more-few-sets : (s : ℕ) → s < 4096 → bit_or s (single x) < 4096
  more-few-sets s l = or_lt 12 s (single x) l (pow-lt {j = 12} (omega arith))

  pub turned_more : Turned b (x + 1) old new
  unfolding turned_unless turned_at
  turned_more = pick (cases (has b x))
    where
      pick : (has b x ≡ true) ⊎ (has b x ≡ false) → Turned b (x + 1) old new
      pick (inl o) =
          record {
            long = u.long;
            right = λ s l h. let r = t.right s l (sym (same s l) ∙ h) in (r.0, r.1, faces-kept b x r.0 s (mem o) r.2, r.3);
            full = λ q s lq ls f h. same s ls ∙ t.full q s lq ls (kept-faces b x q s (mem o) f) h;
          }
        where
          same : (s : ℕ) → s < 4096 → in_family new s ≡ in_family words s
          same s l = says_at u s l ∙ ap (λ c. cond c (in_family words s) (turned_at x words s)) o
      pick (inr o) =
          record {
            long = u.long;
            right = λ s l h. from s l (cases (has s x)) h;
            full = λ q s lq ls f h. into q s lq ls f h (in? x s) (in? x q);
          }
        where
          out : x ∈ b → ⊥
          out k = clash k.holds o

          value : (s : ℕ) → s < 4096 → in_family new s ≡ cond (has s x) (in_family words (minus s (single x))) (in_family words s || in_family words (bit_or s (single x)))
          value s l = says_at u s l ∙ ap (λ c. cond c (in_family words s) (turned_at x words s)) o

          with-x : (s : ℕ) → s < 4096 → has s x ≡ true → in_family new s ≡ in_family words (minus s (single x))
          with-x s l e = value s l ∙ ap (λ c. cond c (in_family words (minus s (single x))) (in_family words s || in_family words (bit_or s (single x)))) e

          without-x : (s : ℕ) → s < 4096 → has s x ≡ false → in_family new s ≡ in_family words s || in_family words (bit_or s (single x))
          without-x s l e = value s l ∙ ap (λ c. cond c (in_family words (minus s (single x))) (in_family words s || in_family words (bit_or s (single x)))) e

          from : (s : ℕ) → s < 4096 → (has s x ≡ true) ⊎ (has s x ≡ false) → in_family new s ≡ true → (q : ℕ) × (q < 4096) × Faces b (x + 1) q s × (in_family old q ≡ true)
          from s l (inl e) h =
              let r = t.right (minus s (single x)) (minus-lt 12 s (single x) l) (sym (with-x s l e) ∙ h) in
              (r.0, r.1, faces-more b x r.0 s (minus s (single x)) out (from_less s x) (to-less s x) (λ i k. lacks-x s x i) r.2, r.3)
          from s l (inr e) h =
              ⊎_elim
              (λ k.
              let r = t.right s l k in
              (r.0, r.1, faces-more b x r.0 s s out (λ y ne i. i) (λ y ne i. i) (λ i k. clash k.holds e) r.2, r.3))
              (λ k.
              let r = t.right (bit_or s (single x)) (more-few-sets s l) k in
              (r.0, r.1, faces-more b x r.0 s (bit_or s (single x)) out (from_more s x) (to-more s x) (λ i k. clash k.holds e) r.2, r.3))
              (or-e (in_family words s) (in_family words (bit_or s (single x))) (sym (without-x s l e) ∙ h))

          into : (q s : ℕ) → q < 4096 → s < 4096 → Faces b (x + 1) q s → in_family old q ≡ true → (x ∈ s) ⊎ (x ∈ s → ⊥) → (x ∈ q) ⊎ (x ∈ q → ⊥) → in_family new s ≡ true
          into q s lq ls f h (inl e) d =
              with-x s ls e.holds
              ∙ t.full q (minus s (single x)) lq (minus-lt 12 s (single x) ls)
              (more-faces b x q s (minus s (single x)) out (from_less s x) (to-less s x) (λ i. absurd (f.apart x (here b x q) out i e)) (λ i. absurd (lacks-x s x i)) f) h
          into q s lq ls f h (inr e) (inl d) =
              without-x s ls (is_false (has s x) (λ k. e (mem k)))
              ∙ or-i (in_family words s) (in_family words (bit_or s (single x)))
              (t.full q (bit_or s (single x)) lq (more-few-sets s ls)
              (more-faces b x q s (bit_or s (single x)) out (from_more s x) (to-more s x) (λ i. (or-⊆-r s (single x)).each x (∈-single x)) (λ i. d) f) h)
          into q s lq ls f h (inr e) (inr d) =
              without-x s ls (is_false (has s x) (λ k. e (mem k)))
              ∙ ap (λ (c : Bool). c || in_family words (bit_or s (single x)))
              (t.full q s lq ls (more-faces b x q s s out (λ y ne i. i) (λ y ne i. i) (λ i. absurd (d i)) (λ i. absurd (e i)) f) h)

-- all turned and handed on: what is beside a set

module _ (b : ℕ) (sets : List ℕ) {turned words : List ℕ} (t : Turned b 6 sets turned) (s : Spread turned words) where
  high-b : (x : ℕ) → has (b / 64) x ≡ has b (6 + x)
  high-b x = has-shr b 6 x

  pub beside-all : Beside b sets words
  beside-all = record { long = s.long; right = right; full = full }
    where
      place : (w : ℕ) → w < 64 → b / 64 < 64 → bit_or (63 - w) (b / 64) < 64
      place w l h = or_lt 6 (63 - w) (b / 64) (omega arith) h

      few-b : {w j : ℕ} → w < 64 → j < 64 → b ⊆ w * 64 + j → b / 64 < 64
      few-b {w} {j} lw lj k = part (⊆-le k) lw lj
        where
          part : b ≤ w * 64 + j → w < 64 → j < 64 → b / 64 < 64
          part a b c = omega arith

      right : (w j : ℕ) → w < 64 → j < 64 → b ⊆ w * 64 + j → j ∈ get_or words (bit_or (63 - w) (b / 64)) 0
          → (q : ℕ) × (q < 4096) × ((z : ℕ) → z ∈ q → (z ∈ b → ⊥) → z ∈ w * 64 + j → ⊥) × (in_family sets q ≡ true)
      right w j lw lj sub h =
          let l = place w lw (few-b lw lj sub) in
          let r = s.right (bit_or (63 - w) (b / 64)) j l h in
          let y = r.0 in
          let ly = le-lt (⊆-le r.1) l in
          let f = t.right (y * 64 + j) (omega (arith, ly)) (said_at turned y j lj ∙ r.2.holds) in
          (f.0, f.1, each-site 6 w lj (λ z. z ∈ f.0 → (z ∈ b → ⊥) → z ∈ w * 64 + j → ⊥) (at_low y f.2) (at_high y r.1 f.2), f.3)
        where
          le-lt : {a b c : ℕ} → a ≤ b → b < c → a < c
          le-lt p q = omega arith

          at_low : (y : ℕ) {q : ℕ} → Faces b 6 q (y * 64 + j) → (z : ℕ) → z < 6 → z ∈ q → (z ∈ b → ⊥) → z ∈ w * 64 + j → ⊥
          at_low y f z l i o k = f.apart z l o i (mem (low-has 6 y lj z l ∙ sym (low-has 6 w lj z l) ∙ k.holds))

          at_high : (y : ℕ) {q : ℕ} → y ⊆ bit_or (63 - w) (b / 64) → Faces b 6 q (y * 64 + j) → (x : ℕ) → 6 + x ∈ q → (6 + x ∈ b → ⊥) → 6 + x ∈ w * 64 + j → ⊥
          at_high y sub f x i o k =
              let m = mem (sym (high-has 6 y lj x) ∙ (f.to (6 + x) (λ h. absurd (far h)) i).holds) in
              ⊎_elim
              (λ n. let lx = ∈-below (less lw) n in clash (sym (high-has 6 w lj x) ∙ k.holds) (flip (has w x) (sym (has-not 6 w x lw lx) ∙ n.holds)))
              (λ n. o (mem (sym (high-b x) ∙ n.holds))) (∈-or (63 - w) (b / 64) (sub.each x m))
            where
              far : 6 + x < 6 → ⊥
              far h = omega arith

              less : {w : ℕ} → w < 64 → 63 - w < 64
              less l = omega arith

              flip : (c : Bool) → not c ≡ true → c ≡ false
              flip true e = sym e
              flip false e = refl

      full : (w j q : ℕ) → w < 64 → j < 64 → b ⊆ w * 64 + j → q < 4096 → b ⊆ q → ((z : ℕ) → z ∈ q → (z ∈ b → ⊥) → z ∈ w * 64 + j → ⊥) → in_family sets q ≡ true
          → j ∈ get_or words (bit_or (63 - w) (b / 64)) 0
      full w j q lw lj sub lq bq apart h =
          (s.full y (bit_or (63 - w) (b / 64)) (place w lw (few-b lw lj sub)) (record { each = below })).each j
          (mem (sym (said_at turned y j lj) ∙ t.full q (y * 64 + j) lq (set-few y ly lj) faces h))
        where
          y : ℕ
          y = q / 64

          ly : y < 64
          ly = omega arith

          set-few : (y : ℕ) → y < 64 → j < 64 → y * 64 + j < 4096
          set-few y a b = omega arith

          high-q : (x : ℕ) → has y x ≡ has q (6 + x)
          high-q x = has-shr q 6 x

          below : (x : ℕ) → x ∈ y → x ∈ bit_or (63 - w) (b / 64)
          below x i =
              ⊎_elim (λ k. (or-⊆-r (63 - w) (b / 64)).each x (mem (high-b x ∙ k.holds)))
              (λ k.
              (or-⊆-l (63 - w) (b / 64)).each x
              (mem (has-not 6 w x lw (∈-below ly i)
              ∙ ap not (is_false (has w x) (λ e. apart (6 + x) (mem (sym (high-q x) ∙ i.holds)) k (mem (high-has 6 w lj x ∙ e)))))))
              (in? (6 + x) b)

          faces : Faces b 6 q (y * 64 + j)
          faces =
              record {
                apart = λ z l o i k. apart z i o (mem (low-has 6 w lj z l ∙ sym (low-has 6 y lj z l) ∙ k.holds));
                to = each-site 6 y lj (λ z. (z < 6 → z ∈ b) → z ∈ q → z ∈ y * 64 + j)
                    (λ z l g i. mem (low-has 6 y lj z l ∙ sym (low-has 6 w lj z l) ∙ (sub.each z (g l)).holds))
                    (λ x g i. mem (high-has 6 y lj x ∙ high-q x ∙ i.holds));
                back = each-site 6 y lj (λ z. (z < 6 → z ∈ b) → z ∈ y * 64 + j → z ∈ q)
                    (λ z l g i. bq.each z (g l))
                    (λ x g i. mem (sym (high-q x) ∙ sym (high-has 6 y lj x) ∙ i.holds));
              }
