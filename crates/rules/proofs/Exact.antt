-- Number 18 is exact: the test says no exactly of the sound states.
use Prim.Native.Nat.{ℕ, ◌<◌}
use mathlib.Core.Bool.{Bool, true, false, ◌||◌, not}
use mathlib.Core.List.{List}
use mathlib.Core.Logic.{⊎_elim}
use mathlib.Core.Path.{◌≡◌, refl, sym, ap, ap₂, subst}
use native.Mathlib.Decide.{dec_lt}
use native.Mathlib.Omega.{arith}
use lib.Bits.{bit_and}
use lib.Dec.{eqb}
use lib.ListN.{length, get_or-eq_default}
use lib.Pow.{ones_lt}
use borrow.Author.Tests.{eqb-true, eq-eqb, not-false}
use Rattle.ground.proofs.Logic.{is_false, or-none}
use Rattle.ground.proofs.Numbers.{two}
use Rattle.ground.proofs.Some.{none_each, each_none}
use Rattle.ground.specs.Search.{some}
use Rattle.masks.proofs.Laws.AllBelow.{in_all}
use Rattle.masks.proofs.Laws.Single.{in?, ∈-eq}
use Rattle.masks.proofs.Laws.Subsets.{mem, not-in-zero, within-⊆, ⊆-within, ∈-below, ∈-and, and-⊆-l, and-⊆-r, minus-⊆, ∈-minus, minus-not-in, empty}
use Rattle.masks.specs.Mask.{has, within, minus, all_below, ◌∈◌}
use Rattle.sets.specs.Promises.{Questions}
use Rattle.rules.specs.Rules.{accepting, confirming}
use Rattle.rules.specs.Sound.{Sound, differ, not_zero, not_own, not_rule, not_sent, bad_side, bad_site, unsound}
use Rattle.rules.specs.State.{votes, accepts, voted, accepted, confirmed, width, get}
use Rattle.rules.specs.Theorems.{SoundExact}

-- tests that fail, in facts and back

no_or : {a b : Bool} → a ≡ false → b ≡ false → a || b ≡ false
no_or p q = ap₂ ◌||◌ p q

alike_of : (a b : Bool) → differ a b ≡ false → a ≡ b
alike_of true b e = sym (not-false b e)
alike_of false b e = sym e

no-differ : {a b : Bool} → a ≡ b → differ a b ≡ false
no-differ {a} e = subst (λ (x : Bool). differ a x ≡ false) e (self a)
  where
    self : (x : Bool) → differ x x ≡ false
    self true = refl
    self false = refl

is_zero : {m : ℕ} → not (eqb m 0) ≡ false → m ≡ 0
is_zero {m} e = eqb-true m 0 (not-false (eqb m 0) e)

zero_is : {m : ℕ} → m ≡ 0 → not (eqb m 0) ≡ false
zero_is {m} e = ap not (eq-eqb m 0 e)

-- who of m is correct is in w
sent-of : (F m w : ℕ) → not (within (minus m F) w) ≡ false → (u : ℕ) → (u ∈ F → ⊥) → u ∈ m → u ∈ w
sent-of F m w e u f h = (within-⊆ (minus m F) w (not-false (within (minus m F) w) e)).each u (∈-minus h f)

no-unsent : (F m w : ℕ) → ((u : ℕ) → (u ∈ F → ⊥) → u ∈ m → u ∈ w) → not (within (minus m F) w) ≡ false
no-unsent F m w f = ap not (⊆-within (record { each = λ u h. f u (minus-not-in m h) ((minus-⊆ m F).each u h) }))

-- of one site and one side, from the five numbers that the test reads

record Nothing (v heard_votes heard_accepts in_voted in_accepted in_confirmed : ℕ) : Type 0 where
  votes-0 : heard_votes ≡ 0
  accepts-0 : heard_accepts ≡ 0
  voted-not : has in_voted v ≡ false
  accepted-not : has in_accepted v ≡ false
  confirmed-not : has in_confirmed v ≡ false

record Explained (Q : Questions) (F v heard_votes heard_accepts in_voted in_accepted in_confirmed : ℕ) : Type 0 where
  vote-own : has heard_votes v ≡ has in_voted v
  accept-own : has heard_accepts v ≡ has in_accepted v
  accepted-so : has in_accepted v ≡ accepting Q v heard_votes heard_accepts
  confirmed-so : has in_confirmed v ≡ confirming Q v heard_accepts
  votes-were : (u : ℕ) → (u ∈ F → ⊥) → u ∈ heard_votes → u ∈ in_voted
  accepts-were : (u : ℕ) → (u ∈ F → ⊥) → u ∈ heard_accepts → u ∈ in_accepted

module _ (Q : Questions) (F v hv ha vd ad cd : ℕ) where
  nothing : not_zero v hv ha vd ad cd ≡ false → Nothing v hv ha vd ad cd
  unfolding not_zero
  nothing e =
      let p = or-none (not (eqb hv 0)) (not (eqb ha 0) || (has vd v || (has ad v || has cd v))) e in
      let q = or-none (not (eqb ha 0)) (has vd v || (has ad v || has cd v)) p.1 in
      let r = or-none (has vd v) (has ad v || has cd v) q.1 in
      let t = or-none (has ad v) (has cd v) r.1 in
      record { votes-0 = is_zero p.0; accepts-0 = is_zero q.0; voted-not = r.0; accepted-not = t.0; confirmed-not = t.1 }

  all-zero : Nothing v hv ha vd ad cd → not_zero v hv ha vd ad cd ≡ false
  unfolding not_zero
  all-zero N = no_or (zero_is N.votes-0) (no_or (zero_is N.accepts-0) (no_or N.voted-not (no_or N.accepted-not N.confirmed-not)))

  explained : not_own v hv ha vd ad || (not_rule Q v hv ha ad cd || not_sent F hv ha vd ad) ≡ false → Explained Q F v hv ha vd ad cd
  unfolding not_own not_rule not_sent
  explained e =
      let p = or-none (not_own v hv ha vd ad) (not_rule Q v hv ha ad cd || not_sent F hv ha vd ad) e in
      let q = or-none (not_rule Q v hv ha ad cd) (not_sent F hv ha vd ad) p.1 in
      let own = or-none (differ (has hv v) (has vd v)) (differ (has ha v) (has ad v)) p.0 in
      let rule = or-none (differ (has ad v) (accepting Q v hv ha)) (differ (has cd v) (confirming Q v ha)) q.0 in
      let sent = or-none (not (within (minus hv F) vd)) (not (within (minus ha F) ad)) q.1 in
      record {
        vote-own = alike_of (has hv v) (has vd v) own.0;
        accept-own = alike_of (has ha v) (has ad v) own.1;
        accepted-so = alike_of (has ad v) (accepting Q v hv ha) rule.0;
        confirmed-so = alike_of (has cd v) (confirming Q v ha) rule.1;
        votes-were = sent-of F hv vd sent.0;
        accepts-were = sent-of F ha ad sent.1;
      }

  all-explained : Explained Q F v hv ha vd ad cd → not_own v hv ha vd ad || (not_rule Q v hv ha ad cd || not_sent F hv ha vd ad) ≡ false
  unfolding not_own not_rule not_sent
  all-explained E =
      no_or (no_or (no-differ E.vote-own) (no-differ E.accept-own))
      (no_or (no_or (no-differ E.accepted-so) (no-differ E.confirmed-so))
      (no_or (no-unsent F hv vd E.votes-were) (no-unsent F ha ad E.accepts-were)))

-- of a site and a side of a state

module _ (Q : Questions) (n F : ℕ) (s : List ℕ) where
  abbrev NothingAt : ℕ → ℕ → Type 0
  NothingAt v side = Nothing v (get s (votes side v)) (get s (accepts side v)) (get s (voted n side)) (get s (accepted n side))
      (get s (confirmed n side))

  abbrev ExplainedAt : ℕ → ℕ → Type 0
  ExplainedAt v side =
      Explained Q F v (get s (votes side v)) (get s (accepts side v)) (get s (voted n side)) (get s (accepted n side)) (get s (confirmed n side))

  faulty-side : (v side : ℕ) → bad_side Q n F s v side ≡ false → v ∈ F → NothingAt v side
  unfolding bad_side
  faulty-side v side e f =
      nothing Q F v (get s (votes side v)) (get s (accepts side v)) (get s (voted n side)) (get s (accepted n side)) (get s (confirmed n side))
      (or-none (not_zero v (get s (votes side v)) (get s (accepts side v)) (get s (voted n side)) (get s (accepted n side))
      (get s (confirmed n side))) false (rw f.holds at e)).0

  correct-side : (v side : ℕ) → bad_side Q n F s v side ≡ false → (v ∈ F → ⊥) → ExplainedAt v side
  unfolding bad_side
  correct-side v side e f =
      explained Q F v (get s (votes side v)) (get s (accepts side v)) (get s (voted n side)) (get s (accepted n side)) (get s (confirmed n side))
      (rw (is_false (has F v) (λ h. f (mem h))) at e)

  good-side : (v side : ℕ) → (v ∈ F → NothingAt v side) → ((v ∈ F → ⊥) → ExplainedAt v side) → bad_side Q n F s v side ≡ false
  unfolding bad_side
  good-side v side f g =
      let hv = get s (votes side v) in
      let ha = get s (accepts side v) in
      let vd = get s (voted n side) in
      let ad = get s (accepted n side) in
      let cd = get s (confirmed n side) in
      ⊎_elim (λ (h : v ∈ F). rw h.holds (no_or (all-zero Q F v hv ha vd ad cd (f h)) refl))
      (λ h. rw (is_false (has F v) (λ e. h (mem e))) (all-explained Q F v hv ha vd ad cd (g h))) (in? v F)

  each-side : some n (bad_site Q n F s) ≡ false → (v side : ℕ) → v < n → side < 2 → bad_side Q n F s v side ≡ false
  unfolding bad_site
  each-side e v side hv hs =
      let p = or-none (bad_side Q n F s v 0) (bad_side Q n F s v 1) (none_each n (bad_site Q n F s) v e hv) in
      two (λ τ. bad_side Q n F s v τ ≡ false) p.0 p.1 side hs

  no-site : ((v side : ℕ) → v < n → side < 2 → bad_side Q n F s v side ≡ false) → some n (bad_site Q n F s) ≡ false
  unfolding bad_site
  no-site f = each_none n (bad_site Q n F s) (λ v hv. no_or (f v 0 hv (omega arith)) (f v 1 hv (omega arith)))

  -- no number has a bit at or above n: the numbers of the state by the test, and past its end there is none
  low_of : length s ≡ width n → some (width n) (λ i. not (within (get s i) (all_below n))) ≡ false → (i v : ℕ) → v ∈ get s i → v < n
  low_of l e i v h = go (dec_lt i (width n))
    where
      go : Dec (i < width n) → v < n
      go (yes k) =
          let w : within (get s i) (all_below n) ≡ true =
          not-false (within (get s i) (all_below n)) (none_each (width n) (λ j. not (within (get s j) (all_below n))) i e k) in
          ∈-below (ones_lt n) ((within-⊆ (get s i) (all_below n) w).each v h)
      go (no k) = absurd (not-in-zero (∈-eq (get_or-eq_default s 0 (omega arith)) h))

  no-high : ((i v : ℕ) → v ∈ get s i → v < n) → some (width n) (λ i. not (within (get s i) (all_below n))) ≡ false
  no-high f = each_none (width n) (λ i. not (within (get s i) (all_below n))) (λ i k. ap not (⊆-within (record { each = λ v h. in_all (f i v h) })))

  sides-sound : length s ≡ width n → ((i v : ℕ) → v ∈ get s i → v < n) → bit_and (get s (voted n 0)) (get s (voted n 1)) ≡ 0 →
      ((v side : ℕ) → v < n → side < 2 → bad_side Q n F s v side ≡ false) → Sound Q n F s
  sides-sound l low once good = record {
    long = l;
    below = low;
    faulty-votes = λ v side hv hs f. (faulty-side v side (good v side hv hs) f).votes-0;
    faulty-accepts = λ v side hv hs f. (faulty-side v side (good v side hv hs) f).accepts-0;
    faulty-voted = λ v side hv hs f. (faulty-side v side (good v side hv hs) f).voted-not;
    faulty-accepted = λ v side hv hs f. (faulty-side v side (good v side hv hs) f).accepted-not;
    faulty-confirmed = λ v side hv hs f. (faulty-side v side (good v side hv hs) f).confirmed-not;
    once = λ v h k. not-in-zero (∈-eq once (∈-and h k));
    own-vote = λ v side hv hs f. (correct-side v side (good v side hv hs) f).vote-own;
    own-accept = λ v side hv hs f. (correct-side v side (good v side hv hs) f).accept-own;
    accepted-by-rule = λ v side hv hs f. (correct-side v side (good v side hv hs) f).accepted-so;
    confirmed-by-rule = λ v side hv hs f. (correct-side v side (good v side hv hs) f).confirmed-so;
    votes-sent = λ v u side hv hs f h. ⊎_elim (λ k. absurd (not-in-zero (∈-eq (faulty-side v side (good v side hv hs) k).votes-0 h)))
        (λ k. (correct-side v side (good v side hv hs) k).votes-were u f h) (in? v F);
    accepts-sent = λ v u side hv hs f h. ⊎_elim (λ k. absurd (not-in-zero (∈-eq (faulty-side v side (good v side hv hs) k).accepts-0 h)))
        (λ k. (correct-side v side (good v side hv hs) k).accepts-were u f h) (in? v F);
  }

  sound-sides : Sound Q n F s → (v side : ℕ) → v < n → side < 2 → bad_side Q n F s v side ≡ false
  sound-sides S v side hv hs =
      good-side v side
      (λ f. record {
        votes-0 = S.faulty-votes v side hv hs f;
        accepts-0 = S.faulty-accepts v side hv hs f;
        voted-not = S.faulty-voted v side hv hs f;
        accepted-not = S.faulty-accepted v side hv hs f;
        confirmed-not = S.faulty-confirmed v side hv hs f;
      })
      (λ f. record {
        vote-own = S.own-vote v side hv hs f;
        accept-own = S.own-accept v side hv hs f;
        accepted-so = S.accepted-by-rule v side hv hs f;
        confirmed-so = S.confirmed-by-rule v side hv hs f;
        votes-were = λ u. S.votes-sent v u side hv hs;
        accepts-were = λ u. S.accepts-sent v u side hv hs;
      })

  pub sound-of : unsound Q n F s ≡ false → Sound Q n F s
  unfolding unsound
  sound-of e =
      let p = or-none (not (eqb (length s) (width n))) _ e in
      let q = or-none (some (width n) (λ i. not (within (get s i) (all_below n)))) _ p.1 in
      let r = or-none (not (eqb (bit_and (get s (voted n 0)) (get s (voted n 1))) 0)) (some n (bad_site Q n F s)) q.1 in
      let l : length s ≡ width n = eqb-true (length s) (width n) (not-false (eqb (length s) (width n)) p.0) in
      sides-sound l (low_of l q.0) (is_zero r.0) (each-side r.1)

  pub of-sound : Sound Q n F s → unsound Q n F s ≡ false
  unfolding unsound
  of-sound S =
      let a = get s (voted n 0) in
      let b = get s (voted n 1) in
      no_or (ap not (eq-eqb (length s) (width n) S.long))
      (no_or (no-high S.below)
      (no_or (zero_is (empty (bit_and a b) (λ v h. S.once v ((and-⊆-l a b).each v h) ((and-⊆-r a b).each v h)))) (no-site (sound-sides S))))

pub exact : SoundExact
exact Q n F s = (sound-of Q n F s, of-sound Q n F s)
