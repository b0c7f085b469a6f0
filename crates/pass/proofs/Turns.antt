-- One turn of the loop over the calls of a pass, and its end.
use Rattle.refusals.specs.Check.{Check}
use Prim.Native.Nat.{ℕ, suc, ◌+◌, ◌-◌, ◌*◌, ◌≤◌, ◌<◌}
use mathlib.Core.Bool.{Bool, true, false, ◌&&◌, ◌||◌, not}
use mathlib.Core.List.{List, [], ◌∷◌, ◌++◌, append-nil}
use mathlib.Core.Path.{◌≡◌, refl, sym, ap, ap₂, subst, ◌∙◌}
use native.Mathlib.Numerals.{add-one}
use native.Mathlib.Omega.{arith}
use lib.ListN.{length, get_or, take, drop, set, length-set, drop_of_length-le}
use lib.Seq.{take-suc, length-take-le, take_all, get_or-append-add, get_or-drop}
use Rattle.ground.proofs.Pieces.{fill_one}
use Rattle.ground.specs.Alike.{alike}
use Rattle.refusals.specs.Refusal.{code}
use Rattle.pass.proofs.Calls.{calls_at, calls-length}
use Rattle.votes.proofs.Passes.{pass-more, answers-more}
use Rattle.pass.specs.Calls.{calls, call_at}
use Rattle.pass.specs.Inner.{answers_from, After, Passed}
use Rattle.votes.specs.Call.{Call, call}
use Rattle.votes.specs.Inner.{Lawful, Works, quiet}
use Rattle.votes.specs.Passes.{pass}
use Rattle.votes.specs.Vote.{Vote, step}

-- a call read from four bytes of the list is its call i
pub works_at : (X : Vote) (i : ℕ) (list : List ℕ) {k f v d : ℕ} {a : Check} {b : Bool} {s s₁ : List ℕ} → k ≡ get_or list (4 * i) 0 →
    f ≡ get_or list (4 * i + 1) 0 → v ≡ get_or list (4 * i + 2) 0 → d ≡ get_or list (4 * i + 3) 0 → Works X (call k f v d) s a b s₁ →
    Works X (call_at list i) s a b s₁
works_at X i list {a = a} {b} {s} {s₁} ek ef ev ed W = subst (λ (c : Call). Works X c s a b s₁) (λ j. call (ek j) (ef j) (ev j) (ed j)) W

and_assoc : (a b c : Bool) → a && (b && c) ≡ (a && b) && c
and_assoc true b c = refl
and_assoc false b c = refl

and-t : (a : Bool) → a && true ≡ a
and-t true = refl
and-t false = refl

not-and : (a b : Bool) → not a || not b ≡ not (a && b)
not-and true b = refl
not-and false b = refl

-- one call more at the end of a quiet pass
module _ {S C : Type 0} (step : C → S → S) (same : S → S → Bool) where
  quiet-append : (l m : List C) (s : S) → quiet step same (l ++ m) s ≡ quiet step same l s && quiet step same m (pass step l s)
  quiet-append [] m s = refl
  quiet-append (c ∷ l) m s =
      ap (λ (b : Bool). same s (step c s) && b) (quiet-append l m (step c s))
      ∙ and_assoc (same s (step c s)) (quiet step same l (step c s)) (quiet step same m (pass step l (step c s)))

  quiet-more : (l : List C) (s : S) (i : ℕ) (d : C) → i < length l
      → quiet step same (take (suc i) l) s ≡ quiet step same (take i l) s && same (pass step (take i l) s) (step (get_or l i d) (pass step (take i l) s))
  quiet-more l s i d h =
      ap (λ (x : List C). quiet step same x s) (take-suc l i d h) ∙ quiet-append (take i l) (get_or l i d ∷ []) s
      ∙ ap (λ (b : Bool). quiet step same (take i l) s && b) (and-t (same (pass step (take i l) s) (step (get_or l i d) (pass step (take i l) s))))

pub length-answers : (X : Vote) (l : List Call) (s : List ℕ) → length (answers_from X l s) ≡ length l
length-answers X [] s = refl
length-answers X (c ∷ l) s = ap suc (length-answers X l (step X c s))

module _ {X : Vote} (L : Lawful X) where
  abbrev ans : Call → List ℕ → ℕ
  ans c s = code (X.answer c s)

  module _ (list s₀ out₀ : List ℕ) (fits : length list ≡ 4 * length out₀) where
    pub after_none : X.Sound s₀ → After X list s₀ out₀ 0 false s₀ out₀
    after_none S = record { within = omega arith; long = refl; sound = S; state = refl; answers = refl; flag = refl }

    so-many : (i : ℕ) → i ≤ length out₀ → length (answers_from X (take i (calls list)) s₀) ≡ i
    so-many i h = length-answers X (take i (calls list)) s₀ ∙ length-take-le i (calls list) (omega (arith, calls-length list (length out₀) fits))

    pub after_more : (i a : ℕ) (x : Bool) (s out : List ℕ) {changed b : Bool} {q : Check} {s' : List ℕ} → After X list s₀ out₀ i changed s out →
        i < length out₀ → Works X (call_at list i) s q b s' → a ≡ code q → x ≡ changed || b → After X list s₀ out₀ (i + 1) x s' (set out i a)
    after_more i a x s out {changed} {b} {q} {s'} A h Z ea ex = record {
      within = omega arith;
      long = length-set out i a ∙ A.long;
      sound = subst X.Sound (sym Z.state) (L.keeps d s A.sound);
      state = Z.state ∙ ap₂ (step X) (sym at) A.state ∙ sym (pass-more (step X) (calls list) s₀ i d few)
          ∙ ap (λ (k : ℕ). pass (step X) (take k (calls list)) s₀) (sym (add-one i));
      answers =
          ap₂ (λ (l : List ℕ) (y : ℕ). set l i y) A.answers (ea ∙ ap code Z.answers-so ∙ ap₂ ans (sym at) A.state)
          ∙ fill_one (answers_from X (take i (calls list)) s₀) out₀ i (ans (get_or (calls list) i d) (pass (step X) (take i (calls list)) s₀))
          (so-many i A.within) h
          ∙ ap (λ (l : List ℕ). l ++ drop (i + 1) out₀) (sym (answers-more (step X) ans (calls list) s₀ i d few))
          ∙ ap (λ (k : ℕ). answers_from X (take k (calls list)) s₀ ++ drop (i + 1) out₀) (sym (add-one i));
      flag =
          ex
          ∙ ap₂ ◌||◌ A.flag (Z.changes ∙ ap₂ (λ (y : List ℕ) (c : Call). not (alike y (step X c y))) A.state (sym at))
          ∙ not-and (quiet (step X) alike (take i (calls list)) s₀)
          (alike (pass (step X) (take i (calls list)) s₀) (step X (get_or (calls list) i d) (pass (step X) (take i (calls list)) s₀)))
          ∙ ap not (sym (quiet-more (step X) alike (calls list) s₀ i d few))
          ∙ ap (λ (k : ℕ). not (quiet (step X) alike (take k (calls list)) s₀)) (sym (add-one i));
    }
      where
        d : Call
        d = call_at list i

        few : i < length (calls list)
        few = let e = calls-length list (length out₀) fits in omega arith

        at : get_or (calls list) i (call_at list i) ≡ call_at list i
        at = calls_at list i (call_at list i) (omega arith)

    -- the answer byte of a call that is still to come
    pub after-byte : (i j : ℕ) {s out : List ℕ} {changed : Bool} → After X list s₀ out₀ i changed s out → i ≤ j → get_or out j 0 ≡ get_or out₀ j 0
    after-byte i j A h =
        let p = answers_from X (take i (calls list)) s₀ in
        let e = so-many i A.within in
        let at : length p + (j - i) ≡ j = omega (arith, e) in
        let up : i + (j - i) ≡ j = omega arith in
        ap (λ (l : List ℕ). get_or l j 0) A.answers ∙ ap (λ (k : ℕ). get_or (p ++ drop i out₀) k 0) (sym at)
        ∙ get_or-append-add p (drop i out₀) (j - i) 0 ∙ get_or-drop i out₀ (j - i) 0 ∙ ap (λ (k : ℕ). get_or out₀ k 0) up

    pub after-all : (i : ℕ) (s out : List ℕ) {changed : Bool} → After X list s₀ out₀ i changed s out → length out₀ ≤ i →
        Passed X (calls list) s₀ changed s out
    after-all i s out A h =
        let e : take i (calls list) ≡ calls list = take_all i (calls list) (omega (arith, calls-length list (length out₀) fits)) in record {
          state = A.state ∙ ap (λ (x : List Call). pass (step X) x s₀) e;
          answers =
              A.answers ∙ ap₂ (λ (x : List Call) (y : List ℕ). answers_from X x s₀ ++ y) e (drop_of_length-le out₀ h)
              ∙ append-nil (answers_from X (calls list) s₀);
          flag = A.flag ∙ ap (λ (x : List Call). not (quiet (step X) alike x s₀)) e;
        }

  pub passed-long : (list : List ℕ) (k : ℕ) {s s₁ out : List ℕ} {changed : Bool} → length list ≡ 4 * k → Passed X (calls list) s changed s₁ out →
      length out ≡ k
  passed-long list k {s} h Z = ap length Z.answers ∙ length-answers X (calls list) s ∙ calls-length list k h
