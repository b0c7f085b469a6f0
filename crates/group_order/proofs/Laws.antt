-- A number goes through a row: one turn, and the end.
use Prim.Native.Nat.{ℕ, suc, ◌+◌, ◌-◌, ◌≤◌, ◌<◌}
use mathlib.Core.Bool.{Bool, true, false, cond}
use mathlib.Core.List.{List, [], ◌∷◌, ◌++◌}
use mathlib.Core.Path.{◌≡◌, refl, sym, ap, subst, ◌∙◌}
use native.Mathlib.Numerals.{add-one}
use native.Mathlib.Omega.{arith}
use lib.Dec.{ltb}
use lib.ListN.{length, take, drop, set, get_or, length-set}
use lib.Seq.{drop-cons, drop-drop, drop-set-lt, take-suc-set, set_split, append_snoc}
use Rattle.group_order.specs.Joined.{sift}

-- the smaller stays, the larger goes on
sift-cons : (b : Bool) (c x : ℕ) (l : List ℕ) → cond b (c ∷ sift x l) (x ∷ sift c l) ≡ cond b c x ∷ sift (cond b x c) l
sift-cons true c x l = refl
sift-cons false c x l = refl

pub sift-step : (c x : ℕ) (l : List ℕ) → sift c (x ∷ l) ≡ cond (ltb c x) c x ∷ sift (cond (ltb c x) x c) l
unfolding sift
sift-step c x l = sift-cons (ltb c x) c x l

sift-end : (c : ℕ) → sift c [] ≡ c ∷ []
unfolding sift
sift-end c = refl

-- what stands behind is the same
pub rest : (m m₀ : List ℕ) (k : ℕ) → drop k m ≡ drop k m₀ → drop (suc k) m ≡ drop (suc k) m₀
rest m m₀ k e =
    ap (λ (j : ℕ). drop j m) (sym (add-one k)) ∙ sym (drop-drop 1 k m) ∙ ap (drop 1) e ∙ drop-drop 1 k m₀ ∙ ap (λ (j : ℕ). drop j m₀) (add-one k)

left : (many k : ℕ) → k < many → many - k ≡ suc (many - suc k)
left many k h = omega arith

module _ (m m₀ R G : List ℕ) (c k many : ℕ) (h : suc k < length m) (l : k < many) (e : drop (suc k) m ≡ drop (suc k) m₀)
    (g : take (suc k) m ++ (sift c (take (many - k) (drop (suc k) m₀)) ++ R) ≡ G) where
  ahead : take (many - k) (drop (suc k) m₀) ≡ get_or m (suc k) 0 ∷ take (many - suc k) (drop (suc (suc k)) m₀)
  ahead =
      ap (λ (j : ℕ). take j (drop (suc k) m₀)) (left many k l)
      ∙ ap (take (suc (many - suc k))) (sym e ∙ drop-cons m (suc k) 0 h ∙ ap (λ (t : List ℕ). get_or m (suc k) 0 ∷ t) (rest m m₀ (suc k) e))

  pub turn : (lo hi : ℕ) → lo ≡ cond (ltb c (get_or m (suc k) 0)) c (get_or m (suc k) 0) → hi ≡ cond (ltb c (get_or m (suc k) 0)) (get_or m (suc k) 0) c
      → take (suc (suc k)) (set m (suc k) lo) ++ (sift hi (take (many - suc k) (drop (suc (suc k)) m₀)) ++ R) ≡ G
  turn lo hi p q =
      let s : lo ∷ sift hi (take (many - suc k) (drop (suc (suc k)) m₀)) ≡ sift c (take (many - k) (drop (suc k) m₀)) =
      rw (ahead, p, q) (sym (sift-step c (get_or m (suc k) 0) (take (many - suc k) (drop (suc (suc k)) m₀)))) in
      rw (take-suc-set m (suc k) lo h)
      (append_snoc (take (suc k) m) lo (sift hi (take (many - suc k) (drop (suc (suc k)) m₀)) ++ R)
      ∙ ap (λ (x : List ℕ). take (suc k) m ++ (x ++ R)) s ∙ g)

  pub behind : (x : ℕ) → drop (suc (suc k)) (set m (suc k) x) ≡ drop (suc (suc k)) m₀
  behind x = drop-set-lt (suc (suc k)) m (suc k) x (omega arith) ∙ rest m m₀ (suc k) e

none : (many : ℕ) → many - many ≡ 0
none many = omega arith

pub out : (m m₀ G : List ℕ) (c many : ℕ) → suc many < length m → drop (suc many) m ≡ drop (suc many) m₀
    → take (suc many) m ++ (sift c (take (many - many) (drop (suc many) m₀)) ++ drop (suc (suc many)) m₀) ≡ G → set m (suc many) c ≡ G
out m m₀ G c many h e g =
    set_split m (suc many) c h ∙ ap (λ (t : List ℕ). take (suc many) m ++ (c ∷ t)) (rest m m₀ (suc many) e)
    ∙ ap (λ (s : List ℕ). take (suc many) m ++ (s ++ drop (suc (suc many)) m₀))
    (sym (sift-end c) ∙ ap (λ (j : ℕ). sift c (take j (drop (suc many) m₀))) (sym (none many)))
    ∙ g

pub headed : (m X : List ℕ) (x : ℕ) → 1 ≤ length m → set (take 1 m ++ X) 0 x ≡ x ∷ X
headed [] X x h = absurd (omega arith)
headed (a ∷ m) X x h = refl

-- where q is after k turns: it has become c, and what it will leave is what is left to do
abbrev pub Goal : List ℕ → ℕ → ℕ → List ℕ
Goal m₀ q many = take 1 m₀ ++ (sift q (take many (drop 1 m₀)) ++ drop (suc (suc many)) m₀)

pub record Sifting (m₀ : List ℕ) (q many : ℕ) (m : List ℕ) (c k : ℕ) : Type 0 where
  pub same : length m ≡ length m₀
  pub later : drop (suc k) m ≡ drop (suc k) m₀
  pub all : take (suc k) m ++ (sift c (take (many - k) (drop (suc k) m₀)) ++ drop (suc (suc many)) m₀) ≡ Goal m₀ q many

zeroth : (many : ℕ) → many - 0 ≡ many
zeroth many = omega arith

pub begin : (m₀ : List ℕ) (q many : ℕ) → Sifting m₀ q many m₀ q 0
begin m₀ q many = record {
  same = refl;
  later = refl;
  all = ap (λ (j : ℕ). take 1 m₀ ++ (sift q (take j (drop 1 m₀)) ++ drop (suc (suc many)) m₀)) (zeroth many);
}

pub go : {m₀ m : List ℕ} {q many c k : ℕ} → Sifting m₀ q many m c k → suc k < length m → k < many → (x lo hi : ℕ) → x ≡ get_or m (suc k) 0
    → lo ≡ cond (ltb c x) c x → hi ≡ cond (ltb c x) x c → Sifting m₀ q many (set m (suc k) lo) hi (k + 1)
go {m₀} {m} {q} {many} {c} {k} s h l x lo hi e p r =
    subst (λ (j : ℕ). Sifting m₀ q many (set m (suc k) lo) hi j) (sym (add-one k))
    (record {
      same = length-set m (suc k) lo ∙ s.same;
      later = behind m m₀ (drop (suc (suc many)) m₀) (Goal m₀ q many) c k many h l s.later s.all lo;
      all = turn m m₀ (drop (suc (suc many)) m₀) (Goal m₀ q many) c k many h l s.later s.all lo hi
          (p ∙ ap (λ (y : ℕ). cond (ltb c y) c y) e) (r ∙ ap (λ (y : ℕ). cond (ltb c y) y c) e);
    })

pub stop : {m₀ m : List ℕ} {q many c k : ℕ} → Sifting m₀ q many m c k → k ≡ many → suc many < length m → set m (suc many) c ≡ Goal m₀ q many
stop {m₀} {m} {q} {many} {c} {k} s e h =
    let z = subst (λ (j : ℕ). Sifting m₀ q many m c j) e s in
    out m m₀ (Goal m₀ q many) c many h z.later z.all

-- the same with the sums that the code has
one_more : (k : ℕ) → 1 + k ≡ suc k
one_more k = omega arith

two-more : (k : ℕ) → 2 + k ≡ suc (suc k)
two-more k = omega arith

pub go_on : {m₀ m : List ℕ} {q many c k : ℕ} → Sifting m₀ q many m c k → suc k < length m → k < many → (x lo hi : ℕ) → x ≡ get_or m (1 + k) 0
    → lo ≡ cond (ltb c x) c x → hi ≡ cond (ltb c x) x c → Sifting m₀ q many (set m (1 + k) lo) hi (k + 1)
go_on {m₀} {m} {q} {many} {c} {k} s h l x lo hi e p r =
    subst (λ (i : ℕ). Sifting m₀ q many (set m i lo) hi (k + 1)) (sym (one_more k))
    (go s h l x lo hi (e ∙ ap (λ (i : ℕ). get_or m i 0) (one_more k)) p r)

pub at-end : {m₀ m : List ℕ} {q many c k : ℕ} → Sifting m₀ q many m c k → k ≡ many → suc many < length m
    → set m (1 + many) c ≡ take 1 m₀ ++ (sift q (take many (drop 1 m₀)) ++ drop (2 + many) m₀)
at-end {m₀} {m} {q} {many} {c} {k} s e h =
    ap (λ (i : ℕ). set m i c) (one_more many) ∙ stop s e h
    ∙ ap (λ (i : ℕ). take 1 m₀ ++ (sift q (take many (drop 1 m₀)) ++ drop i m₀)) (sym (two-more many))
