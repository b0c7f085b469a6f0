-- A room that `pack` put a list of at most 4,096 calls in begins with the list's bytes.
use Prim.Native.Nat.{ℕ, zero, suc, ◌+◌, ◌*◌, ◌≤◌, ◌<◌}
use mathlib.Core.Bool.{Bool, true, false, cond}
use mathlib.Core.List.{List, [], ◌∷◌, ◌++◌, append_assoc}
use mathlib.Core.Path.{◌≡◌, refl, sym, ap, ◌∙◌}
use native.Mathlib.Numerals.{add-one}
use native.Mathlib.Omega.{arith}
use lib.Dec.{ltb}
use lib.ListN.{length, get_or, set, take, length-set}
use lib.Seq.{take-suc-set, take-suc, take-length}
use borrow.Author.Tests.{lt-ltb, le-ltb}
use Rattle.packing.specs.Inner.{none, stored, put_at, pack_to, packable}
use Rattle.packing.specs.Pack.{bytes_of}
use Rattle.packing.specs.declared.Call.{Call}

pub pack_to-zero : (b : List ℕ) (cs : List Call) → pack_to b cs 0 ≡ b
unfolding pack_to
pack_to-zero b cs = refl

pub pack_to-suc : (b : List ℕ) (cs : List Call) (n : ℕ) → pack_to b cs (suc n) ≡ put_at (pack_to b cs n) n (get_or cs n none)
unfolding pack_to
pack_to-suc b cs n = refl

-- one call more at the end is its four bytes more
bytes_of-snoc : (cs : List Call) (c : Call) → bytes_of (cs ++ (c ∷ [])) ≡ bytes_of cs ++ (c.kind ∷ c.from ∷ c.to ∷ c.side ∷ [])
unfolding bytes_of
bytes_of-snoc [] c = refl
bytes_of-snoc (x ∷ cs) c = ap (λ (l : List ℕ). x.kind ∷ x.from ∷ x.to ∷ x.side ∷ l) (bytes_of-snoc cs c)

-- four bytes a call
pub bytes_of-length : (cs : List Call) → length (bytes_of cs) ≡ 4 * length cs
unfolding bytes_of
bytes_of-length [] = refl
bytes_of-length (c ∷ cs) = let e : length (bytes_of cs) ≡ 4 * length cs = bytes_of-length cs in omega arith

-- the bytes of one call
abbrev four : Call → List ℕ
four c = c.kind ∷ c.from ∷ c.to ∷ c.side ∷ []

-- what four stores leave of the first 4 * i + 4 bytes
stored-take : (b : List ℕ) (i : ℕ) (c : Call) → 4 * i + 3 < length b → take (4 * suc i) (stored b i c) ≡ take (4 * i) b ++ four c
stored-take b i c h =
    ap (λ (k : ℕ). take k (stored b i c)) four-more
    ∙ take-suc-set b3 (4 * i + 3) c.side (simp length-set h)
    ∙ ap (λ (l : List ℕ). l ++ (c.side ∷ [])) (
    ap (λ (k : ℕ). take k b3) (one_more (4 * i + 2) (4 * i + 3) (omega arith)) ∙ take-suc-set b2 (4 * i + 2) c.to (simp length-set (omega arith)) ∙ ap (λ (l : List ℕ). l ++ (c.to ∷ [])) (
    ap (λ (k : ℕ). take k b2) (one_more (4 * i + 1) (4 * i + 2) (omega arith)) ∙ take-suc-set b1 (4 * i + 1) c.from (simp length-set (omega arith)) ∙ ap (λ (l : List ℕ). l ++ (c.from ∷ [])) (
    ap (λ (k : ℕ). take k b1) (one_more (4 * i) (4 * i + 1) (omega arith)) ∙ take-suc-set b (4 * i) c.kind (omega arith))))
    ∙ simp append_assoc
  where
    b1 : List ℕ
    b1 = set b (4 * i) c.kind

    b2 : List ℕ
    b2 = set b1 (4 * i + 1) c.from

    b3 : List ℕ
    b3 = set b2 (4 * i + 2) c.to

    one_more : (a k : ℕ) → k ≡ a + 1 → k ≡ suc a
    one_more a k e = e ∙ add-one a

    four-more : 4 * suc i ≡ suc (4 * i + 3)
    four-more = omega arith

stored-length : (b : List ℕ) (i : ℕ) (c : Call) → length (stored b i c) ≡ length b
stored-length b i c = simp length-set

bytes-none : bytes_of [] ≡ []
unfolding bytes_of
bytes-none = refl

module _ (b : List ℕ) (room : length b ≡ 16384) (cs : List Call) where
  abbrev bs : ℕ → List ℕ
  bs i = pack_to b cs i

  packed_step : (i : ℕ) → i < 4096 → bs (suc i) ≡ stored (bs i) i (get_or cs i none)
  unfolding put_at
  packed_step i h = pack_to-suc b cs i ∙ simp (lt-ltb i 4096 h)

  packed-length : (i : ℕ) → i ≤ 4096 → length (bs i) ≡ 16384
  packed-length zero h = ap length (pack_to-zero b cs) ∙ room
  packed-length (suc i) h = ap length (packed_step i h) ∙ stored-length (bs i) i (get_or cs i none) ∙ packed-length i (omega arith)

  packed-take : (i : ℕ) → i ≤ 4096 → i ≤ length cs → take (4 * i) (bs i) ≡ bytes_of (take i cs)
  packed-take zero h l = sym bytes-none
  packed-take (suc i) h l =
      ap (λ (l : List ℕ). take (4 * suc i) l) (packed_step i h)
      ∙ stored-take (bs i) i (get_or cs i none) (let e : length (bs i) ≡ 16384 = packed-length i (omega arith) in omega arith)
      ∙ ap (λ (l : List ℕ). l ++ four (get_or cs i none)) (packed-take i (omega arith) (omega arith))
      ∙ sym (bytes_of-snoc (take i cs) (get_or cs i none))
      ∙ ap bytes_of (sym (take-suc cs i none l))

  pub packed : length cs ≤ 4096 → take (4 * length cs) (bs (length cs)) ≡ bytes_of cs
  packed h = packed-take (length cs) h (omega arith) ∙ ap bytes_of (take-length cs)

-- a list that is too long is not put at all; another is put whole
pub packable-le : (n : ℕ) → packable n ≤ n
unfolding packable
packable-le n = of (ltb 4096 n)
  where
    of : (long : Bool) → cond long 0 n ≤ n
    of true = omega arith
    of false = omega arith

pub packable-none : (n : ℕ) → 4096 < n → packable n ≡ 0
unfolding packable
packable-none n h = rw (lt-ltb 4096 n h) refl

pub packable-all : (n : ℕ) → n ≤ 4096 → packable n ≡ n
unfolding packable
packable-all n h = rw (le-ltb 4096 n h) refl
