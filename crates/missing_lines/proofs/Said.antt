-- No line stands there exactly if no call is missing; and the line that says so begins like no other.
use Prim.Native.Nat.{ℕ, zero, suc, ◌+◌, ◌<◌}
use mathlib.Core.Bool.{Bool, true, false, not, cond}
use mathlib.Core.List.{List, [], ◌∷◌, ◌++◌}
use mathlib.Core.Logic.{⊎_elim}
use mathlib.Core.Path.{◌≡◌, refl, sym, ap, ◌∙◌, subst}
use native.Mathlib.Omega.{arith}
use lib.Dec.{eqb}
use lib.ListN.{length, get_or}
use Rattle.call_lines.specs.CallLine.{side_name}
use Rattle.ground.proofs.Every.{every_of, every-at}
use Rattle.ground.proofs.Logic.{cases, clash, not_t, is_false}
use Rattle.ground.proofs.Pieces.{cat-split, cat-ext}
use Rattle.ground.specs.Pieces.{cat}
use Rattle.lines.proofs.Lengths.{length-line}
use Rattle.lines.specs.Lines.{line}
use Rattle.liveness.specs.Complete.{lacks, is_complete}
use Rattle.missing_lines.proofs.Missing.{said, unsaid}
use Rattle.missing_lines.specs.Missing.{missing_line, missing_from, missing_lines, side_lines}
use Rattle.missing_lines.specs.Theorems.{NoneMissing, CompleteSaid}
use Rattle.text.specs.Text.{ascii, decimal}

-- of pieces one behind the other: all are empty, if the whole is
no-first : (a b : List ℕ) → a ++ b ≡ [] → a ≡ []
no-first [] b e = refl
no-first (x ∷ a) b e = let z : length (x ∷ (a ++ b)) ≡ 0 = ap length e in absurd (omega arith)

no_second : (a b : List ℕ) → a ++ b ≡ [] → b ≡ []
no_second [] b e = e
no_second (x ∷ a) b e = let z : length (x ∷ (a ++ b)) ≡ 0 = ap length e in absurd (omega arith)

each-empty : (f : ℕ → List ℕ) (n : ℕ) → cat f n ≡ [] → (k : ℕ) → k < n → f k ≡ []
each-empty f n e k h = let s = cat-split f n k h in no-first (f k) s.0 (no_second (cat f k) (f k ++ s.0) (sym s.1 ∙ e))

nothing : (n : ℕ) → cat (λ k. []) n ≡ []
unfolding cat
nothing zero = refl
nothing (suc n) = ap (λ (l : List ℕ). l ++ []) (nothing n)

all-empty : (f : ℕ → List ℕ) (n : ℕ) → ((k : ℕ) → k < n → f k ≡ []) → cat f n ≡ []
all-empty f n h = cat-ext f (λ k. []) n h ∙ nothing n

no_line : (word told : List ℕ) → line word told ≡ [] → ⊥
no_line word told e = omega (arith, length-line word told, ap length e)

module _ (n among side : ℕ) (list : List ℕ) (accepters : ℕ) where
  silent : (u v : ℕ) → missing_line among side list accepters u v ≡ [] → lacks among side list accepters u v ≡ false
  silent u v e =
      ⊎_elim (λ h. absurd (no_line (side_name side ++ ascii " ") (decimal u ++ (ascii " " ++ decimal v)) (said among side list accepters u v h ∙ e))) (λ h. h)
      (cases (lacks among side list accepters u v))

  pub none-complete : missing_lines n among side list accepters ≡ [] → is_complete n among side list accepters ≡ true
  unfolding missing_lines missing_from is_complete
  none-complete e =
      every_of n _ (λ u hu. every_of n _ (λ v hv. ap not (silent u v
      (each-empty (missing_line among side list accepters u) n (each-empty (missing_from n among side list accepters) n e u hu) v hv))))

  pub complete-none : is_complete n among side list accepters ≡ true → missing_lines n among side list accepters ≡ []
  unfolding missing_lines missing_from is_complete
  complete-none e =
      all-empty (missing_from n among side list accepters) n (λ u hu. all-empty (missing_line among side list accepters u) n (λ v hv.
      sym (unsaid among side list accepters u v (not_t (lacks among side list accepters u v) (every-at n _ (every-at n _ e u hu) v hv)))))

pub none-missing : NoneMissing
none-missing n among side list accepters = (none-complete n among side list accepters, complete-none n among side list accepters)

-- the lines of a side, by whether a call is missing
module _ (n among side : ℕ) (list : List ℕ) (accepters : ℕ) where
  pub side-complete : is_complete n among side list accepters ≡ true → line (ascii "complete ") (side_name side) ≡ side_lines n among side list accepters
  unfolding side_lines
  side-complete e = rw e refl

  pub side-missing : is_complete n among side list accepters ≡ false → missing_lines n among side list accepters ≡ side_lines n among side list accepters
  unfolding side_lines
  side-missing e = rw e refl

-- the same, by where the lines of the missing calls end
module _ (n among side : ℕ) (list : List ℕ) (accepters : ℕ) {at end : ℕ} (p : end ≡ at + length (missing_lines n among side list accepters)) where
  pub some_written : (end ≡ at → ⊥) → missing_lines n among side list accepters ≡ side_lines n among side list accepters
  some_written d =
      side-missing n among side list accepters
      (is_false (is_complete n among side list accepters) (λ h. d (omega (arith, p, ap length (complete-none n among side list accepters h)))))

  pub none_written : end ≡ at → missing_lines n among side list accepters ++ line (ascii "complete ") (side_name side) ≡ side_lines n among side list accepters
  none_written e =
      let z : missing_lines n among side list accepters ≡ [] = empty (missing_lines n among side list accepters) (omega (arith, p, e)) in
      ap (λ (l : List ℕ). l ++ line (ascii "complete ") (side_name side)) z
      ∙ side-complete n among side list accepters (none-complete n among side list accepters z)
    where
      empty : (l : List ℕ) → length l ≡ 0 → l ≡ []
      empty [] h = refl
      empty (x ∷ l) h = absurd (omega arith)

-- a text that does not begin with a c
record Other (l : List ℕ) : Type 0 where
  first : get_or l 0 0 ≡ 99 → ⊥

other-then : (a b : List ℕ) → Other a → Other b → Other (a ++ b)
other-then [] b p q = q
other-then (x ∷ a) b p q = record { first = λ e. p.first e }

other-cat : (f : ℕ → List ℕ) (n : ℕ) → ((k : ℕ) → Other (f k)) → Other (cat f n)
unfolding cat
other-cat f zero h = record { first = λ e. omega arith }
other-cat f (suc n) h = other-then (cat f n) (f n) (other-cat f n h) (h n)

other-line : (b d : Bool) (l : List ℕ) → Other (cond b (line (cond d (ascii "drill") (ascii "live") ++ ascii " ") l) [])
unfolding line
other-line false d l = record { first = λ e. omega arith }
other-line true true l = record { first = λ e. omega arith }
other-line true false l = record { first = λ e. omega arith }

module _ (n among side : ℕ) (list : List ℕ) (accepters : ℕ) where
  other-missing : (u v : ℕ) → Other (missing_line among side list accepters u v)
  unfolding missing_line side_name
  other-missing u v = other-line (lacks among side list accepters u v) (eqb side 0) (decimal u ++ (ascii " " ++ decimal v))

  other-lines : Other (missing_lines n among side list accepters)
  unfolding missing_lines missing_from
  other-lines =
      other-cat (missing_from n among side list accepters) n (λ u. other-cat (missing_line among side list accepters u) n (other-missing u))

  begins : (told : List ℕ) → get_or (line (ascii "complete ") told) 0 0 ≡ 99
  unfolding line
  begins told = refl

  said-complete : side_lines n among side list accepters ≡ line (ascii "complete ") (side_name side) → is_complete n among side list accepters ≡ true
  said-complete e =
      ⊎_elim (λ h. h)
      (λ h. absurd (other-lines.first (ap (λ (l : List ℕ). get_or l 0 0) (side-missing n among side list accepters h ∙ e) ∙ begins (side_name side))))
      (cases (is_complete n among side list accepters))

  -- where a call is missing, the lines of the side, and whatever stands behind them, do not begin with a c
  pub missing-begins : is_complete n among side list accepters ≡ false → (rest : List ℕ) → get_or (side_lines n among side list accepters ++ rest) 0 0 ≡ 99 → ⊥
  missing-begins h rest =
      go (side_lines n among side list accepters)
      (subst Other (side-missing n among side list accepters h) other-lines)
      (λ e. clash (none-complete n among side list accepters (side-missing n among side list accepters h ∙ e)) h)
    where
      go : (l : List ℕ) → Other l → (l ≡ [] → ⊥) → get_or (l ++ rest) 0 0 ≡ 99 → ⊥
      go [] o f e = f refl
      go (x ∷ l) o f e = o.first e

pub complete-said : CompleteSaid
complete-said n among side list accepters =
    (said-complete n among side list accepters, λ e. sym (side-complete n among side list accepters e))
