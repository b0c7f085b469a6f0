-- The call at a place: a way out each, and that the reader gives the list of a sound journal, call by call, and then says that none is left.
use Prim.Native.Nat.{ℕ, zero, suc, ◌+◌, ◌*◌, ◌/◌, ◌%◌, ◌≤◌, ◌<◌}
use mathlib.Core.Bool.{Bool, true, false, ◌&&◌}
use mathlib.Core.List.{List}
use mathlib.Core.Path.{◌≡◌, refl, sym, ap, subst, ◌∙◌}
use native.Mathlib.Decide.{dec_lt}
use native.Mathlib.Omega.{arith}
use lib.Dec.{ltb}
use lib.ListN.{length, get_or, drop}
use lib.Seq.{get_or-take, get_or-drop}
use borrow.Author.Tests.{lt-ltb, le-ltb}
use Rattle.ground.specs.Pieces.{part}
use Rattle.journal.specs.Journal.{call_count}
use Rattle.journal_next.specs.Next.{gives, if_left, next}
use Rattle.journal_next.specs.Theorems.{Gives}
use Rattle.journal_next.specs.declared.Next.{Next}
use Rattle.journal_block.specs.Block.{calls_field, calls_in}
use Rattle.journal_blocks.proofs.Journal.{few, full, piece-length, pieces, total, nothing}
use Rattle.journal_blocks.proofs.Pieces.{cat-get}
use Rattle.journal_blocks.specs.Journal.{blocks_in, journal_blocks_check, list_of}
use Rattle.pass.specs.Calls.{call_at}
use Rattle.std.specs.Prelude.{Option, None, Ok}
use Rattle.votes.specs.Call.{Call, call}

none : (a : Bool) (x : Option Next) → if_left (a && false) x ≡ None
none true x = refl
none false x = refl

-- the call that stands at a place of a block
abbrev pub call_in : List ℕ → ℕ → Call
call_in b k = let at = 4 + 4 * k in call (get_or b at 0) (get_or b (at + 1) 0) (get_or b (at + 2) 0) (get_or b (at + 3) 0)

-- the ways out
module _ (j : List ℕ) (place : ℕ) where
  pub no_block : blocks_in (length j) ≤ place / 125 → next j place ≡ None
  unfolding next
  no_block h = rw (le-ltb (place / 125) (blocks_in (length j)) h) refl

  pub no_call : calls_field (part 512 (place / 125) j) ≤ place % 125 → next j place ≡ None
  unfolding next
  no_call h = rw (le-ltb (place % 125) (calls_field (part 512 (place / 125) j)) h) (none (ltb (place / 125) (blocks_in (length j))) _)

  pub a_call : place / 125 < blocks_in (length j) → place % 125 < calls_field (part 512 (place / 125) j)
      → next j place ≡ gives (call_in (part 512 (place / 125) j) (place % 125)) (suc place)
  unfolding next
  a_call h l = rw (lt-ltb (place / 125) (blocks_in (length j)) h, lt-ltb (place % 125) (calls_field (part 512 (place / 125) j)) l) refl

-- a journal of k sound blocks
module _ (j : List ℕ) (k : ℕ) (len : length j ≡ 512 * k) (sound : journal_blocks_check k j ≡ Ok tt) where
  abbrev b : ℕ → List ℕ
  b i = part 512 i j

  abbrev f : ℕ → List ℕ
  f i = calls_in (b i)

  -- a byte of the list stands in its block
  byte : (q r : ℕ) → q < k → r < 4 * calls_field (b q) → get_or (list_of j) (500 * q + r) 0 ≡ get_or (b q) (4 + r) 0
  byte q r h l =
      ap (λ (s : List ℕ). get_or s (500 * q + r) 0) (pieces j k len sound)
      ∙ cat-get f 500 k q r h (λ i g. piece-length j k len sound i (omega arith) ∙ ap (λ (c : ℕ). 4 * c) (full j k len sound i (omega arith)))
      (omega (arith, piece-length j k len sound q h, l))
      ∙ get_or-take (4 * calls_field (b q)) (drop 4 (b q)) r 0 l
      ∙ get_or-drop 4 (b q) r 0

  -- place i is in block i / 125, at i % 125
  gives-in : (i : ℕ) → i / 125 < k → i % 125 < calls_field (b (i / 125)) → next j i ≡ gives (call_at (list_of j) i) (suc i)
  gives-in i h l =
      a_call j i (omega (arith, h, len)) l
      ∙ (λ t. gives (record {
        kind = at 0 (4 + 4 * (i % 125)) (4 * i) (omega arith) (omega arith) (omega arith) t;
        from = at 1 (4 + 4 * (i % 125) + 1) (4 * i + 1) (omega arith) (omega arith) (omega arith) t;
        to = at 2 (4 + 4 * (i % 125) + 2) (4 * i + 2) (omega arith) (omega arith) (omega arith) t;
        side = at 3 (4 + 4 * (i % 125) + 3) (4 * i + 3) (omega arith) (omega arith) (omega arith) t;
      }) (suc i))
    where
      at : (m a p : ℕ) → m < 4 → a ≡ 4 + (4 * (i % 125) + m) → p ≡ 4 * i + m → get_or (b (i / 125)) a 0 ≡ get_or (list_of j) p 0
      at m a p hm ea e =
          let q : 500 * (i / 125) + (4 * (i % 125) + m) ≡ p = omega (arith, e) in
          ap (λ (x : ℕ). get_or (b (i / 125)) x 0) ea ∙ sym (byte (i / 125) (4 * (i % 125) + m) h (omega (arith, l, hm))) ∙ ap (λ (x : ℕ). get_or (list_of j) x 0) q

  inside : (n : ℕ) → k ≡ suc n → (i : ℕ) → i < call_count (list_of j) → Dec (i / 125 < n) → i % 125 < calls_field (b (i / 125))
  inside n e i h (yes l) = let c = full j k len sound (i / 125) (omega (arith, l, e)) in omega (arith, c)
  inside n e i h (no l) =
      let t = total j k len sound n e in
      let c = few j k len sound n (omega (arith, e)) in
      let q : i / 125 ≡ n = omega (arith, h, t, c, l) in
      subst (λ (x : ℕ). i % 125 < calls_field (b x)) (sym q) (omega (arith, h, t, q))

  past : (n : ℕ) → k ≡ suc n → (i : ℕ) → call_count (list_of j) ≤ i → Dec (i / 125 < suc n) → next j i ≡ None
  past n e i h (no l) = no_block j i (omega (arith, e, l, len))
  past n e i h (yes l) =
      let t = total j k len sound n e in
      let q : i / 125 ≡ n = omega (arith, h, t, l) in
      no_call j i (subst (λ (x : ℕ). calls_field (b x) ≤ i % 125) (sym q) (omega (arith, h, t, q)))

  pub gives-list : Gives j (list_of j)
  gives-list = record { each = each k refl; none_left = none_left k refl }
    where
      each : (n : ℕ) → k ≡ n → (i : ℕ) → i < call_count (list_of j) → next j i ≡ gives (call_at (list_of j) i) (suc i)
      each zero e i h = absurd (omega (arith, h, nothing j k len sound e))
      each (suc n) e i h =
          gives-in i (omega (arith, h, total j k len sound n e, few j k len sound n (omega (arith, e)), e)) (inside n e i h (dec_lt (i / 125) n))

      none_left : (n : ℕ) → k ≡ n → (i : ℕ) → call_count (list_of j) ≤ i → next j i ≡ None
      none_left zero e i h = no_block j i (omega (arith, e, len))
      none_left (suc n) e i h = past n e i h (dec_lt (i / 125) (suc n))
