-- Laws of the journal's check: a way out each, and what a journal is that it takes.
use Prim.Native.Nat.{ℕ, zero, suc, ◌+◌, ◌*◌, ◌%◌, ◌≤◌, ◌<◌}
use mathlib.Core.Bool.{not, or-true}
use mathlib.Core.List.{List}
use mathlib.Core.Path.{◌≡◌, refl, ap, subst, ◌∙◌}
use native.Mathlib.Omega.{arith}
use lib.Dec.{eqb, ltb}
use lib.ListN.{length}
use borrow.Author.Tests.{eq-eqb, ne_eqb, lt-ltb, le-ltb, eqb-true, ltb-false, not-false}
use Rattle.ground.proofs.Logic.{or-none}
use Rattle.ground.specs.Pieces.{part}
use Rattle.journal.specs.Journal.{journal_misshapen, call_count, journal_check, size_of, to_checked, check, list_check, to_listed, listed}
use Rattle.journal.specs.declared.Size.{Size}
use Rattle.journal_block.specs.Block.{calls_field}
use Rattle.journal_blocks.proofs.Journal.{total, nothing}
use Rattle.journal_blocks.specs.Journal.{blocks_in, journal_blocks_check, list_of}
use Rattle.refusals.proofs.First.{missed, kept, or_else-sound}
use Rattle.refusals.specs.Check.{Check}
use Rattle.std.specs.Prelude.{Ok, Err}
use Rattle.refusals.specs.declared.Refusal.{Refusal}
use Rattle.refusals.specs.declared.Refusal.TheVariants.{Journal, Room}

-- how many calls sound blocks hold
module _ (j : List ℕ) (k : ℕ) (len : length j ≡ 512 * k) (sound : journal_blocks_check k j ≡ Ok tt) where
  pub calls-none : k ≡ 0 → 0 ≡ call_count (list_of j)
  calls-none e = omega (arith, nothing j k len sound e)

  pub calls-some : (n : ℕ) → k ≡ suc n → 125 * n + calls_field (part 512 n j) ≡ call_count (list_of j)
  calls-some n e = omega (arith, total j k len sound n e)

  -- whole calls
  pub list-whole : length (list_of j) ≡ 4 * call_count (list_of j)
  list-whole = go k refl
    where
      go : (n : ℕ) → k ≡ n → length (list_of j) ≡ 4 * call_count (list_of j)
      go zero e = omega (arith, nothing j k len sound e)
      go (suc n) e = omega (arith, total j k len sound n e)

-- the ways out
module _ (j : List ℕ) where
  pub odd-bytes : (length j % 512 ≡ 0 → ⊥) → check j ≡ Err Journal
  unfolding check journal_check journal_misshapen
  odd-bytes ne = rw (ne_eqb (length j % 512) 0 ne) refl

  pub many-bytes : 16896 < length j → check j ≡ Err Journal
  unfolding check journal_check journal_misshapen
  many-bytes h = rw (lt-ltb 16896 (length j) h, or-true) refl

  module _ (e : length j % 512 ≡ 0) (l : length j ≤ 16896) where
    pub bad-block : (r : Refusal) → journal_blocks_check (blocks_in (length j)) j ≡ Err r → check j ≡ Err r
    unfolding check journal_check journal_misshapen
    bad-block r h = rw (eq-eqb (length j % 512) 0 e, le-ltb 16896 (length j) l, h) refl

    module _ (s : journal_blocks_check (blocks_in (length j)) j ≡ Ok tt) where
      pub many-calls : 4096 < call_count (list_of j) → check j ≡ Err Refusal.List
      unfolding check journal_check journal_misshapen
      many-calls h = rw (eq-eqb (length j % 512) 0 e, le-ltb 16896 (length j) l, s, lt-ltb 4096 (call_count (list_of j)) h) refl

      pub taken : call_count (list_of j) ≤ 4096 → check j ≡ Ok (size_of (blocks_in (length j)) (call_count (list_of j)))
      unfolding check journal_check journal_misshapen
      taken h = rw (eq-eqb (length j % 512) 0 e, le-ltb 16896 (length j) l, s, le-ltb 4096 (call_count (list_of j)) h) refl

-- a journal that the check takes
pub record Whole (j : List ℕ) (blocks calls : ℕ) : Type 0 where
  pub passed : journal_check j ≡ Ok tt
  pub long : length j ≡ 512 * blocks
  pub few-blocks : blocks ≤ 33
  pub sound : journal_blocks_check blocks j ≡ Ok tt
  pub counts : call_count (list_of j) ≡ calls
  pub bytes : length (list_of j) ≡ 4 * calls
  pub few-calls : calls ≤ 4096

-- what an answer says of the check
answer-sound : (a b m n : ℕ) (x : Check) → to_checked a b x ≡ Ok (size_of m n) → (x ≡ Ok tt) × (a ≡ m) × (b ≡ n)
answer-sound a b m n (Ok _) h = let e : size_of a b ≡ size_of m n = cc in (refl, ap (λ (x : Size). x.blocks) e, ap (λ (x : Size). x.calls) e)
answer-sound a b m n (Err r) h = let z : ◌≡◌ {A = ℕ} 0 1 = cc in absurd (omega arith)

pub answer-refused : (a b : ℕ) (x : Check) (r : Refusal) → to_checked a b x ≡ Err r → x ≡ Err r
answer-refused a b (Ok _) r h = let z : ◌≡◌ {A = ℕ} 0 1 = cc in absurd (omega arith)
answer-refused a b (Err s) r h = cc

pub whole : (j : List ℕ) (blocks calls : ℕ) → check j ≡ Ok (size_of blocks calls) → Whole j blocks calls
unfolding check journal_check journal_misshapen
whole j blocks calls h =
    let a = answer-sound (blocks_in (length j)) (call_count (list_of j)) blocks calls (journal_check j) h in
    let x = missed (journal_misshapen (length j)) Journal _ a.0 in
    let y = or-none (not (eqb (length j % 512) 0)) (ltb 16896 (length j)) x.0 in
    let e = eqb-true (length j % 512) 0 (not-false _ y.0) in
    let l = ltb-false 16896 (length j) y.1 in
    let z = or_else-sound (journal_blocks_check (blocks_in (length j)) j) _ x.1 in
    let len : length j ≡ 512 * blocks_in (length j) = omega (arith, e) in
    record {
      passed = a.0;
      long = omega (arith, len, a.1);
      few-blocks = omega (arith, l, a.1);
      sound = subst (λ (k : ℕ). journal_blocks_check k j ≡ Ok tt) a.1 z.0;
      counts = a.2;
      bytes = list-whole j (blocks_in (length j)) len z.0 ∙ ap (λ (c : ℕ). 4 * c) a.2;
      few-calls = let m = ltb-false 4096 (call_count (list_of j)) (kept _ Refusal.List z.1) in omega (arith, m, a.2);
    }

pub listed-taken : (m n : ℕ) (s : Check) → to_listed m s ≡ Ok n → (s ≡ Ok tt) × (m ≡ n)
listed-taken m n (Ok _) h = (refl, cc)
listed-taken m n (Err r) h = let z : ◌≡◌ {A = ℕ} 0 1 = cc in absurd (omega arith)

pub listed-stopped : (m : ℕ) (s : Check) (r : Refusal) → to_listed m s ≡ Err r → s ≡ Err r
listed-stopped m (Ok _) r h = let z : ◌≡◌ {A = ℕ} 0 1 = cc in absurd (omega arith)
listed-stopped m (Err x) r h = cc

-- reading the list
module _ (j : List ℕ) (room : ℕ) where
  pub list-refused : (r : Refusal) → check j ≡ Err r → listed j room ≡ Err r
  unfolding listed list_check check
  list-refused r h = rw (answer-refused (blocks_in (length j)) (call_count (list_of j)) (journal_check j) r h) refl

  module _ (p : journal_check j ≡ Ok tt) where
    pub list-room : room < length (list_of j) → listed j room ≡ Err Room
    unfolding listed list_check
    list-room h = rw (p, lt-ltb room (length (list_of j)) h) refl

    pub list_read : length (list_of j) ≤ room → listed j room ≡ Ok (length (list_of j))
    unfolding listed list_check
    list_read h = rw (p, le-ltb room (length (list_of j)) h) refl
