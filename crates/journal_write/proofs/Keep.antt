-- Laws of the journal's writer: a way out each.
use Prim.Native.Nat.{ℕ, ◌*◌, ◌%◌, ◌≤◌, ◌<◌}
use mathlib.Core.Bool.{not, or-true}
use mathlib.Core.List.{List}
use mathlib.Core.Path.{◌≡◌, refl}
use native.Mathlib.Omega.{arith}
use lib.Dec.{eqb, ltb}
use lib.ListN.{length}
use borrow.Author.Tests.{eq-eqb, ne_eqb, lt-ltb, le-ltb, eqb-true, ltb-false, not-false}
use Rattle.ground.proofs.Logic.{or-none}
use Rattle.journal_write.specs.Keep.{keep_check, to_kept, keep}
use Rattle.journal_blocks.specs.Journal.{blocks_for}
use Rattle.refusals.proofs.First.{missed, kept}
use Rattle.refusals.specs.Check.{Check}
use Rattle.std.specs.Prelude.{Ok, Err}
use Rattle.refusals.specs.declared.Refusal.{Refusal}
use Rattle.refusals.specs.declared.Refusal.TheVariants.{Room}
use Rattle.run.specs.Run.{list_misshapen}

module _ (list : List ℕ) (room : ℕ) where
  pub odd-list : (length list % 4 ≡ 0 → ⊥) → keep list room ≡ Err Refusal.List
  unfolding keep keep_check list_misshapen
  odd-list ne = rw (ne_eqb (length list % 4) 0 ne) refl

  pub long-list : 16384 < length list → keep list room ≡ Err Refusal.List
  unfolding keep keep_check list_misshapen
  long-list h = rw (lt-ltb 16384 (length list) h, or-true) refl

  module _ (e : length list % 4 ≡ 0) (l : length list ≤ 16384) where
    pub no_room : room < 512 * blocks_for (length list) → keep list room ≡ Err Room
    unfolding keep keep_check list_misshapen
    no_room h = rw (eq-eqb (length list % 4) 0 e, le-ltb 16384 (length list) l, lt-ltb room (512 * blocks_for (length list)) h) refl

    pub written : 512 * blocks_for (length list) ≤ room → keep list room ≡ Ok (blocks_for (length list))
    unfolding keep keep_check list_misshapen
    written h = rw (eq-eqb (length list % 4) 0 e, le-ltb 16384 (length list) l, le-ltb room (512 * blocks_for (length list)) h) refl

-- what an answer says of the check
pub kept-taken : (n k : ℕ) (s : Check) → to_kept n s ≡ Ok k → (s ≡ Ok tt) × (n ≡ k)
kept-taken n k (Ok _) h = (refl, cc)
kept-taken n k (Err r) h = let z : ◌≡◌ {A = ℕ} 0 1 = cc in absurd (omega arith)

pub kept-stopped : (n : ℕ) (s : Check) (r : Refusal) → to_kept n s ≡ Err r → s ≡ Err r
kept-stopped n (Ok _) r h = let z : ◌≡◌ {A = ℕ} 0 1 = cc in absurd (omega arith)
kept-stopped n (Err x) r h = cc

-- a list that is written
pub record Writable (list : List ℕ) (room k : ℕ) : Type 0 where
  pub calls : length list % 4 ≡ 0
  pub short : length list ≤ 16384
  pub blocks : blocks_for (length list) ≡ k
  pub room_for : 512 * k ≤ room

pub writable : (list : List ℕ) (room k : ℕ) → keep list room ≡ Ok k → Writable list room k
unfolding keep keep_check list_misshapen
writable list room k h =
    let a = kept-taken (blocks_for (length list)) k (keep_check list room) h in
    let x = missed (list_misshapen (length list)) Refusal.List _ a.0 in
    let y = or-none (not (eqb (length list % 4) 0)) (ltb 16384 (length list)) x.0 in
    let m = ltb-false room (512 * blocks_for (length list)) (kept _ Room x.1) in
    record {
      calls = eqb-true (length list % 4) 0 (not-false _ y.0);
      short = ltb-false 16384 (length list) y.1;
      blocks = a.1;
      room_for = omega (arith, m, a.1);
    }
