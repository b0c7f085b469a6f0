-- Laws of writing: a way out each, and what an answer says that is no refusal.
use Rattle.refusals.specs.Check.{Check}
use Rattle.std.specs.Prelude.{Ok, Err}
use Prim.Native.Nat.{ℕ, ◌*◌, ◌≤◌, ◌<◌}
use mathlib.Core.Bool.{true, false}
use mathlib.Core.List.{List}
use mathlib.Core.Path.{◌≡◌, refl, sym, ap, ◌∙◌}
use native.Mathlib.Omega.{arith}
use lib.Dec.{ltb}
use lib.ListN.{length}
use borrow.Author.Tests.{lt-ltb, le-ltb}
use Rattle.image_write.specs.Write.{write_check, to_writing, write}
use Rattle.refusals.proofs.First.{missed}
use Rattle.refusals.specs.declared.Refusal.TheVariants.{Length, Room}
use Rattle.table.proofs.Table.{well-shaped}
use Rattle.table.specs.Table.{sites, table_misshapen, sites_check}

module _ (t : List ℕ) (room : ℕ) where
  pub write-length : table_misshapen (length t) ≡ true → write t room ≡ Err Length
  unfolding write write_check
  write-length e = rw e refl

  module _ (e : table_misshapen (length t) ≡ false) where
    pub write-room : room < 512 * sites (length t) → write t room ≡ Err Room
    unfolding write write_check
    write-room l = rw (e, lt-ltb room (512 * sites (length t)) l) refl

    pub write-sites : 512 * sites (length t) ≤ room → (s : Check) → sites_check (sites (length t)) t ≡ s → write t room ≡ to_writing (sites (length t)) s
    unfolding write write_check
    write-sites l s h = rw (e, le-ltb room (512 * sites (length t)) l, h) refl

  pub write-taken : (n : ℕ) → write t room ≡ Ok n → (table_misshapen (length t) ≡ false) × (sites (length t) ≡ n) × (sites_check n t ≡ Ok tt)
  unfolding write write_check
  write-taken n h =
      let k = sites (length t) in
      let d = done k n (write_check t room) h in
      let p = missed (table_misshapen (length t)) Length _ d.0 in
      let q = missed (ltb room (512 * k)) Room (sites_check k t) p.1 in
      (p.0, d.1, ap (λ (x : ℕ). sites_check x t) (sym d.1) ∙ q.1)
    where
      done : (k n : ℕ) (s : Check) → to_writing k s ≡ Ok n → (s ≡ Ok tt) × (k ≡ n)
      done k n (Ok _) h = (refl, cc)
      done k n (Err r) h = let z : ◌≡◌ {A = ℕ} 0 1 = cc in absurd (omega arith)

-- a table of n sites that pass, and room for them
pub write-all : (t : List ℕ) (room n : ℕ) → length t ≡ 63 * n → 1 ≤ n → n ≤ 64 → 512 * n ≤ room → sites_check n t ≡ Ok tt → write t room ≡ Ok n
write-all t room n len p q l h =
    let k : sites (length t) ≡ n = omega arith in
    write-sites t room (well-shaped (length t) (omega arith) (λ z. omega arith) (rw k q)) (rw k l) (Ok tt) (rw k h) ∙ ap Ok k
