-- `is_met` meets its contract: the 63 numbers from 63 v on are the row of site v.
use Prim.Native.Nat.{ℕ, ◌-◌, ◌≤◌}
use mathlib.Core.List.{List}
use mathlib.Core.Path.{◌≡◌, sym, ap, ◌∙◌, subst}
use native.Mathlib.Omega.{arith}
use lib.ListN.{length, get_or}
use Rattle.ground.proofs.Pieces.{part_cut, length_part}
use Rattle.table.specs.Table.{count_of}
use Rattle.threshold_row.specs.Inner.Row.{sets_of}
use Rattle.threshold_sets.specs.Met.{root_met}
use Rattle.sets.proofs.is_met.Goals as goal

pub is_met-requires : goal.is_met-requires
is_met-requires c =
    let a = c.args in let t = a.table.now in
    let e = sym (part_cut 63 a.v t) in
    let S = c.requires.rows.sets a.v c.requires.v_lt_n c.requires.v_value in
    let some : 1 ≤ count_of t a.v - 64 = S.some-set in
    let few : count_of t a.v - 64 ≤ 49 = S.few-sets in
    let long = c.requires.rows.long in record {
      m_len = subst (λ (m : List ℕ). length m ≡ 63) e (length_part 63 a.v a.n t c.requires.v_lt_n (omega arith));
      bound = subst (λ (m : List ℕ). 65 ≤ get_or m 0 0) e (omega arith);
      m_bound = subst
          (λ (m : List ℕ). get_or m 0 0 ≤ 113) e (omega arith);
    }

pub returns : goal.returns
returns c =
    let a = c.args in c.is_met.ensures ∙ ap (λ (m : List ℕ). root_met (sets_of m) a.u) (part_cut 63 a.v a.table.now)
