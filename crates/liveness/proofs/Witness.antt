-- The premises are met by the full list, and needed: the checker computes the runs.
use Prim.Native.Nat.{ℕ, zero, suc, ◌<◌}
use mathlib.Core.Bool.{true, false}
use mathlib.Core.Path.{◌≡◌, refl}
use native.Mathlib.Omega.{arith}
use lib.ListN.{length}
use Rattle.liveness.proofs.Complete.{complete-decided}
use Rattle.liveness.specs.Complete.{is_complete}
use Rattle.liveness.specs.Liveness.{accepters, Confirmed, end_mark}
use Rattle.liveness.specs.Witness.{short_list, full_list, room, Met, Needed, edges, EdgesHold}
use Rattle.mark.specs.Mark.{mark}
use Rattle.masks.proofs.Laws.Subsets.{mem}
use Rattle.masks.specs.Mask.{has, within, minus, gather, ◌∈◌}
use Rattle.rules.specs.Rules.{answer, taken}
use Rattle.rules.specs.State.{add}
use Rattle.run.proofs.Public.{is-checked}
use Rattle.run.specs.Examples.{table_b}
use Rattle.run.specs.Run.{ran, state_into, list_misshapen}
use Rattle.run.specs.Theorems.{Taken}
use Rattle.sets.specs.Groups.{fbqs_in, slices_in, Checked}
use Rattle.sets.specs.Paper.{Intersection, Intact}
use Rattle.sets.specs.Promises.{questions_of}
use Rattle.sets.specs.Slices.{slices_of}
use Rattle.table.specs.Table.{check}
use Rattle.verdicts.proofs.Decides.{table-verdicts}
use Rattle.verdicts.specs.Verdicts.{meets, intact}

full-taken : Taken table_b 8 full_list (room 22) (room 15) 2
unfolding ran check questions_of slices_of answer taken has within add gather minus
full-taken = record { took = refl }

short-taken : Taken table_b 8 short_list (room 22) (room 14) 2
unfolding ran check questions_of slices_of answer taken has within add gather minus
short-taken = record { took = refl }

table : Checked table_b
table = is-checked full-taken

is_shared : Intersection (fbqs_in table_b)
unfolding meets slices_of has within gather minus
is_shared = (table-verdicts table_b table).meets-decides.0 refl

intact-7 : intact (slices_in table_b) 4 8 ≡ 7
unfolding intact slices_of has within gather minus
intact-7 = refl

in-7 : (v : ℕ) → v < 3 → v ∈ 7
unfolding has
in-7 zero h = mem refl
in-7 (suc zero) h = mem refl
in-7 (suc (suc zero)) h = mem refl
in-7 (suc (suc (suc v))) h = absurd (omega arith)

is-intact : (v : ℕ) → v < 3 → Intact (fbqs_in table_b) 8 v
is-intact v h = ((table-verdicts table_b table).intact-set 8 v).0 (rw intact-7 (in-7 v h))

full-confirms : Confirmed table_b 8 full_list (room 22) 2 0 0
unfolding state_into questions_of slices_of answer taken has within add gather minus
full-confirms = mem refl

short-confirms : Confirmed table_b 8 short_list (room 22) 2 0 0
unfolding state_into questions_of slices_of answer taken has within add gather minus
short-confirms = mem refl

full-complete : is_complete 4 (intact (slices_in table_b) 4 8) 0 full_list (accepters table_b 8 full_list (room 22) 2 0) ≡ true
unfolding is_complete intact state_into questions_of slices_of answer taken has within add gather minus
full-complete = refl

full-length : list_misshapen (length full_list) ≡ false
unfolding list_misshapen
full-length = refl

pub met : Met
met = (
  record { took = full-taken; shared = is_shared; intact = is-intact; confirms = full-confirms },
  record {
    ran = full-taken;
    shared = is_shared;
    complete = (complete-decided table_b 8 0 full_list (accepters table_b 8 full_list (room 22) 2 0) table full-length).0 full-complete;
  },
)

short-drill : end_mark table_b 8 short_list (room 22) 2 0 ≡ 1
unfolding mark state_into questions_of slices_of answer taken has within add gather minus
short-drill = refl

short-live : end_mark table_b 8 short_list (room 22) 2 1 ≡ 0
unfolding mark state_into questions_of slices_of answer taken has within add gather minus
short-live = refl

pub needed : Needed
needed = (record { took = short-taken; shared = is_shared; intact = is-intact; confirms = short-confirms }, short-drill, short-live)

pub edges-hold : EdgesHold
unfolding edges
edges-hold = refl
