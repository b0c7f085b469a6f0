-- `blocks_unmet` meets its contract: what is left without the others of w has v, so that it holds a slice exactly if it meets the root.
use Prim.Native.Nat.{ℕ}
use mathlib.Core.Bool.{Bool, not, ◌&&◌}
use mathlib.Core.Path.{sym, ap, ap₂, ◌∙◌}
use native.Mathlib.Omega.{arith}
use Rattle.masks.proofs.Laws.AllBelow.{in_all}
use Rattle.masks.proofs.Laws.Single.{∈-single}
use Rattle.masks.proofs.Laws.Subsets.{∈-minus, minus-not-in}
use Rattle.masks.specs.Mask.{minus, others, all_below, ◌∈◌}
use Rattle.sets.proofs.Rows.{rows-sites, sets-blocked}
use Rattle.sets.specs.Inner.Rows.{row_holds}
use Rattle.table.specs.Table.{site_of}
use Rattle.threshold_row.specs.Inner.Row.{sets_of}
use Rattle.threshold_sets.specs.Met.{root_met}
use Rattle.sets.proofs.blocks_unmet.Goals as goal

pub single-own-requires : goal.single-own-requires
single-own-requires c =
    let p = c.requires in omega (arith, p.rows.few-sites, p.v_lt_n)

pub all_below-all-requires : goal.all_below-all-requires
all_below-all-requires c =
    c.requires.rows.few-sites

pub returns : goal.returns
returns c =
    let a = c.args in let t = a.table.now in
    let rest = minus (all_below a.n) (others a.w a.v) in
    let e = c.minus-2.ensures ∙ ap₂ minus c.all_below-all.ensures (c.minus.ensures ∙ ap (minus a.w) c.single-own.ensures) in
    let own : a.v ∈ rest = ∈-minus (in_all c.requires.v_lt_n) (λ h. minus-not-in a.w h (∈-single a.v)) in
    ap not (c.is_met.ensures ∙ ap (root_met (sets_of (site_of t a.v))) e ∙ sym (ap (λ (b : Bool). b && root_met (sets_of (site_of t a.v)) rest) own.holds))
    ∙ sym (sets-blocked t a.v c.requires.v_value a.w ∙ ap (λ (k : ℕ). not (row_holds t a.v (minus (all_below k) (others a.w a.v)))) (rows-sites c.requires.rows))
