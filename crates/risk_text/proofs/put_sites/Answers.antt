-- `put_sites` meets its contract: after v turns the lines of the first v sites stand in the room.
use Prim.Native.Nat.{◌-◌}
use mathlib.Core.Path.{◌≡◌, refl, sym, ap, ◌∙◌}
use native.Mathlib.Omega.{arith}
use Rattle.ground.specs.Pieces.{cat}
use Rattle.lines.proofs.Chain.{as-text}
use Rattle.members.proofs.Laws.{more, cat-none, cat-le}
use Rattle.risk_text.specs.RiskText.{risk_line}
use Rattle.sets.specs.Inner.Rows.{rules_of}
use Rattle.text.proofs.Written.{written-nothing}
use Rattle.risk_text.proofs.Ways.{length-site}
use Rattle.risk_text.proofs.put_sites.Goals as goal

pub loop-v-init : goal.loop-v-init
loop-v-init c =
    let a = c.args in (
      omega arith,
      refl,
      as-text (sym (cat-none (risk_line (rules_of a.table.now) a.n))) (record { place = omega arith; memory = sym (written-nothing _ _); inside = omega arith }),
    )

pub put_site-end-requires : goal.put_site-end-requires
put_site-end-requires c =
    let l = c.loop-v in let f = risk_line (rules_of c.args.table.now) c.args.n in record {
      at_in_bounds = omega (arith, c.requires.n_in_bounds, c.loop-v.invariant.2.place, cat-le f 47 c.loop-v.v (λ i h. length-site (rules_of c.args.table.now) c.args.n i));
      rows = c.requires.rows;
      n_bound = c.requires.n_bound;
      v_lt_n = c.loop-v-test.true;
    }

pub loop-v-preserved : goal.loop-v-preserved
loop-v-preserved c =
    let p = c.put_site-end in let l = c.loop-v in let a = c.args in (
      omega arith,
      c.put_site-end.auto.room ∙ c.loop-v.invariant.1,
      more (risk_line (rules_of a.table.now) a.n) c.loop-v.v c.loop-v.invariant.2 c.put_site-end.ensures (omega arith),
    )

pub returns : goal.returns
returns c =
    let l = c.loop-v in let a = c.args in let e : c.loop-v.v ≡ a.n = omega arith in
    as-text (ap (cat (risk_line (rules_of a.table.now) a.n)) e) c.loop-v.invariant.2
