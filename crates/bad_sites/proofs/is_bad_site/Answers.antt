-- `is_bad_site` meets its contract: who has nothing of either side is not bad; else no side before is bad.
use mathlib.Core.Path.{◌≡◌, sym, ◌∙◌}
use native.Mathlib.Omega.{arith}
use borrow.Author.Rules.{rules}
use Rattle.ground.proofs.Some.{some-none, some_more}
use Rattle.rules.proofs.WorkWays.{rows-rests}
use Rattle.rules.specs.Sound.{bad_side}
use Rattle.bad_sites.proofs.SilentLaws.{silent-site, sides-good, sides-bad}
use Rattle.sets.specs.Inner.Rows.{row_questions}
use Rattle.bad_sites.proofs.is_bad_site.Goals as goal

pub is_silent-requires : goal.is_silent-requires
is_silent-requires c =
    let p = c.requires in record { state_len = p.state_len; n_bound = p.rows.few-sites; v_lt_n = p.v_lt_n }

pub returns-then-is_silent : goal.returns-then-is_silent
returns-then-is_silent c =
    let a = c.args in let p = c.requires in record { value = silent-site (rows-rests p.rows) a.faulty a.state.now a.v p.v_lt_n p.named_value (sym c.is_silent.ensures ∙ c.if-is_silent.true); asked_2 = p.asked }

pub loop-side-init : goal.loop-side-init
loop-side-init c =
    (some-none _, c.requires.asked)

pub is_bad_side-requires : goal.is_bad_side-requires
is_bad_side-requires c =
    let p = c.requires in record { rows = p.rows; state_len = p.state_len; v_lt_n = p.v_lt_n; side_bound = search rules; asked = c.loop-side.invariant.1 }

pub returns-then-is_bad_side : goal.returns-then-is_bad_side
returns-then-is_bad_side c =
    let a = c.args in let r = c.is_bad_side.ensures in record
    { value = sides-bad (row_questions a.table.now a.n) a.n a.faulty a.state.now a.v r.value c.loop-side.invariant.0 c.loop-side-test.true c.if-is_bad_side.true; asked_2 = r.asked_2 }

pub loop-side-preserved : goal.loop-side-preserved
loop-side-preserved c =
    let a = c.args in let r = c.is_bad_side.ensures in
    (some_more c.loop-side.side (bad_side (row_questions a.table.now a.n) a.n a.faulty a.state.now a.v) c.loop-side.invariant.0 (sym r.value ∙ c.if-is_bad_side.false), r.asked_2)

pub returns : goal.returns
returns c =
    let a = c.args in let Q = row_questions a.table.now a.n in
    let e : c.loop-side.side ≡ 2 = omega arith in record { value = sides-good Q a.n a.faulty a.state.now a.v (rw e at c.loop-side.invariant.0); asked_2 = c.loop-side.invariant.1 }
