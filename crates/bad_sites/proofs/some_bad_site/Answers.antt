-- `some_bad_site` meets its contract: no site before v is bad, and what is kept from one question to the next is known.
use mathlib.Core.Path.{◌≡◌, sym}
use native.Mathlib.Omega.{arith}
use borrow.Author.Rules.{rules}
use Rattle.asking.proofs.AskedLaws.{asked-none}
use Rattle.ground.proofs.Some.{some-none}
use Rattle.rules.proofs.Ways.{sites-bad, sites-good}
use Rattle.rules.proofs.WorkWays.{rows-rests}
use Rattle.sets.specs.Inner.Rows.{row_questions}
use Rattle.bad_sites.proofs.some_bad_site.Goals as goal

pub named-named-requires : goal.named-named-requires
named-named-requires c =
    let p = c.requires in record { state_len = p.state_len; n_bound = p.rows.few-sites }

pub loop-v-init : goal.loop-v-init
loop-v-init c =
    (some-none _, asked-none (rows-rests c.requires.rows).promises c.args.n c.args.larger)

pub is_bad_site-requires : goal.is_bad_site-requires
is_bad_site-requires c =
    let p = c.requires in record { rows = p.rows; state_len = p.state_len; v_lt_n = search rules; named_value = c.named-named.ensures; asked = c.loop-v.invariant.1 }

pub returns-then-is_bad_site : goal.returns-then-is_bad_site
returns-then-is_bad_site c =
    let a = c.args in sites-bad (row_questions a.table.now a.n) a.n a.faulty a.state.now c.loop-v.v c.is_bad_site.ensures.value c.loop-v-test.true c.if-is_bad_site.true

pub loop-v-preserved : goal.loop-v-preserved
loop-v-preserved c =
    let a = c.args in let r = c.is_bad_site.ensures in (sites-good (row_questions a.table.now a.n) a.n a.faulty a.state.now c.loop-v.v r.value c.loop-v.invariant.0 c.if-is_bad_site.false, r.asked_2)

pub returns : goal.returns
returns c =
    let e : c.loop-v.v ≡ c.args.n = omega arith in
    sym (rw e at c.loop-v.invariant.0)
