-- `sites_named` meets its contract: what is still to be read gives, from here, what the whole word gives.
use Prim.Native.Nat.{◌≤◌, ◌+◌}
use mathlib.Core.Path.{sym, ◌∙◌}
use native.Mathlib.Omega.{arith}
use lib.ListN.{drop, drop_of_length-le}
use Rattle.faulty_sites.specs.Faulty.{so_far}
use Rattle.faulty_sites.proofs.Laws.{end_none, ended, comma-none, comma-twice, comma-site, no-comma, no_site}
use Rattle.faulty_sites.proofs.sites_named.Goals as goal
use Rattle.faulty_sites.proofs.sites_named.Goals.{then-b-eq44+in_ok-site+in_ok-m, else-b-eq44+in_ok-digit_after}

pub returns-in_err-site : goal.returns-in_err-site
returns-in_err-site c =
    let none : 64 ≤ so_far c.loop-b.site = rw c.in_err-site.was (omega arith) in
    c.from_residual.ensures
    ∙ sym (comma-none c.loop-b.m (so_far c.loop-b.site) c.args.word.now c.loop-b.b-index c.loop-b-test.true c.if-b-eq44.true none) ∙ c.loop-b.invariant.1

pub returns-in_err-m : goal.returns-in_err-m
returns-in_err-m c =
    let i = rw c.in_ok-site.was at c.loop-b.invariant in
    c.from_residual-in_err-m.ensures
    ∙ sym (comma-twice c.loop-b.m c.in_ok-site.field-0 c.args.word.now c.loop-b.b-index c.loop-b-test.true c.if-b-eq44.true c.in_err-m.ensures i.0) ∙ i.1

pub returns-in_err-digit_after : goal.returns-in_err-digit_after
returns-in_err-digit_after c =
    let l = no-comma c.loop-b.m (so_far c.loop-b.site) c.args.word.now c.loop-b.b-index c.loop-b-test.true c.if-b-eq44.false in
    c.from_residual-in_err-digit_after.ensures
    ∙ sym (no_site c.loop-b.m (drop (c.loop-b.b-index + 1) c.args.word.now)) ∙ sym (rw c.in_err-digit_after.ensures at l) ∙ c.loop-b.invariant.1

pub loop-b-preserved : goal.loop-b-preserved
loop-b-preserved c =
    let w = c.args.word.now in let b = c.loop-b.b-index in let m = c.loop-b.m in
    elim c.if-b-eq44.branch [
      | then-b-eq44+in_ok-site+in_ok-m k ↦
          let i = rw k.in_ok-site.was at c.loop-b.invariant in (
            rw k.site-is tt,
            rw (k.site-is, k.m-is, k.in_ok-m.ensures.1)
                (sym (comma-site m k.in_ok-site.field-0 w b c.loop-b-test.true k.if-b-eq44.true k.in_ok-m.ensures.0 i.0) ∙ i.1),
          )
      | else-b-eq44+in_ok-digit_after k ↦ (
        rw k.site-is k.in_ok-digit_after.ensures.1,
        rw (k.site-is, k.m-is, k.in_ok-digit_after.ensures.0)
            (sym (no-comma m (so_far c.loop-b.site) w b c.loop-b-test.true k.if-b-eq44.false) ∙ c.loop-b.invariant.1),
      )
    ]

pub returns-in_err-site-2 : goal.returns-in_err-site-2
returns-in_err-site-2 c =
    let z = drop_of_length-le c.args.word.now {i = c.loop-b.b-index} (omega arith) in
    let none : 64 ≤ so_far c.loop-b.site = rw c.in_err-site-2.was (omega arith) in
    c.from_residual-in_err-site-2.ensures ∙ sym (end_none c.loop-b.m (so_far c.loop-b.site) none) ∙ (rw z at c.loop-b.invariant.1)

pub returns : goal.returns
returns c =
    let z = drop_of_length-le c.args.word.now {i = c.loop-b.b-index} (omega arith) in
    let i = rw (c.in_ok-site-2.was, z) at c.loop-b.invariant in
    ended c.loop-b.m c.in_ok-site-2.field-0 c.with_site-2.result i.0 c.with_site-2.ensures ∙ i.1
