-- `make` meets its contract: the lines from here on, behind the calls so far, give what the whole text gives.
use Prim.Native.Nat.{ℕ, ◌+◌, ◌≤◌, ◌<◌}
use mathlib.Core.List.{List}
use mathlib.Core.Path.{◌≡◌, refl, sym, ◌∙◌}
use native.Mathlib.Omega.{arith}
use lib.ListN.{length, drop}
use borrow.Author.Rules.{rules}
use Rattle.calls_text.specs.Pieces.{stops, upto}
use Rattle.calls_text.proofs.Cuts.{upto-inside}
use Rattle.calls_text.proofs.Room.{after_line, after-fault, after-all}
use Rattle.calls_text.proofs.make.Goals as goal

ends : (text : List ℕ) (at end : ℕ) → at < length text → end ≡ at + upto (stops 10) (drop at text) → (at ≤ end) × (end ≤ length text)
ends text at end h e = upto-inside (stops 10) text at end (omega arith) e

pub loop-at-init : goal.loop-at-init
loop-at-init c =
    (omega arith, omega arith, omega arith, refl, omega arith, refl, refl)

pub line_at-line-requires : goal.line_at-line-requires
line_at-line-requires c =
    let r = ends c.args.text.now c.loop-at.at c.upto-end.result c.loop-at-test.true c.upto-end.ensures in record { at_le_end = r.0; end_in_bounds = r.1 }

pub take-requires : goal.take-requires
take-requires c =
    let l = c.loop-at in record { room_len = search rules; n_bound = c.loop-at.invariant.2; n_value = c.loop-at.invariant.3 }

pub overflow_add-at : goal.overflow_add-at
overflow_add-at c =
    let i = ends c.args.text.now c.loop-at.at c.upto-end.result c.loop-at-test.true c.upto-end.ensures in
    search rules

pub loop-at-smaller : goal.loop-at-smaller
loop-at-smaller c =
    let i = ends c.args.text.now c.loop-at.at c.upto-end.result c.loop-at-test.true c.upto-end.ensures in
    omega arith

pub loop-at-preserved : goal.loop-at-preserved
loop-at-preserved c =
    let t = c.take in let l = c.loop-at in let a = c.args in let text = a.text.now in
    let i = ends text c.loop-at.at c.upto-end.result c.loop-at-test.true c.upto-end.ensures in
    let inv = c.loop-at.invariant in let z = after_line text a.room.now c.loop-at.room c.take.new.room c.loop-at.number c.loop-at.at c.loop-at.n c.upto-end.result c.line_at-line.result
    (omega arith) inv.4 c.upto-end.ensures c.line_at-line.ensures inv.6
    c.in-Ok.m inv.2 inv.3 inv.5 (sym c.take.ensures.answer ∙ c.in-Ok.is) c.take.ensures.memory in
    (omega arith, omega arith, z.0, z.1, z.2, z.3, z.4)

pub returns-in-Err : goal.returns-in-Err
returns-in-Err c =
    let t = c.take in let l = c.loop-at in let a = c.args in let inv = c.loop-at.invariant in let r = after-fault a.text.now a.room.now c.loop-at.room c.take.new.room c.loop-at.number
    c.loop-at.at c.loop-at.n c.upto-end.result c.line_at-line.result
    (omega arith) inv.4 c.upto-end.ensures c.line_at-line.ensures inv.6
    c.in-Err.wanted inv.5 (sym c.take.ensures.answer ∙ c.in-Err.is) c.take.ensures.memory in record { answer = r.0; memory = r.1 }

pub returns : goal.returns
returns c =
    let l = c.loop-at in let a = c.args in let r = after-all a.text.now a.room.now c.loop-at.room c.loop-at.number c.loop-at.at c.loop-at.n c.loop-at-test.false c.loop-at.invariant.4
    c.loop-at.invariant.5 c.loop-at.invariant.6 in record { answer = r.0; memory = r.1 }
