-- `says` meets its contract: what is left of the line says behind what was heard so far what the whole line says.
use Prim.Native.Nat.{ℕ, ◌+◌, ◌≤◌, ◌<◌}
use mathlib.Core.List.{List}
use mathlib.Core.Path.{◌≡◌, refl, sym, ap, ◌∙◌}
use native.Mathlib.Omega.{arith}
use lib.ListN.{length, take, drop}
use lib.Seq.{length-take-le}
use borrow.Author.Rules.{rules}
use Rattle.call_words.specs.Grammar.{hear_all}
use Rattle.call_words.specs.declared.Heard.TheVariants.{Nothing}
use Rattle.calls_text.specs.Pieces.{stops, upto, pieces, filled, says}
use Rattle.calls_text.proofs.Cuts.{upto-inside, heard-more, heard-end}
use Rattle.calls_text.proofs.says.Goals as goal

cut : (line : List ℕ) (end : ℕ) → end ≡ 0 + upto (stops 35) (drop 0 line) → end ≡ length (take end line)
cut line end e = sym (length-take-le end line (upto-inside (stops 35) line 0 end (omega arith) e).1)

inside : (line : List ℕ) (end at stop : ℕ) → end ≡ 0 + upto (stops 35) (drop 0 line) → at < end → stop ≡ at + upto (stops 32) (drop at (take end line)) → (at ≤ stop) × (stop ≤ end) × (stop ≤ length (take end line))
inside line end at stop e h f =
    let l = cut line end e in
    let i = upto-inside (stops 32) (take end line) at stop (omega arith) f in
    (i.0, omega arith, i.1)

pub slice_bounds-line-end : goal.slice_bounds-line-end
slice_bounds-line-end c =
    cut c.args.line.now c.upto-end.result c.upto-end.ensures

pub loop-at-init : goal.loop-at-init
loop-at-init c =
    (omega arith, refl)

pub upto-stop-requires : goal.upto-stop-requires
upto-stop-requires c =
    omega (arith, cut c.args.line.now c.upto-end.result c.upto-end.ensures)

pub slice_bounds-hear_piece-count : goal.slice_bounds-hear_piece-count
slice_bounds-hear_piece-count c =
    (inside c.args.line.now c.upto-end.result c.loop-at.at c.upto-stop.result c.upto-end.ensures c.loop-at-test.true c.upto-stop.ensures).0

pub slice_bounds-hear_piece-start : goal.slice_bounds-hear_piece-start
slice_bounds-hear_piece-start c =
    (inside c.args.line.now c.upto-end.result c.loop-at.at c.upto-stop.result c.upto-end.ensures c.loop-at-test.true c.upto-stop.ensures).0

pub slice_bounds-hear_piece-end : goal.slice_bounds-hear_piece-end
slice_bounds-hear_piece-end c =
    (inside c.args.line.now c.upto-end.result c.loop-at.at c.upto-stop.result c.upto-end.ensures c.loop-at-test.true c.upto-stop.ensures).2

pub overflow_add-at : goal.overflow_add-at
overflow_add-at c =
    let i = inside c.args.line.now c.upto-end.result c.loop-at.at c.upto-stop.result c.upto-end.ensures c.loop-at-test.true
    c.upto-stop.ensures in
    let j = upto-inside (stops 35) c.args.line.now 0 c.upto-end.result (omega arith) c.upto-end.ensures in
    search rules

pub loop-at-smaller : goal.loop-at-smaller
loop-at-smaller c =
    let i = inside c.args.line.now c.upto-end.result c.loop-at.at c.upto-stop.result c.upto-end.ensures c.loop-at-test.true
    c.upto-stop.ensures in
    omega arith

pub loop-at-preserved : goal.loop-at-preserved
loop-at-preserved c =
    let l = c.loop-at in let p = c.upto-stop in let line = c.args.line.now in let i = inside line c.upto-end.result c.loop-at.at c.upto-stop.result c.upto-end.ensures c.loop-at-test.true c.upto-stop.ensures in (
      omega arith,
      c.loop-at.invariant.1 ∙ heard-more (stops 32) c.loop-at.s (take c.upto-end.result line) c.loop-at.at c.upto-stop.result c.upto-stop.ensures
          ∙ ap (λ s. hear_all s (filled (pieces (stops 32) (drop (c.upto-stop.result + 1) (take c.upto-end.result line))))) (sym c.hear_piece-s.ensures),
    )

pub returns : goal.returns
unfolding says
returns c =
    let l = c.loop-at in let line = c.args.line.now in let e = cut line c.upto-end.result c.upto-end.ensures in
    let h : length (take c.upto-end.result line) ≤ c.loop-at.at = omega arith in
    let z : c.upto-end.result ≡ upto (stops 35) line = omega (arith, c.upto-end.ensures) in
    c.closed.ensures ∙ sym (heard-end (stops 32) c.loop-at.s (take c.upto-end.result line) c.loop-at.at h) ∙ sym c.loop-at.invariant.1 ∙ ap (λ k. hear_all Nothing (filled (pieces (stops 32) (take k line)))) z
