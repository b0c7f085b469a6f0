-- What is left to read gives what the whole text gives.
use mathlib.Core.Path.{refl, ap, ◌∙◌}
use native.Mathlib.Omega.{arith}
use Prim.Native.Nat.{ℕ, ◌+◌}
use mathlib.Core.List.{List}
use lib.ListN.{length, get_or, replicate}
use Rattle.threshold_reading.proofs.Steps.{sane-eq, start-sane, heard-after, heard-few, heard-length, walk_step, walk_end, zero-at}
use Rattle.threshold_words.specs.declared.Begun.TheVariants.{Fresh}
use Rattle.threshold_grammar.specs.declared.Spot.{Spot}
use Rattle.threshold_reading.specs.Lines.{inner_at}
use Rattle.threshold_reading.specs.Reading.{threshold_here, threshold_read_on, threshold_start}
use Rattle.threshold_reading.proofs.walk.Goals as goal

pub loop-b-init : goal.loop-b-init
loop-b-init c =
    let p = c.requires in let a = c.args in let o = c.outside-s.ensures in (
      refl,
      omega (arith, ap (λ (x : Spot). x.line) c.outside-s.ensures),
      sane-eq c.outside-s.ensures start-sane,
      (λ u i l. let z = ap (λ (x : List ℕ). get_or x (inner_at u i) 0) c.requires ∙ zero-at 9472 (inner_at u i) in omega (arith, z)),
      ap (λ (x : Spot). threshold_read_on (threshold_here Fresh x a.t.now) a.text.now) c.outside-s.ensures ∙ ap (λ (x : List ℕ). threshold_read_on (threshold_here Fresh threshold_start x) a.text.now) c.requires,
    )

pub loop-b-preserved : goal.loop-b-preserved
loop-b-preserved c =
    let l = c.loop-b in let a = c.args in let h = c.hear-s in let g = c.sign_of-c in let z = heard-after c.sign_of-c.result c.loop-b.w c.loop-b.s c.loop-b.t c.loop-b.invariant.2 in
    let n = ap (λ (x : Spot). x.line) c.hear-s.ensures.0 in (
      ap length c.hear-s.ensures.1 ∙ heard-length c.sign_of-c.result c.loop-b.w c.loop-b.s c.loop-b.t ∙ c.loop-b.invariant.0,
      omega (arith, z.1),
      sane-eq c.hear-s.ensures.0 z.0,
      (λ u i k. let y = heard-few c.sign_of-c.result c.loop-b.w c.loop-b.s c.loop-b.t (c.loop-b.b-index + 1) c.loop-b.invariant.2 c.loop-b.invariant.3 u i k in
          omega (arith, y, ap (λ (x : List ℕ). get_or x (inner_at u i) 0) c.hear-s.ensures.1)),
      walk_step c.loop-b.w _ c.loop-b.s _ c.loop-b.t _ a.text.now c.loop-b.b-index _ c.sign_of-c.result _ c.loop-b-test.true c.loop-b.invariant.4 refl c.sign_of-c.ensures c.hear-s.ensures.0 c.hear-s.ensures.1
          c.turn-w.ensures,
    )

pub returns : goal.returns
returns c =
    let l = c.loop-b in let a = c.args in let f = c.hear in walk_end c.loop-b.w _ _ c.loop-b.s _ c.loop-b.t (replicate 9472 0) _ a.text.now c.loop-b.b-index (omega arith) c.loop-b.invariant.4 c.closing.ensures
    c.stopped.ensures c.hear.ensures.0 c.hear.ensures.1
