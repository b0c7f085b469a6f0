-- The word, then the byte.
use mathlib.Core.Path.{◌∙◌}
use native.Mathlib.Omega.{arith}
use Prim.Native.Nat.{◌^◌}
use Rattle.threshold_reading.proofs.Steps.{sane₁, line₁, few₁, length₁, byte}
use Rattle.threshold_reading.proofs.hear.Goals as goal

pub step-requires : goal.step-requires
step-requires c =
    let p = c.requires in let a = c.args in let t = c.step-s.ensures in let k = c.ended.ensures in let l = line₁ a.c a.w a.s _ a.t.now _ _ c.ended.ensures t.0 t.1 p.threshold_sane in record {
      t_len = length₁ a.c a.w a.s _ a.t.now _ _ c.ended.ensures t.0 t.1 p.threshold_sane ∙ p.t_len;
      threshold_sane = sane₁ a.c a.w a.s _ a.t.now _ _ c.ended.ensures t.0 t.1 p.threshold_sane;
      line_bound = omega (arith, l);
      few = few₁ a.c a.w a.s _ a.t.now _ _ c.ended.ensures t.0 t.1 p.threshold_sane (2 ^ 63) p.few;
    }

pub returns : goal.returns
returns c =
    let p = c.requires in let a = c.args in let t = c.step-s.ensures in let u = c.step.ensures in byte a.c a.w a.s _ a.t.now _ _ c.ended.ensures t.0 t.1 p.threshold_sane _ _ _ c.said.ensures u.0 u.1
