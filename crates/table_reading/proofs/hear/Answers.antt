-- The word, then the byte.
use mathlib.Core.Path.{refl}
use native.Mathlib.Omega.{arith}
use Rattle.table_reading.proofs.Steps.{sane₁, sane₂, line₂, byte}
use Rattle.table_reading.proofs.hear.Goals as goal

pub settle-s-requires : goal.settle-s-requires
settle-s-requires c =
    let t = c.spoken-s in record {
      t_len = omega arith;
      sane = sane₁ c.args.c c.args.w c.args.s _ c.spoken-s.result c.args.t.now _ _ _ _ c.own-u.ensures refl
          c.ended.ensures c.spoken-s.ensures c.said-k.ensures c.requires.sane;
    }

pub spoken-requires : goal.spoken-requires
spoken-requires c =
    let t = c.spoken-s in let o = c.own-u.ensures in let e = c.ended.ensures in let d = c.said-k.ensures in let z = c.settle-s in record {
      sane = sane₂ c.args.c c.args.w c.args.s c.spoken-s.result c.settle-s.result c.args.t.now _ _ _ _ c.own-u.ensures refl c.ended.ensures c.spoken-s.ensures c.said-k.ensures c.requires.sane
          c.settle-s.ensures.0;
      line_bound = omega (
        arith,
        line₂ c.args.c c.args.w c.args.s c.spoken-s.result c.settle-s.result c.args.t.now _ _ _ _ c.own-u.ensures refl c.ended.ensures
            c.spoken-s.ensures c.said-k.ensures c.requires.sane c.settle-s.ensures.0,
      );
    }

pub returns : goal.returns
returns c =
    let t = c.spoken-s in let o = c.own-u.ensures in let e = c.ended.ensures in let d = c.said-k.ensures in let z = c.settle-s in byte c.args.c c.args.w c.args.s c.spoken-s.result c.settle-s.result
    c.args.t.now _ _ _ _ c.own-u.ensures refl c.ended.ensures c.spoken-s.ensures c.said-k.ensures c.requires.sane c.spoken.result _
    c.settle-s.ensures.0 c.settle-s.ensures.1 c.spoken.ensures
