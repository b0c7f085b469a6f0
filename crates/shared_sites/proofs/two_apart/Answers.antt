-- `two_apart` meets its contract: the smallest quorum of the first six sites has a quorum beside it, or all sets are looked at.
use mathlib.Core.Path.{sym, ◌∙◌}
use native.Mathlib.Omega.{arith}
use Rattle.shared_sites.proofs.Pairs.{beside_none, beside-some, early-first, early-second}
use Rattle.sets.specs.Inner.Rows.{rules_of}
use Rattle.shared_sites.proofs.two_apart.Goals as goal

pub returns-then-second-ne0 : goal.returns-then-second-ne0
returns-then-second-ne0 c =
    let a = c.args in let s = (rules_of a.table.now).inside in
    let p = c.first-early in let q = c.beside_early-second in record {
      first = early-first s a.n c.first-early.result c.beside_early-second.result c.first-early.ensures c.beside_early-second.ensures c.if-second-ne0.true;
      second = early-second s a.n
          c.first-early.result c.beside_early-second.result c.first-early.ensures c.beside_early-second.ensures c.if-second-ne0.true;
    }

pub single-requires : goal.single-requires
single-requires c =
    omega (arith, c.requires.n_bound)

pub returns-then-first-single : goal.returns-then-first-single
returns-then-first-single c =
    let a = c.args in let f = c.first_apart-first in record {
      first = c.first_apart-first.ensures;
      second = beside_none (rules_of a.table.now).inside a.n c.first_apart-first.result c.first_apart-first.ensures (c.if-first-single.true ∙ c.single.ensures);
    }

pub returns : goal.returns
returns c =
    let a = c.args in let f = c.first_apart-first in record {
      first = c.first_apart-first.ensures;
      second = beside-some (rules_of a.table.now).inside a.n c.first_apart-first.result c.first_apart-first.ensures
          (λ e. c.if-first-single.false (e ∙ sym c.single.ensures)) c.beside.ensures;
    }
