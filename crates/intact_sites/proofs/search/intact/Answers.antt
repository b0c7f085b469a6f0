-- `intact` meets its contract: the sites outside left are left out of what is kept, and the quorums inside left are found.
use Prim.Native.Nat.{ℕ, ◌<◌}
use mathlib.Core.Bool.{◌&&◌}
use mathlib.Core.Path.{◌≡◌, sym, ap, ◌∙◌, subst}
use native.Mathlib.Nat.{lt_of_lt_of_le}
use lib.Bits.{bit_and}
use lib.Dec.{eqb}
use lib.ListN.{length-replicate}
use lib.Pow.{ones_lt, pow_mono}
use Rattle.masks.proofs.Laws.Subsets.{minus-lt}
use Rattle.masks.specs.Mask.{minus, all_below}
use Rattle.sets.specs.Inner.Rows.{rules_of}
use Rattle.set_words.specs.Inner.{Says}
use Rattle.inside_words.specs.Inner.{fits}
use Rattle.inside_words.proofs.InsideLaws.{fits-none}
use Rattle.contents.specs.Inner.{Contents}
use Rattle.intact_sites.proofs.IntactLaws.{quorums-said}
use Rattle.intact_sites.proofs.search.intact.Goals as goal

pub above-requires : goal.above-requires
above-requires c =
    length-replicate {A = ℕ} 64 0

pub fill-requires : goal.fill-requires
fill-requires c =
    let p = c.requires in record { rows = p.rows; n_bound = p.n_bound; above = c.above.ensures; kept_len = length-replicate {A = ℕ} 768 0 }

pub fitting-requires : goal.fitting-requires
fitting-requires c =
    let a = c.args in record { contents = c.fill.ensures; says = fits-none (rules_of a.table.now) c.minus-f.result }

pub lack-requires : goal.lack-requires
lack-requires c =
    let a = c.args in let m = c.minus-f in let e : c.minus-f.result ≡ minus (all_below a.n) a.left = c.minus-f.ensures ∙ ap (λ (x : ℕ). minus x a.left) c.all_below.ensures in record
    { m_bound = subst (λ (x : ℕ). x < 4096) (sym e) (lt_of_lt_of_le (minus-lt a.n (all_below a.n) a.left (ones_lt a.n)) (pow_mono c.requires.n_bound)); sets_len = c.fitting.ensures.long }

pub gather-requires : goal.gather-requires
gather-requires c =
    let a = c.args in let p = c.requires in let r = rules_of a.table.now in
    let m = c.minus-f in let e : c.minus-f.result ≡ minus (all_below a.n) a.left =
    c.minus-f.ensures ∙ ap (λ (x : ℕ). minus x a.left) c.all_below.ensures in
    let fill = c.fill in let lack = c.lack in record {
      rows = p.rows;
      n_bound = p.n_bound;
      left_value = p.left_value;
      above = c.above.ensures;
      contents = subst (λ (x : ℕ). Contents r x 12 c.fill.new.kept) e c.fill.ensures;
      says = subst (λ (x : ℕ). Says (λ u. fits r x 12 u && eqb (bit_and u x) 0) c.lack.new.sets) e
          (quorums-said r c.minus-f.result c.fitting.ensures c.lack.ensures);
    }

pub returns : goal.returns
returns c =
    c.gather.ensures
