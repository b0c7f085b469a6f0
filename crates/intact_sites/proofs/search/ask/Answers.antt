-- `ask` meets its contract: with the sites outside rest deleted there are two quorums without a common site, or there are none.
use Prim.Native.Nat.{ℕ, ◌^◌, ◌<◌}
use mathlib.Core.Path.{◌≡◌, sym, ap, ◌∙◌, subst}
use native.Mathlib.Nat.{lt_of_lt_of_le}
use native.Mathlib.Omega.{arith}
use lib.Pow.{ones_lt, pow_mono}
use Rattle.masks.proofs.Laws.Subsets.{minus-lt}
use Rattle.masks.specs.Mask.{minus, all_below}
use Rattle.sets.proofs.Quorum.{quorum-lt}
use Rattle.sets.specs.Inner.Rows.{rules_of}
use Rattle.verdicts.specs.Verdicts.{first_apart}
use Rattle.inside_words.proofs.InsideLaws.{fits-none}
use Rattle.contents.specs.Inner.{Contents}
use Rattle.intact_sites.proofs.IntactLaws.{spared-all, spared-none, first-quorum}
use Rattle.intact_sites.proofs.search.ask.Goals as goal

pub fitting-requires : goal.fitting-requires
fitting-requires c =
    let a = c.args in let r = rules_of a.table.now in
    let e : c.minus-gone.result ≡ minus (all_below a.n) a.rest = c.minus-gone.ensures ∙ ap (λ (x : ℕ). minus x a.rest) c.all_below.ensures in record
    { contents = subst (λ (x : ℕ). Contents r x 12 a.kept.now) (sym e) c.requires.contents; says = fits-none r c.minus-gone.result }

pub first_apart-p-requires : goal.first_apart-p-requires
first_apart-p-requires c =
    let a = c.args in let p = c.requires in let m = c.minus-gone in let e : c.minus-gone.result ≡ minus (all_below a.n) a.rest = c.minus-gone.ensures ∙ ap (λ (x : ℕ). minus x a.rest)
    c.all_below.ensures in record {
      rows = p.rows;
      n_bound = p.n_bound;
      b_bound = subst (λ (x : ℕ). x < 2 ^ a.n) (sym e) (minus-lt a.n (all_below a.n) a.rest (ones_lt a.n));
      above = p.above;
      says
          = c.fitting.ensures;
    }

pub single-requires : goal.single-requires
single-requires c =
    omega (arith, c.requires.n_bound)

pub returns-then-p-single : goal.returns-then-p-single
returns-then-p-single c =
    let a = c.args in let t = a.table.now in
    let m = c.minus-gone in let e : c.minus-gone.result ≡ minus (all_below a.n) a.rest = c.minus-gone.ensures ∙ ap (λ (x : ℕ). minus x a.rest) c.all_below.ensures in record {
      spared = spared-all t a.n a.rest c.requires.rest_value (c.first_apart-p.ensures.first ∙ ap (λ (x : ℕ). first_apart ((rules_of t).deleted x) a.n) e) (c.if-p-single.true ∙ c.single.ensures);
      pairs = c.requires.pairs_2;
    }

pub other-q-requires : goal.other-q-requires
other-q-requires c =
    let a = c.args in let m = c.minus-gone in let f = c.first_apart-p in let k = first-quorum ((rules_of a.table.now).deleted c.minus-gone.result) a.n c.first_apart-p.ensures.first
    (λ z. c.if-p-single.false (z ∙ sym c.single.ensures)) in record
    { p_bound = lt_of_lt_of_le (quorum-lt ((rules_of a.table.now).deleted c.minus-gone.result) a.n k) (pow_mono c.requires.n_bound); p_value = k; says = c.first_apart-p.ensures.quorums }

pub note-requires : goal.note-requires
note-requires c =
    record { pair = c.other-q.ensures; pairs = c.requires.pairs_2 }

pub returns : goal.returns
returns c =
    let a = c.args in let t = a.table.now in
    let m = c.minus-gone in let e : c.minus-gone.result ≡ minus (all_below a.n) a.rest = c.minus-gone.ensures ∙ ap (λ (x : ℕ). minus x a.rest) c.all_below.ensures in
    let f = c.first_apart-p in record {
      spared = spared-none t a.n a.rest c.requires.rest_value (c.first_apart-p.ensures.first ∙ ap (λ (x : ℕ). first_apart ((rules_of t).deleted x) a.n) e)
          (λ z. c.if-p-single.false (z ∙ sym c.single.ensures));
      pairs = c.note.ensures;
    }
