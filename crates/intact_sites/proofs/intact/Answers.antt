-- `intact` meets its contract: of a set of the sites every site that is in no quorum it leaves may be taken for faulty; any other is in no set of the sites.
-- f is a set of the sites, as it was asked
use Prim.Native.Nat.{ℕ}
use mathlib.Core.Bool.{Bool, true, false}
use mathlib.Core.Path.{◌≡◌, sym, ap, ◌∙◌, subst}
use Rattle.masks.proofs.Laws.Subsets.{within-⊆}
use Rattle.masks.specs.Mask.{within, minus, all_below, ◌⊆◌}
use Rattle.sets.proofs.Lawful.{inside-grows}
use Rattle.sets.proofs.Quorum.{largest-quorum}
use Rattle.sets.specs.Quorum.{quorum}
use Rattle.verdicts.specs.Verdicts.{beside, intact}
use Rattle.verdicts.proofs.VerdictLaws.{intact-outside, intact-left, intact-nothing}
use Rattle.sets.proofs.Rows.{rows-lawful}
use Rattle.sets.specs.Inner.Rows.{rules_of}
use Rattle.intact_sites.proofs.intact.Goals as goal

sites : (f n : ℕ) {all : ℕ} {r : Bool} → all ≡ all_below n → r ≡ within f all → r ≡ true → f ⊆ all_below n
sites f n a w t = within-⊆ f (all_below n) (ap (within f) (sym a) ∙ sym w ∙ t)

left-quorum : (s : ℕ → ℕ → Bool) (n f : ℕ) → (beside s n f ≡ 0 → ⊥) → quorum s n (beside s n f) ≡ true
unfolding beside
left-quorum s n f ne = largest-quorum s n (minus (all_below n) f) ne

pub returns-then-not-within : goal.returns-then-not-within
returns-then-not-within c =
    let a = c.args in let e : within a.f (all_below a.n) ≡ false =
    ap (within a.f) (sym c.all_below.ensures) ∙ sym c.within.ensures ∙ c.if-not-within.true in
    sym (intact-outside (rules_of a.table.now) a.n a.f e)

pub returns-then-left-eq0 : goal.returns-then-left-eq0
returns-then-left-eq0 c =
    let a = c.args in let f = sites a.f a.n c.all_below.ensures c.within.ensures (c.if-not-within.false) in
    sym (intact-nothing (rules_of a.table.now) a.n (inside-grows (rows-lawful c.requires.rows)) a.f f (sym c.beside-left.ensures ∙ c.if-left-eq0.true))

pub intact-requires : goal.intact-requires
intact-requires c =
    let a = c.args in let i = (rules_of a.table.now).inside in
    let b = c.beside-left in record {
      rows = c.requires.rows;
      n_bound = c.requires.n_bound;
      left_value = subst (λ (x : ℕ). quorum i a.n x ≡ true) (sym c.beside-left.ensures)
          (left-quorum i a.n a.f (λ z. c.if-left-eq0.false (c.beside-left.ensures ∙ z)));
    }

pub returns : goal.returns
returns c =
    let a = c.args in let r = rules_of a.table.now in
    let f = sites a.f a.n c.all_below.ensures c.within.ensures (c.if-not-within.false) in
    c.intact.ensures ∙ ap (λ (x : ℕ). intact r a.n (minus (all_below a.n) x)) c.beside-left.ensures ∙ intact-left r a.n (inside-grows (rows-lawful c.requires.rows)) a.f f
