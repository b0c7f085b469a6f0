-- `belongs` meets its contract: outside what is left of w, without a slice inside it, or searched for now.
use Prim.Native.Nat.{ℕ}
use mathlib.Core.Path.{◌≡◌, sym, ap, ◌∙◌}
use Rattle.masks.specs.Mask.{has}
use Rattle.sets.proofs.Without.{outside, unheld}
use Rattle.asking.proofs.AskedLaws.{asked-now}
use Rattle.asking.proofs.BoundLaws.{left-same}
use Rattle.sets.proofs.Rows.{rows-promises, quorum-asked, slice-asked}
use Rattle.sets.specs.Inner.Rows.{row_questions}
use Rattle.asking.proofs.belongs.Goals as goal
use Rattle.asking.proofs.belongs.Goals.{then-not-has-via-then-not-has, then-not-has-via-else-not-has+then-not-has_slice}

pub returns-then-not-has : goal.returns-then-not-has
returns-then-not-has c =
    let a = c.args in let Q = row_questions a.table.now a.n in let P = rows-promises c.requires.rows in let left = c.bounded-left in record {
      value = elim c.then-not-has.branch [
        | then-not-has-via-then-not-has w ↦ outside P a.receiver _ (sym c.has.ensures ∙ w.if-not-has.true)
        | then-not-has-via-else-not-has+then-not-has_slice w ↦
            unheld P a.receiver left.result (sym (slice-asked a.table.now a.n a.receiver a.receiver left.result) ∙ sym w.has_slice.ensures ∙ w.if-not-has_slice.true)
      ] ∙ ap (Q.in_quorum a.receiver) left.ensures ∙ sym (left-same c.requires.asked.bounds a.receiver a.w);
      asked_2 = c.requires.asked;
    }

pub returns : goal.returns
returns c =
    let a = c.args in let Q = row_questions a.table.now a.n in
    let A = c.bound.ensures in let left = c.bounded in let e = c.largest_set-l.ensures in let found : (v : ℕ) → has c.largest_set-l.result v ≡ Q.in_quorum v a.w =
    λ v. ap (λ (x : ℕ). has x v) c.largest_set-l.ensures ∙ quorum-asked a.table.now a.n v c.bounded.result ∙ ap (Q.in_quorum v) c.bounded.ensures ∙ sym (left-same A.bounds v a.w) in record
    { value = c.has-2.ensures ∙ found a.receiver; asked_2 = asked-now c.bound.ensures a.w _ (λ v h. found v) }
