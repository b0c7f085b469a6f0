-- `last_below` meets its contract: the word of end has one below it, or a word before it has one.
-- of a word the sets below bound
use Prim.Native.Nat.{ℕ, ◌+◌, ◌*◌, ◌/◌, ◌%◌, ◌≤◌, ◌<◌}
use mathlib.Core.Bool.{Bool, ◌&&◌, and-true}
use mathlib.Core.Path.{◌≡◌, sym, ap, ◌∙◌, subst}
use native.Mathlib.Omega.{arith}
use lib.Bits.{bit_and}
use lib.ListN.{get_or}
use lib.Pow.{ones_lt}
use Rattle.masks.proofs.Laws.AllBelow.{in_all}
use Rattle.masks.proofs.Laws.Members.{has-and, has-zero}
use Rattle.masks.proofs.Laws.Subsets.{∈-below, and-⊆-r}
use Rattle.masks.specs.Mask.{has, all_below, ◌∈◌}
use Rattle.picked_words.proofs.PickedLaws.{found_in, go_on}
use Rattle.picked_words.proofs.last_below.Goals as goal

cut : (word bound all y : ℕ) → all ≡ all_below bound → y < bound → has (bit_and word all) y ≡ has word y
cut word bound all y e l =
    has-and word all y ∙ ap (λ (c : Bool). has word y && c) (ap (λ (x : ℕ). has x y) e ∙ (in_all l).holds) ∙ and-true (has word y)

few : (word bound all y : ℕ) → all ≡ all_below bound → y ∈ bit_and word all → y < bound
few word bound all y e i = ∈-below (ones_lt bound) (subst (λ (x : ℕ). y ∈ x) e ((and-⊆-r word all).each y i))

pub returns-then-word-ne0 : goal.returns-then-word-ne0
returns-then-word-ne0 c =
    let a = c.args in let w = a.end / 64 in
    let word = get_or a.sets.now w 0 in
    let b = c.all_below in let e = c.last.ensures in found_in a.sets.now w (a.end % 64) a.end (bit_and word c.all_below.result) c.last.result (omega arith) (omega arith)
    (λ y l. cut word (a.end % 64) c.all_below.result y c.all_below.ensures l)
    (few word (a.end % 64) c.all_below.result c.last.result c.all_below.ensures e.member) (λ u p q. absurd (none a.end p q)) c.last.ensures
  where
    none : (end : ℕ) {u : ℕ} → end / 64 * 64 + end % 64 ≤ u → u < end → ⊥
    none end p q = omega arith

pub returns : goal.returns
returns c =
    let a = c.args in let w = a.end / 64 in
    let word = get_or a.sets.now w 0 in
    let b = c.all_below in go_on a.sets.now w a.end (a.end % 64) (omega arith) (omega arith)
    (λ y l. sym (cut word (a.end % 64) c.all_below.result y c.all_below.ensures l) ∙ ap (λ (x : ℕ). has x y) c.if-word-ne0.false ∙ has-zero y) c.last_before.ensures
