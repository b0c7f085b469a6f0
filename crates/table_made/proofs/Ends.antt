-- A text's table fits 64 times 63 numbers; and what `make` does is what the definition says.
use Prim.Native.Nat.{ℕ, ◌≤◌, ◌<◌}
use mathlib.Core.Bool.{Bool, true, false, cond}
use mathlib.Core.List.{List, ◌++◌}
use mathlib.Core.Path.{◌≡◌, refl, sym, ap, subst, ◌∙◌}
use native.Mathlib.Omega.{arith}
use lib.Dec.{ltb}
use lib.ListN.{length, take, drop, replicate}
use borrow.Author.Tests.{lt-ltb, le-ltb}
use Rattle.table_grammar.specs.Grammar.{expected}
use Rattle.table_grammar.specs.declared.Why.{Why}
use Rattle.table_grammar.specs.declared.Spot.{Spot}
use Rattle.table_reading.specs.Reading.{text_read}
use Rattle.table_reading.proofs.Steps.{text-sane, sane-eq}
use Rattle.table_made.specs.Made.{is_whole, answer_of, made_of, numbers, or_short, made, leaves}
use Rattle.std.specs.Prelude.{Result, Ok, Err}
use Rattle.table_made.specs.declared.Fault.{Fault}
use Rattle.table_made.specs.declared.Fault.TheVariants.{Line, Room}

pick : (b : Bool) (n line : ℕ) (w : Why) → n ≤ 64 → numbers (cond b (Ok n) (Err (Line line w))) ≤ 4032
pick true n line w h = omega arith
pick false n line w h = omega arith

pub few : (text : List ℕ) (s : Spot) (m : Result ℕ Fault) → s ≡ (text_read text (replicate 4032 0)).spot → m ≡ answer_of s → numbers m ≤ 4032
unfolding answer_of
few text s m e f =
    let h = sane-eq e (text-sane text (replicate 4032 0)) in
    subst (λ (x : Result ℕ Fault). numbers x ≤ 4032) (sym f) (pick (is_whole s.phase (ltb s.v s.n)) s.n s.line (expected s.phase (ltb s.v s.n)) h.0)

module _ (text room t : List ℕ) (s : Spot) (m : Result ℕ Fault) (k : ℕ) (e₁ : s ≡ (text_read text (replicate 4032 0)).spot) (e₂ : t ≡ (text_read text (replicate 4032 0)).table)
    (e₃ : m ≡ answer_of s) (e₄ : k ≡ numbers m) where
  same : m ≡ answer_of (made_of text).spot
  unfolding made_of
  same = e₃ ∙ ap answer_of e₁

  pub short : length room < k → (Err Room ≡ made text (length room)) × (room ≡ leaves text room)
  unfolding made leaves
  short h =
      let z : made text (length room) ≡ Err Room =
      ap (or_short (length room)) (sym same) ∙ rw (lt-ltb (length room) (numbers m) (rw (sym e₄) h)) refl in
      (sym z, sym (ap (λ (x : Result ℕ Fault). take (numbers x) (made_of text).table ++ drop (numbers x) room) z))

  pub all : (out : List ℕ) → k ≤ length room → out ≡ take k t ++ drop k room → (m ≡ made text (length room)) × (out ≡ leaves text room)
  unfolding made leaves made_of
  all out h e₅ =
      let z : made text (length room) ≡ m =
      ap (or_short (length room)) (sym same) ∙ rw (le-ltb (length room) (numbers m) (rw (sym e₄) h)) refl in (
        sym z,
        e₅ ∙ ap (λ (x : List ℕ). take k x ++ drop k room) e₂ ∙ ap (λ (x : ℕ). take x (text_read text (replicate 4032 0)).table ++ drop x room) e₄
            ∙ sym (ap (λ (x : Result ℕ Fault). take (numbers x) (made_of text).table ++ drop (numbers x) room) z),
      )
