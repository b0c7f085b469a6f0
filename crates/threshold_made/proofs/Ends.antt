-- A text's image has at most 64 blocks; and what `make` does is what the definition says.
use Prim.Native.Nat.{ℕ, ◌+◌, ◌-◌, ◌*◌, ◌≤◌, ◌<◌}
use mathlib.Core.Bool.{Bool, true, false, cond}
use mathlib.Core.List.{List, ◌++◌}
use mathlib.Core.Path.{◌≡◌, refl, sym, ap, subst, ◌∙◌}
use native.Mathlib.Omega.{arith}
use lib.Dec.{ltb}
use lib.ListN.{length, take, drop, replicate}
use borrow.Author.Tests.{lt-ltb, le-ltb}
use Rattle.ground.proofs.Pieces.{length-cat, fill-part}
use Rattle.threshold_grammar.specs.Grammar.{ThresholdSane, threshold_expected}
use Rattle.threshold_grammar.specs.declared.Why.{Why}
use Rattle.threshold_grammar.specs.declared.Spot.{Spot}
use Rattle.threshold_reading.specs.Lines.{sets_heard}
use Rattle.threshold_reading.specs.Reading.{threshold_text_read}
use Rattle.threshold_reading.proofs.Steps.{text-sane, sane-eq}
use Rattle.threshold_write.specs.Store.{store_sets}
use Rattle.threshold_write.proofs.Store.{length-store}
use Rattle.threshold_made.specs.Made.{threshold_is_whole, threshold_answer_of, threshold_made_of, made_blocks, threshold_or_short, image_to, threshold_made, threshold_leaves}
use Rattle.std.specs.Prelude.{Result, Ok, Err}
use Rattle.threshold_made.specs.declared.Fault.{Fault}
use Rattle.threshold_made.specs.declared.Fault.TheVariants.{Line, Room}

pick : (b : Bool) (n line : ℕ) (w : Why) → n ≤ 64 → made_blocks (cond b (Ok n) (Err (Line line w))) ≤ 64
pick true n line w h = h
pick false n line w h = omega arith

pub few-of : (s : Spot) → ThresholdSane s → made_blocks (threshold_answer_of s) ≤ 64
unfolding threshold_answer_of
few-of s h =
    pick (threshold_is_whole s.phase (ltb s.v s.n)) s.n s.line (threshold_expected s.phase (ltb s.v s.n) (ltb 1 s.depth)) h.0

pub few : (text : List ℕ) (s : Spot) (m : Result ℕ Fault) → s ≡ (threshold_text_read text (replicate 9472 0)).spot → m ≡ threshold_answer_of s → made_blocks m ≤ 64
few text s m e f = subst (λ (x : Result ℕ Fault). made_blocks x ≤ 64) (sym f) (few-of s (sane-eq e (text-sane text (replicate 9472 0))))

-- the loop that writes the blocks
pub image_holds : (n : ℕ) (t d : List ℕ) → d ≡ image_to n t 0 ++ drop (512 * 0) d
unfolding image_to
image_holds n t d = refl

pub image-again : (n : ℕ) (t m d y : List ℕ) (i : ℕ) → m ≡ image_to n t i ++ drop (512 * i) d → y ≡ store_sets n i (sets_heard t i)
    → take (512 * i) m ++ (y ++ drop (512 * i + 512 - 512 * i) (drop (512 * i) m)) ≡ image_to n t (i + 1) ++ drop (512 * (i + 1)) d
unfolding image_to
image-again n t m d y i e ey =
    fill-part (λ v. store_sets n v (sets_heard t v)) 512 i m d y (length-cat (λ v. store_sets n v (sets_heard t v)) 512 i (λ j h. length-store n j (sets_heard t j))) e ey

module _ (text room t : List ℕ) (s : Spot) (m : Result ℕ Fault) (k : ℕ) (e₁ : s ≡ (threshold_text_read text (replicate 9472 0)).spot) (e₂ : t ≡ (threshold_text_read text (replicate 9472 0)).lines)
    (e₃ : m ≡ threshold_answer_of s) (e₄ : k ≡ made_blocks m) where
  same : m ≡ threshold_answer_of (threshold_made_of text).spot
  unfolding threshold_made_of
  same = e₃ ∙ ap threshold_answer_of e₁

  left : Result ℕ Fault → List ℕ
  left x = image_to (made_blocks x) (threshold_made_of text).lines (made_blocks x) ++ drop (512 * made_blocks x) room

  pub short : length room < 512 * k → (Err Room ≡ threshold_made text (length room)) × (room ≡ threshold_leaves text room)
  unfolding threshold_made threshold_leaves image_to left
  short h =
      let z : threshold_made text (length room) ≡ Err Room =
      ap (threshold_or_short (length room)) (sym same) ∙ rw (lt-ltb (length room) (512 * made_blocks m) (rw (sym e₄) h)) refl in
      (sym z, sym (ap left z))

  pub all : (out : List ℕ) → 512 * k ≤ length room → out ≡ image_to k t k ++ drop (512 * k) room → (m ≡ threshold_made text (length room)) × (out ≡ threshold_leaves text room)
  unfolding threshold_made threshold_leaves threshold_made_of left
  all out h e₅ =
      let z : threshold_made text (length room) ≡ m =
      ap (threshold_or_short (length room)) (sym same) ∙ rw (le-ltb (length room) (512 * made_blocks m) (rw (sym e₄) h)) refl in (
        sym z,
        e₅ ∙ ap (λ (x : List ℕ). image_to k x k ++ drop (512 * k) room) e₂
            ∙ ap (λ (x : ℕ). image_to x (threshold_text_read text (replicate 9472 0)).lines x ++ drop (512 * x) room) e₄ ∙ sym (ap left z),
      )
