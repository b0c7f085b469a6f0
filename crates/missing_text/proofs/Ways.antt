-- The ways out of `desk missing`: one law for each.
use Rattle.std.specs.Prelude.{Ok, Err}
use Prim.Native.Nat.{ℕ, ◌*◌, ◌≤◌, ◌<◌}
use mathlib.Core.Bool.{Bool, true, false}
use mathlib.Core.List.{List}
use mathlib.Core.Path.{◌≡◌, refl, sym, ap, ◌∙◌}
use native.Mathlib.Omega.{arith}
use lib.Dec.{ltb}
use lib.ListN.{length, get_or, drop, take}
use lib.Seq.{get_or-take}
use borrow.Author.Tests.{ltb-false}
use Rattle.check_text.proofs.Ways.{image-sound, image-refused}
use Rattle.image_blocks.proofs.Load.{loads-front}
use Rattle.image_blocks.specs.Image.{loads}
use Rattle.image.specs.Read.{read, read_into}
use Rattle.judged_text.proofs.Ways.{standing-stopped, judged, meets-is}
use Rattle.judged_text.specs.Inner.{met}
use Rattle.missing_lines.specs.Inner.{lines_of}
use Rattle.missing_text.specs.Inner.{table_text}
use Rattle.missing_text.specs.MissingText.{lacking_lines, missing_check, missing_text}
use Rattle.questions.specs.Answers as Answers
use Rattle.questions.specs.Answers.{verdict_check}
use Rattle.refusal_lines.specs.Refused.{explained}
use Rattle.refusals.proofs.First.{or_else-sound, kept}
use Rattle.refusals.specs.declared.Refusal.{Refusal}
use Rattle.refusals.specs.declared.Refusal.TheVariants.{Large}
use Rattle.rules.specs.State.{accepted, width, get}
use Rattle.run_text.proofs.Ended.{ran-stopped, whole, ended-state}
use Rattle.run.specs.Run.{run_check, the_run, ran, state_into}
use Rattle.sets.specs.Groups.{Groups, lists, sites_of, slices_in, set_check}
use Rattle.verdicts.specs.Verdicts as Verdicts

-- where a verdict is given there are at most 12 sites
pub few-sites : (t : List ℕ) (F n m : ℕ) → length t ≡ 63 * n → Ok m ≡ Answers.intact (lists t) F → n ≤ 12
few-sites t F n m e h =
    let many = sites_of (lists t) in
    omega (arith, e, ltb-false 12 many (kept (ltb 12 many) Large (or_else-sound (set_check (lists t) F) _ (judged (lists t) F m h).0).1))

-- on a table that is read
module _ (t : Groups) (F : ℕ) (list : List ℕ) where
  pub verdict-refused : (r : Refusal) → Err r ≡ Answers.intact t F → explained r ≡ table_text F t list
  unfolding table_text missing_check Answers.intact
  verdict-refused r h = rw (standing-stopped (verdict_check t (set_check t F)) (Verdicts.intact (slices_in t) (sites_of t) F) r h) refl

  module _ (m : ℕ) (h : Ok m ≡ Answers.intact t F) where
    pub run-refused : (r : Refusal) → Err r ≡ ran t F list 262 4096 → explained r ≡ table_text F t list
    unfolding table_text missing_check ran
    run-refused r e = rw ((judged t F m h).0, ran-stopped (run_check t F (length list) 262 4096) (the_run t F list).passes r e) refl

    -- the masks of those that accepted, as they stand in the state's room
    module _ (p : ℕ) (e : Ok p ≡ ran t F list 262 4096) (states s : List ℕ) (ls : length states ≡ 262) (ks : length s ≡ 262)
        (es : s ≡ state_into (Ok p) t F list states) where
      at-end : (i : ℕ) → i < width (sites_of t) → get_or s i 0 ≡ get (the_run t F list).state i
      at-end i l =
          sym (get_or-take (width (sites_of t)) s i 0 l) ∙ ap (λ (x : List ℕ). get_or x i 0) (ended-state t F list p e states s ls ks es)

      pub lacking-is : (n drill live : ℕ) (meet : Bool) → n ≡ sites_of t → meet ≡ met (Answers.shared t) →
          drill ≡ get_or s (accepted n 0) 0 → live ≡ get_or s (accepted n 1) 0 →
          lines_of n m meet list drill live ≡ table_text F t list
      unfolding table_text missing_check lacking_lines
      lacking-is n drill live meet en em ed el =
          let d : drill ≡ get (the_run t F list).state (accepted (sites_of t) 0) = (rw en at ed) ∙ at-end (accepted (sites_of t) 0) (omega arith) in
          let l : live ≡ get (the_run t F list).state (accepted (sites_of t) 1) = (rw en at el) ∙ at-end (accepted (sites_of t) 1) (omega arith) in
          rw ((judged t F m h).0, (whole t F list p e).0, (judged t F m h).1, meets-is t F m h meet em, d, l, en) refl

-- on an image
module _ (F : ℕ) (image list : List ℕ) where
  pub image-stopped : (r : Refusal) → read image 4032 ≡ Err r → explained r ≡ missing_text F image list
  unfolding missing_text
  image-stopped r h = rw (image-refused image r h) refl

  pub image-taken : (n : ℕ) (t room : List ℕ) → read image 4032 ≡ Ok n → t ≡ take (63 * n) (read_into (Ok n) image room)
      → table_text F (lists t) list ≡ missing_text F image list
  unfolding missing_text table_text read_into
  image-taken n t room h e =
      let s = image-sound image n h in
      ap (λ (x : List ℕ). table_text F (lists x) list) (e ∙ loads-front n image (drop (63 * n) room) ∙ ap (λ (k : ℕ). loads k image) (sym s.1)) ∙ rw s.0 refl
