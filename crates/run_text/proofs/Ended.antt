-- The ways out of the report of a run: one law for each.
use Rattle.refusals.specs.Check.{Check}
use Rattle.std.specs.Prelude.{Ok, Err}
use Prim.Native.Nat.{ℕ, ◌*◌, ◌/◌, ◌≤◌}
use mathlib.Core.Bool.{Bool, false}
use mathlib.Core.List.{List, ◌++◌}
use mathlib.Core.Path.{◌≡◌, refl, sym, ap, ◌∙◌}
use mathlib.Core.Logic.{⊎_elim}
use native.Mathlib.Omega.{arith}
use borrow.Author.Tests.{ltb-true}
use lib.Dec.{ltb}
use lib.ListN.{length, drop, take, length-append, length-drop}
use lib.Seq.{take_at}
use Rattle.ground.proofs.Logic.{cases}
use Rattle.image_blocks.proofs.Load.{loads-front}
use Rattle.image_blocks.specs.Image.{loads}
use Rattle.image.specs.Read.{read, read_into}
use Rattle.refusal_lines.specs.Refused.{explained}
use Rattle.refusals.specs.First.{refuse}
use Rattle.refusals.specs.declared.Refusal.{Refusal}
use Rattle.refusals.specs.declared.Refusal.TheVariants.{Large}
use Rattle.outcome.proofs.Lengths.{end-above-twelve}
use Rattle.outcome.specs.Outcome.{end_lines}
use Rattle.check_text.proofs.Ways.{image-sound, image-refused}
use Rattle.check_text.specs.Table.{unless}
use Rattle.questions.specs.Answers.{to_standing, verdict_check}
use Rattle.questions.specs.Answers as Answers
use Rattle.refusals.proofs.First.{or_else-sound}
use Rattle.run_text.specs.Inner.{whole_of}
use Rattle.run_text.specs.Run.{ran_text, run_text}
use Rattle.run.proofs.RunWays.{Fits, run_fits}
use Rattle.run.specs.Run.{run_check, the_run, to_ran, ran, state_into, answers_into}
use Rattle.sets.specs.Groups.{Groups, lists, sites_of, slices_in, set_check}
use Rattle.verdicts.specs.Verdicts as Verdicts
use Rattle.rules.specs.State.{width}

ran-taken : (s : Check) (q p : ℕ) → Ok p ≡ to_ran s q → (s ≡ Ok tt) × (p ≡ q)
ran-taken (Ok _) q p h = (refl, cc)
ran-taken (Err r) q p h = let z : ◌≡◌ {A = ℕ} 0 1 = cc in absurd (omega arith)

pub ran-stopped : (s : Check) (q : ℕ) (r : Refusal) → Err r ≡ to_ran s q → s ≡ Err r
ran-stopped (Ok _) q r h = let z : ◌≡◌ {A = ℕ} 0 1 = cc in absurd (omega arith)
ran-stopped (Err x) q r h = cc

-- a result in front of a room that keeps its length is as long as what it replaces
in-front : (result room left : List ℕ) (k : ℕ) → k ≤ length room → left ≡ result ++ drop k room → length left ≡ length room → take k left ≡ result
in-front result room left k h e l =
    let n : length result ≡ k = omega (arith, length-append result (drop k room), length-drop k room, ap length e) in
    ap (take k) e ∙ take_at result (drop k room) k n

-- up to 12 sites a verdict is given where the run is
judged : (t : Groups) (F : ℕ) → set_check t F ≡ Ok tt → ltb 12 (sites_of t) ≡ false → verdict_check t (set_check t F) ≡ Ok tt
judged t F c l = ap (λ (x : Check). verdict_check t x) c ∙ ap (λ (b : Bool). refuse b Large) l

-- equal parts give equal lines
same_lines : (F n n' w w' p p' : ℕ) (s s' list a a' : List ℕ) → n ≡ n' → w ≡ w' → p ≡ p' → s ≡ s' → a ≡ a' → end_lines F n w p s list a ≡ end_lines F n' w' p' s' list a'
same_lines F n n' w w' p p' s s' list a a' en ew ep es ea = cc

-- on a table that is read
module _ (t : Groups) (F : ℕ) (list : List ℕ) where
  pub ran-refused : (r : Refusal) → Err r ≡ ran t F list 262 4096 → explained r ≡ ran_text F t list
  unfolding ran_text ran
  ran-refused r h = rw (ran-stopped (run_check t F (length list) 262 4096) (the_run t F list).passes r h) refl

  given-lines : run_check t F (length list) 262 4096 ≡ Ok tt
      → end_lines F (sites_of t) (Verdicts.intact (slices_in t) (sites_of t) F) (the_run t F list).passes (the_run t F list).state list (the_run t F list).answers ≡ ran_text F t list
  unfolding ran_text
  given-lines c =
      sym (ap (λ (x : Check). unless x explained (end_lines F (sites_of t) (Verdicts.intact (slices_in t) (sites_of t) F) (the_run t F list).passes (the_run t F list).state list (the_run t F list).answers)) c)

  module _ (p : ℕ) (h : Ok p ≡ ran t F list 262 4096) where
    pub whole : (run_check t F (length list) 262 4096 ≡ Ok tt) × (p ≡ (the_run t F list).passes)
    unfolding ran
    whole = ran-taken (run_check t F (length list) 262 4096) (the_run t F list).passes p h

    -- up to 12 sites what is known is who is intact; above, the lines do not depend on it
    known-lines : (p : ℕ) (s a : List ℕ)
        → end_lines F (sites_of t) (whole_of (Answers.intact t F)) p s list a ≡ end_lines F (sites_of t) (Verdicts.intact (slices_in t) (sites_of t) F) p s list a
    unfolding run_check Answers.intact
    known-lines p s a =
        let n = sites_of t in
        let c : set_check t F ≡ Ok tt = (or_else-sound (set_check t F) _ whole.0).0 in
        ⊎_elim
        (λ l. end-above-twelve F n (whole_of (Answers.intact t F)) (Verdicts.intact (slices_in t) n F) p s list a (ltb-true 12 n l))
        (λ l. ap (λ (x : Check). end_lines F n (whole_of (to_standing x (Verdicts.intact (slices_in t) n F))) p s list a) (judged t F c l))
        (cases (ltb 12 n))

    pub fitting : Fits (sites_of t) (length list) 262 4096
    fitting = run_fits t F (length list) 262 4096 whole.0

    -- the state that stands in front of its room
    pub ended-state : (states s : List ℕ) → length states ≡ 262 → length s ≡ 262 → s ≡ state_into (Ok p) t F list states →
        take (width (sites_of t)) s ≡ (the_run t F list).state
    unfolding state_into
    ended-state states s ls ks es =
        in-front (the_run t F list).state states s (width (sites_of t)) (omega (arith, fitting.states)) es (ks ∙ sym ls)

    pub ran-ended : (n w k : ℕ) (states answers s a : List ℕ) → n ≡ sites_of t → w ≡ whole_of (Answers.intact t F) → k ≡ width n → length states ≡ 262 → length answers ≡ 4096
        → length s ≡ 262 → length a ≡ 4096
        → s ≡ state_into (Ok p) t F list states → a ≡ answers_into (Ok p) t F list answers
        → end_lines F n w p (take k s) list (take (length list / 4) a) ≡ ran_text F t list
    unfolding answers_into
    ran-ended n w k states answers s a en ew ek ls la ks ka es ea =
        let f = fitting in
        let x : take k s ≡ (the_run t F list).state = ap (λ (i : ℕ). take i s) (ek ∙ ap width en) ∙ ended-state states s ls ks es in
        let y : take (length list / 4) a ≡ (the_run t F list).answers = in-front (the_run t F list).answers answers a (length list / 4) (omega (arith, f.many)) ea (ka ∙ sym la) in
        same_lines F n (sites_of t) w (whole_of (Answers.intact t F)) p (the_run t F list).passes (take k s) (the_run t F list).state list (take (length list / 4) a) (the_run t F list).answers
        en ew whole.1 x y
        ∙ known-lines (the_run t F list).passes (the_run t F list).state (the_run t F list).answers
        ∙ given-lines whole.0

-- on an image
module _ (F : ℕ) (image list : List ℕ) where
  pub run-refused : (r : Refusal) → read image 4032 ≡ Err r → explained r ≡ run_text F image list
  unfolding run_text
  run-refused r h = rw (image-refused image r h) refl

  pub run-taken : (n : ℕ) (t room : List ℕ) → read image 4032 ≡ Ok n → t ≡ take (63 * n) (read_into (Ok n) image room)
      → ran_text F (lists t) list ≡ run_text F image list
  unfolding run_text read_into
  run-taken n t room h e =
      let s = image-sound image n h in
      ap (λ (x : List ℕ). ran_text F (lists x) list) (e ∙ loads-front n image (drop (63 * n) room) ∙ ap (λ (k : ℕ). loads k image) (sym s.1)) ∙ rw s.0 refl
