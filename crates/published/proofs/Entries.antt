-- Where `desk missing` says `complete drill` first, all intact sites have one mark: the list is complete, the table meets, and one-mark says the rest.
use Rattle.refusals.specs.Check.{Check}
use Rattle.std.specs.Prelude.{Ok}
use Prim.Native.Nat.{ℕ, ◌/◌}
use mathlib.Core.Bool.{Bool, true, false}
use mathlib.Core.List.{List, ◌++◌}
use mathlib.Core.Logic.{⊎_elim}
use mathlib.Core.Path.{◌≡◌, refl, sym, ap, ◌∙◌, subst}
use native.Mathlib.Omega.{arith}
use lib.ListN.{length, get_or, replicate, length-replicate}
use Rattle.check_text.specs.Table.{sites_on, table_on, image_check}
use Rattle.ground.proofs.Logic.{cases}
use Rattle.lines.specs.Lines.{line}
use Rattle.liveness.proofs.Complete.{complete-decided}
use Rattle.liveness.proofs.Liveness.{one-mark}
use Rattle.liveness.specs.Complete.{is_complete}
use Rattle.liveness.specs.Liveness.{Complete}
use Rattle.mark.specs.Mark.{mark}
use Rattle.missing_lines.proofs.Said.{missing-begins}
use Rattle.missing_lines.specs.Missing.{side_lines, unmet}
use Rattle.missing_text.specs.MissingText.{lacking_lines, missing_check, missing_text}
use Rattle.pass.specs.Calls.{calls}
use Rattle.questions.specs.Answers.{verdict_check}
use Rattle.refusals.proofs.First.{or_else-sound, kept}
use Rattle.refusals.specs.First.{refuse}
use Rattle.refusals.specs.declared.Refusal as Refusal
use Rattle.rules.specs.State.{accepted, confirmed, width, get}
use Rattle.run.proofs.Public.{is-checked, state-is-run}
use Rattle.run.specs.Run.{list_misshapen, run_check, the_run, to_ran, ran}
use Rattle.run.specs.Theorems.{Taken, end_state}
use Rattle.sets.specs.Groups.{Groups, sites_of, fbqs_in, slices_in, set_check}
use Rattle.sets.specs.Paper.{Intact}
use Rattle.text.specs.Text.{ascii}
use Rattle.verdicts.proofs.Decides.{table-verdicts}
use Rattle.verdicts.specs.Verdicts.{meets, intact}
use Rattle.published.proofs.Files.{image-sites}
use Rattle.published.specs.Union.{EntriesAgree}

-- the lines begin with c only if the table meets and the list is complete for drill
module _ (n whole : ℕ) (list : List ℕ) (drill : ℕ) (rest : List ℕ) where
  begins-met : (b : Bool) → get_or (unmet b ++ (side_lines n whole 0 list drill ++ rest)) 0 0 ≡ 99 → b ≡ true
  unfolding line
  begins-met true e = refl
  begins-met false e = absurd (omega (arith, e))

  begins-complete : get_or (side_lines n whole 0 list drill ++ rest) 0 0 ≡ 99 → is_complete n whole 0 list drill ≡ true
  begins-complete e =
      ⊎_elim (λ h. h) (λ h. absurd (missing-begins n whole 0 list drill h rest e)) (cases (is_complete n whole 0 list drill))

-- of a run on a table, as the desk has it
module _ (t : Groups) (F : ℕ) (list : List ℕ) (c : run_check t F (length list) (width 64) 4096 ≡ Ok tt) where
  abbrev n : ℕ
  n = sites_of t

  abbrev s : List ℕ
  s = (the_run t F list).state

  ran-desk : Taken t F list (replicate (width 64) 0) (replicate 4096 0) (the_run t F list).passes
  unfolding ran
  ran-desk = record {
    took = ap (λ (q : Check). to_ran q (the_run t F list).passes)
        (ap (λ (a : ℕ). run_check t F (length list) a (length (replicate {A = ℕ} 4096 0))) (length-replicate {A = ℕ} (width 64) 0)
        ∙ ap (λ (b : ℕ). run_check t F (length list) (width 64) b) (length-replicate {A = ℕ} 4096 0) ∙ c);
  }

  -- what the public run leaves at the desk is the run's state
  ends : end_state t F list (replicate (width 64) 0) (the_run t F list).passes ≡ s
  ends = state-is-run ran-desk

  whole-list : list_misshapen (length list) ≡ false
  unfolding run_check
  whole-list =
      let x = (or_else-sound (set_check t F) _ c).1 in
      kept (list_misshapen (length list)) Refusal.Refusal.List (or_else-sound (refuse (list_misshapen (length list)) Refusal.Refusal.List) _ x).0

  pub one_entry : meets (slices_in t).inside n ≡ true → is_complete n (intact (slices_in t) n F) 0 list (get s (accepted n 0)) ≡ true →
      (v w : ℕ) → Intact (fbqs_in t) F v → Intact (fbqs_in t) F w →
      mark v (get s (confirmed n 0)) (get s (confirmed n 1)) ≡ mark w (get s (confirmed n 0)) (get s (confirmed n 1))
  one_entry m e v w I J =
      let C = (complete-decided t F 0 list (get s (accepted n 0)) (is-checked ran-desk) whole-list).0 e in
      let M = one-mark t F list (replicate (width 64) 0) (replicate 4096 0) (the_run t F list).passes (record {
        ran = ran-desk;
        shared = (table-verdicts t (is-checked ran-desk)).meets-decides.0 m;
        complete = subst (λ (z : List ℕ). Complete (Intact (fbqs_in t) F) 0 (calls list) (get z (accepted n 0))) (sym ends) C;
      }) in
      subst (λ (z : List ℕ). mark v (get z (confirmed n 0)) (get z (confirmed n 1)) ≡ mark w (get z (confirmed n 0)) (get z (confirmed n 1))) ends (M.one v w I J)

pub entries-agree : EntriesAgree
unfolding missing_text missing_check lacking_lines line
entries-agree F image list rest e c text =
    let t = table_on image in
    let same : sites_of t ≡ sites_on image = image-sites image in
    let n = sites_of t in
    let whole = intact (slices_in t) n F in
    let drill = get (the_run t F list).state (accepted n 0) in
    let live = side_lines n whole 1 list (get (the_run t F list).state (accepted n 1)) in
    let said : get_or (unmet (meets (slices_in t).inside n) ++ (side_lines n whole 0 list drill ++ live)) 0 0 ≡ 99 = ap (λ (l : List ℕ). get_or l 0 0) (rw (e, c) at text) in
    let met = begins-met n whole list drill live (meets (slices_in t).inside n) said in
    let complete = begins-complete n whole list drill live (rw met at said) in
    subst (λ (m : ℕ). (v w : ℕ) → Intact (fbqs_in t) F v → Intact (fbqs_in t) F w →
    mark v (get (the_run t F list).state (confirmed m 0)) (get (the_run t F list).state (confirmed m 1))
    ≡ mark w (get (the_run t F list).state (confirmed m 0)) (get (the_run t F list).state (confirmed m 1))) same
    (one_entry t F list (or_else-sound (verdict_check t (set_check t F)) _ c).1 met complete)
