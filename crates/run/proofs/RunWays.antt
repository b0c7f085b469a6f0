-- One law for each way out of the check of a run and of the run itself.
use Rattle.refusals.specs.Check.{Answer, Check}
use Rattle.std.specs.Prelude.{Ok, Err}
use Prim.Native.Nat.{ℕ, ◌+◌, ◌*◌, ◌/◌, ◌%◌, ◌≤◌, ◌<◌}
use mathlib.Core.Bool.{not}
use mathlib.Core.List.{List, ◌++◌}
use mathlib.Core.Path.{◌≡◌, refl, ap, ◌∙◌}
use native.Mathlib.Omega.{arith}
use lib.Dec.{eqb, ltb}
use lib.ListN.{length, drop}
use borrow.Author.Tests.{eq-eqb, ne_eqb, lt-ltb, le-ltb, eqb-true, ltb-false, not-false}
use Rattle.ground.proofs.Logic.{or-none}
use Rattle.refusals.proofs.First.{or_else-sound, kept, missed}
use Rattle.refusals.specs.First.{or_else, refuse}
use Rattle.refusals.specs.declared.Refusal as Refusal
use Rattle.refusals.specs.declared.Refusal.TheVariants.{Room}
use Rattle.pass.specs.Calls.{calls}
use Rattle.passes.specs.Inner.{Whole}
use Rattle.run.specs.Inner.{row_run_check, row_run, row_ran, row_state_into, row_answers_into}
use Rattle.run.specs.Run.{list_misshapen, roomless, run_check, the_run, to_ran, ran, front, state_into, answers_into}
use Rattle.sets.proofs.Groups.{same-questions}
use Rattle.sets.specs.Groups.{Groups, sites_of, groups_check, Checked, outsider, set_check}
use Rattle.sets.specs.Inner.AsRows.{AsRows}
use Rattle.sets.specs.Promises.{Questions}
use Rattle.rules.specs.State.{width}
use Rattle.rules.specs.Vote.{vote}
use Rattle.rules.specs.Inner.{row_vote}
use Rattle.votes.specs.Passes.{Run}
use Rattle.votes.specs.Vote.{run_of}

-- the check of a run of n sites: 10, 17, 9
module _ (n F bytes state answers : ℕ) where
  pub set-refused : (r : Refusal.Refusal) → outsider n F ≡ Err r → Err r ≡ row_run_check n F bytes state answers
  unfolding row_run_check
  set-refused r e = rw e refl

  module _ (e : outsider n F ≡ Ok tt) where
    pub cut-refused : (bytes % 4 ≡ 0 → ⊥) → Err Refusal.Refusal.List ≡ row_run_check n F bytes state answers
    unfolding row_run_check list_misshapen
    cut-refused f = rw (e, ne_eqb (bytes % 4) 0 f) refl

    module _ (f : bytes % 4 ≡ 0) where
      pub long-refused : 16384 < bytes → Err Refusal.Refusal.List ≡ row_run_check n F bytes state answers
      unfolding row_run_check list_misshapen
      long-refused l = rw (e, eq-eqb (bytes % 4) 0 f, lt-ltb 16384 bytes l) refl

      module _ (l : bytes ≤ 16384) where
        pub state-refused : state < 4 * n + 6 → Err Room ≡ row_run_check n F bytes state answers
        unfolding row_run_check list_misshapen roomless
        state-refused s = rw (e, eq-eqb (bytes % 4) 0 f, le-ltb 16384 bytes l, lt-ltb state (4 * n + 6) s) refl

        pub answers-refused : 4 * n + 6 ≤ state → answers < bytes / 4 → Err Room ≡ row_run_check n F bytes state answers
        unfolding row_run_check list_misshapen roomless
        answers-refused s a =
            rw (e, eq-eqb (bytes % 4) 0 f, le-ltb 16384 bytes l, le-ltb state (4 * n + 6) s, lt-ltb answers (bytes / 4) a) refl

        pub none-refused : 4 * n + 6 ≤ state → bytes / 4 ≤ answers → Ok tt ≡ row_run_check n F bytes state answers
        unfolding row_run_check list_misshapen roomless
        none-refused s a =
            rw (e, eq-eqb (bytes % 4) 0 f, le-ltb 16384 bytes l, le-ltb state (4 * n + 6) s, le-ltb answers (bytes / 4) a) refl

-- all lists that are too long are refused alike: 10, 17
pub long-alike : (many F state answers n : ℕ) → 4096 < n → row_run_check many F (4 * n) state answers ≡ row_run_check many F 16388 state answers
unfolding row_run_check list_misshapen
long-alike many F state answers n l = rw (eq-eqb (4 * n % 4) 0 (omega arith), lt-ltb 16384 (4 * n) (omega arith)) refl

-- what a sound check of a run has shown
pub record Fits (n bytes state answers : ℕ) : Type 0 where
  pub four : bytes ≡ 4 * (bytes / 4)
  pub few : bytes / 4 ≤ 4096
  pub states : width n ≤ state
  pub many : bytes / 4 ≤ answers

pub fits : (n F bytes state answers : ℕ) → row_run_check n F bytes state answers ≡ Ok tt → Fits n bytes state answers
unfolding row_run_check list_misshapen roomless
fits n F bytes state answers e =
    let roomed = refuse (roomless n bytes state answers) Room in
    let listed = or_else (refuse (list_misshapen bytes) Refusal.Refusal.List) roomed in
    let a = or_else-sound (outsider n F) listed e in
    let b = missed (list_misshapen bytes) Refusal.Refusal.List roomed a.1 in
    let c = or-none (not (eqb (bytes % 4) 0)) (ltb 16384 bytes) b.0 in
    let d = or-none (ltb state (width n)) (ltb answers (bytes / 4)) (kept (roomless n bytes state answers) Room b.1) in
    let z : bytes % 4 ≡ 0 = eqb-true (bytes % 4) 0 (not-false (eqb (bytes % 4) 0) c.0) in
    let l : bytes ≤ 16384 = ltb-false 16384 bytes c.1 in
    record {
      four = omega arith;
      few = omega arith;
      states = ltb-false state (width n) d.0;
      many = ltb-false answers (bytes / 4) d.1;
    }

-- the run of rows: refused, or whole
module _ (rows : List ℕ) (n F : ℕ) (list state answers : List ℕ) where
  pub row-refused : {r : Refusal.Refusal} → row_run_check n F (length list) (length state) (length answers) ≡ Err r →
      (Err r ≡ row_ran rows n F list (length state) (length answers))
      × (state ≡ row_state_into (Err r) rows n F list state) × (answers ≡ row_answers_into (Err r) rows n F list answers)
  unfolding row_ran row_state_into row_answers_into
  row-refused e = (rw e refl, refl, refl)

  pub row-passes : {p k : ℕ} {s b : List ℕ} → k ≡ width n → row_run_check n F (length list) (length state) (length answers) ≡ Ok tt →
      Whole (row_vote rows n F) (calls list) p s b →
      (Ok p ≡ row_ran rows n F list (length state) (length answers))
      × (s ++ drop k state ≡ row_state_into (Ok p) rows n F list state)
      × (b ++ drop (length list / 4) answers ≡ row_answers_into (Ok p) rows n F list answers)
  unfolding row_ran row_state_into row_answers_into
  row-passes {p} {k} {s} {b} w e W = (
    rw e (ap Ok W.count),
    ap (λ (x : List ℕ). x ++ drop k state) W.state ∙ ap (λ (j : ℕ). (row_run rows n F list).state ++ drop j state) w,
    ap (λ (x : List ℕ). x ++ drop (length list / 4) answers) W.answers,
  )

-- of a table that is refused

module _ (t : Groups) (F : ℕ) where
  pub check-refused : (bytes state answers : ℕ) {r : Refusal.Refusal} → groups_check t ≡ Err r → run_check t F bytes state answers ≡ Err r
  unfolding run_check set_check
  check-refused bytes state answers e = rw e refl

  pub ran-refused : (list state answers : List ℕ) {r : Refusal.Refusal} → run_check t F (length list) (length state) (length answers) ≡ Err r →
      (Err r ≡ ran t F list (length state) (length answers))
      × (state ≡ state_into (Err r) t F list state) × (answers ≡ answers_into (Err r) t F list answers)
  unfolding ran state_into answers_into
  ran-refused list state answers e = (rw e refl, refl, refl)

  -- of one that is not: 10, 17, 9
  pub check-rest : (bytes state answers : ℕ) → Checked t → row_run_check (sites_of t) F bytes state answers ≡ run_check t F bytes state answers
  unfolding row_run_check run_check set_check
  check-rest bytes state answers e = rw e refl

  -- what is not refused
  pub run-checked : (bytes state answers : ℕ) → run_check t F bytes state answers ≡ Ok tt → Checked t
  unfolding run_check set_check
  run-checked bytes state answers e = (or_else-sound (groups_check t) _ (or_else-sound (set_check t F) _ e).0).0

  pub run_fits : (bytes state answers : ℕ) → run_check t F bytes state answers ≡ Ok tt → Fits (sites_of t) bytes state answers
  run_fits bytes state answers e =
      fits (sites_of t) F bytes state answers (check-rest bytes state answers (run-checked bytes state answers e) ∙ e)

-- what its rows run to

module _ {t : Groups} {rows : List ℕ} (a : AsRows t rows) (F : ℕ) (list : List ℕ) where
  run-rows : row_run rows (sites_of t) F list ≡ the_run t F list
  run-rows = ap (λ (Q : Questions). run_of (vote Q (sites_of t) F) (calls list)) (same-questions a)

  pub ran-rows : (state answers : ℕ) → row_ran rows (sites_of t) F list state answers ≡ ran t F list state answers
  unfolding row_ran ran
  ran-rows state answers =
      ap (λ (q : Check). to_ran q (row_run rows (sites_of t) F list).passes) (check-rest t F (length list) state answers a.checked)
      ∙ ap (λ (x : Run (List ℕ)). to_ran (run_check t F (length list) state answers) x.passes) run-rows

  pub states-rows : (r : Answer ℕ) (room : List ℕ) → row_state_into r rows (sites_of t) F list room ≡ state_into r t F list room
  unfolding row_state_into state_into
  states-rows r room = ap (λ (x : Run (List ℕ)). front r x.state (width (sites_of t)) room) run-rows

  pub answers-rows : (r : Answer ℕ) (room : List ℕ) → row_answers_into r rows (sites_of t) F list room ≡ answers_into r t F list room
  unfolding row_answers_into answers_into
  answers-rows r room = ap (λ (x : Run (List ℕ)). front r x.answers (length list / 4) room) run-rows
