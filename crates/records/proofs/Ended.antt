-- How a run of calls that stand packed ends: more calls than the room holds are refused as 16,388 bytes are, fewer run as their bytes.
use Rattle.refusals.specs.Check.{Answer}
use Rattle.std.specs.Prelude.{Ok, Err}
use Prim.Native.Nat.{ℕ, ◌*◌, ◌≤◌, ◌<◌}
use mathlib.Core.List.{List}
use mathlib.Core.Path.{◌≡◌, ap, subst, ◌∙◌}
use native.Mathlib.Omega.{arith}
use lib.ListN.{length, take}
use Rattle.packing.proofs.Packing.{bytes_of-length, packed, packable-all}
use Rattle.packing.specs.Inner.{pack_to, packable}
use Rattle.packing.specs.Pack.{bytes_of}
use Rattle.packing.specs.declared.Call.{Call}
use Rattle.records.specs.Inner.{RowEnded, TableEnded}
use Rattle.refusals.specs.declared.Refusal as Refusal
use Rattle.run.proofs.RunWays.{long-alike, fits, row-refused, check-refused, ran-refused, ran-rows, states-rows, answers-rows}
use Rattle.run.specs.Inner.{row_run_check, row_ran, row_state_into, row_answers_into}
use Rattle.run.specs.Run.{ran, state_into, answers_into}
use Rattle.sets.specs.Groups.{Groups, sites_of, groups_check}
use Rattle.sets.specs.Inner.AsRows.{AsRows}

pub long-unsound : (n F state answers : ℕ) → row_run_check n F 16388 state answers ≡ Ok tt → ⊥
long-unsound n F state answers e = omega (arith, (fits n F 16388 state answers e).few)

-- of rows

module _ (rows : List ℕ) (many F : ℕ) (bytes : List ℕ) (n : ℕ) (state answers : List ℕ) where
  pub over-refused : (r : Refusal.Refusal) → 4096 < n → row_run_check many F 16388 (length state) (length answers) ≡ Err r →
      RowEnded rows many F bytes n state answers (Err r) state answers
  over-refused r l e = record {
    answer = λ list h w. (row-refused rows many F list state answers (alike list h)).0;
    states = λ list h w. (row-refused rows many F list state answers (alike list h)).1;
    answered = λ list h w. (row-refused rows many F list state answers (alike list h)).2;
  }
    where
      alike : (list : List ℕ) → length list ≡ 4 * n → row_run_check many F (length list) (length state) (length answers) ≡ Err r
      alike list h = ap (λ (k : ℕ). row_run_check many F k (length state) (length answers)) h ∙ long-alike many F (length state) (length answers) n l ∙ e

  pub held-ends : (r : Answer ℕ) (state' answers' : List ℕ) → n ≤ 4096 → r ≡ row_ran rows many F (take (4 * n) bytes) (length state) (length answers) →
      state' ≡ row_state_into r rows many F (take (4 * n) bytes) state → answers' ≡ row_answers_into r rows many F (take (4 * n) bytes) answers →
      RowEnded rows many F bytes n state answers r state' answers'
  held-ends r state' answers' l a s b = record {
    answer = λ list h w. subst (λ (x : List ℕ). r ≡ row_ran rows many F x (length state) (length answers)) (w l) a;
    states = λ list h w. subst (λ (x : List ℕ). state' ≡ row_state_into r rows many F x state) (w l) s;
    answered = λ list h w. subst (λ (x : List ℕ). answers' ≡ row_answers_into r rows many F x answers) (w l) b;
  }

-- of a table that is refused, and of one that is not

pub table-refused : (t : Groups) (F : ℕ) (bytes : List ℕ) (n : ℕ) (state answers : List ℕ) {r : Refusal.Refusal} → groups_check t ≡ Err r →
    TableEnded t F bytes n state answers (Err r) state answers
table-refused t F bytes n state answers e = record {
  answer = λ list h w. (ran-refused t F list state answers (check-refused t F (length list) (length state) (length answers) e)).0;
  states = λ list h w. (ran-refused t F list state answers (check-refused t F (length list) (length state) (length answers) e)).1;
  answered = λ list h w. (ran-refused t F list state answers (check-refused t F (length list) (length state) (length answers) e)).2;
}

pub table-ends : {t : Groups} {rows : List ℕ} → AsRows t rows → (F : ℕ) (bytes : List ℕ) (n : ℕ) (state answers : List ℕ) {r : Answer ℕ} {state' answers' : List ℕ} →
    RowEnded rows (sites_of t) F bytes n state answers r state' answers' → TableEnded t F bytes n state answers r state' answers'
table-ends a F bytes n state answers {r} E = record {
  answer = λ list h w. E.answer list h w ∙ ran-rows a F list (length state) (length answers);
  states = λ list h w. E.states list h w ∙ states-rows a F list r state;
  answered = λ list h w. E.answered list h w ∙ answers-rows a F list r answers;
}

-- of a list of calls, put into a room: its bytes run

module _ (b : List ℕ) (cs : List Call) (room : List ℕ) (long : length b ≡ 16384) (put : room ≡ pack_to b cs (packable (length cs))) where
  held-bytes : length cs ≤ 4096 → take (4 * length cs) room ≡ bytes_of cs
  held-bytes h = ap (take (4 * length cs)) (put ∙ ap (pack_to b cs) (packable-all (length cs) h)) ∙ packed b long cs h

  pub calls-end : (t : Groups) (F : ℕ) (state answers : List ℕ) (r : Answer ℕ) (state' answers' : List ℕ) →
      TableEnded t F room (length cs) state answers r state' answers' →
      (r ≡ ran t F (bytes_of cs) (length state) (length answers)) × (state' ≡ state_into r t F (bytes_of cs) state)
      × (answers' ≡ answers_into r t F (bytes_of cs) answers)
  calls-end t F state answers r state' answers' E =
      let n = bytes_of-length cs in (E.answer (bytes_of cs) n held-bytes, E.states (bytes_of cs) n held-bytes, E.answered (bytes_of cs) n held-bytes)
