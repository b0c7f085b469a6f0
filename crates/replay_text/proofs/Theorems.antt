-- A list that is kept reads back, and so its journal is run as the list is.
use Prim.Native.Nat.{ℕ}
use mathlib.Core.List.{List}
use mathlib.Core.Path.{◌≡◌, refl, ap}
use native.Mathlib.Omega.{arith}
use Rattle.check_text.specs.Table.{table_on, image_check, unless}
use Rattle.journal_blocks.specs.Journal.{journal_of}
use Rattle.journal_text.proofs.Theorems.{passed, back}
use Rattle.refusal_lines.specs.Refused.{explained}
use Rattle.refusals.specs.First.{or_else}
use Rattle.refusals.specs.Check.{Check}
use Rattle.std.specs.Prelude.{Ok, Err}
use Rattle.refusals.specs.declared.Refusal.{Refusal}
use Rattle.replay_text.specs.Replay.{asked_check, replay_check, replay_text}
use Rattle.replay_text.specs.Theorems.{ReplayPrintsRun}
use Rattle.run.specs.Run.{run_check}
use Rattle.run_text.specs.Run.{ran_text, run_text}
use Rattle.sets.specs.Groups.{set_check}

-- a run that is refused for the table or the mask says so, whatever the list is
stopped : (r : Refusal) (a b x : Check) (text : List ℕ) → or_else a b ≡ Err r → explained r ≡ unless a explained (unless (or_else b x) explained text)
stopped r (Ok _) (Ok _) x text e = let z : ◌≡◌ {A = ℕ} 0 1 = cc in absurd (omega arith)
stopped r (Ok _) (Err y) x text e = ap explained cc
stopped r (Err y) b x text e = ap explained cc

run-unasked : (F : ℕ) (image list : List ℕ) (r : Refusal) → asked_check F image ≡ Err r → explained r ≡ run_text F image list
unfolding asked_check run_text ran_text run_check
run-unasked F image list r h = stopped r (image_check image) (set_check (table_on image) F) _ _ h

pub replay-prints-run : ReplayPrintsRun
unfolding replay_text replay_check
replay-prints-run F image list h = go (asked_check F image) refl
  where
    go : (s : Check) → asked_check F image ≡ s → replay_text F image (journal_of list) ≡ run_text F image list
    go (Ok _) e = rw (e, passed list h) (ap (run_text F image) (back list h))
    go (Err r) e = rw e (run-unasked F image list r e)
