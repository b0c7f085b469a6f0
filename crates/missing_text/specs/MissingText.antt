-- What `desk missing` prints of an image and a list of calls.
use Rattle.refusals.specs.Check.{Check}
use Rattle.std.specs.Prelude.{ℕ, List, ◌++◌, length}
use Rattle.check_text.specs.Table.{image_check, unless, table_on}
use Rattle.missing_lines.specs.Missing.{side_lines, unmet}
use Rattle.questions.specs.Answers.{verdict_check}
use Rattle.refusal_lines.specs.Refused.{explained}
use Rattle.refusals.specs.First.{or_else}
use Rattle.rules.specs.State.{accepted, width, get}
use Rattle.run.specs.Run.{run_check, the_run}
use Rattle.sets.specs.Groups.{Groups, slices_in, sites_of, set_check}
use Rattle.verdicts.specs.Verdicts.{meets, intact}

-- the accept calls between intact sites that the list lacks, for drill, then for live: those whose sender has accepted the side at the end of the run
unfoldable pub lacking_lines : ℕ → Groups → List ℕ → List ℕ
unfolding side_lines meets intact
lacking_lines F t list =
    let n = sites_of t in
    let end = (the_run t F list).state in
    let whole = intact (slices_in t) n F in
    unmet (meets (slices_in t).inside n)
    ++ (side_lines n whole 0 list (get end (accepted n 0)) ++ side_lines n whole 1 list (get end (accepted n 1)))

-- of a table in memory: 10, then 16, as for a verdict; then 17, as for a run. The rooms are for 64 sites and 4,096 calls, so that 9 does not arise.
unfoldable pub missing_check : ℕ → Groups → ℕ → Check
unfolding set_check run_check
missing_check F t bytes = or_else (verdict_check t (set_check t F)) (run_check t F bytes (width 64) 4096)

-- the table as in reading, 10, 16, 17; then the lines
unfoldable pub missing_text : ℕ → List ℕ → List ℕ → List ℕ
unfolding image_check explained missing_check lacking_lines
missing_text F image list =
    unless (image_check image) explained (unless (missing_check F (table_on image) (length list)) explained (lacking_lines F (table_on image) list))
