-- The run of a list of calls on an image.
use Rattle.std.specs.Prelude.{ℕ, List, length}
use Rattle.refusal_lines.specs.Refused.{explained}
use Rattle.outcome.specs.Outcome.{end_lines}
use Rattle.check_text.specs.Table.{image_check, unless, table_on}
use Rattle.run.specs.Run.{run_check, the_run}
use Rattle.rules.specs.State.{width}
use Rattle.sets.specs.Groups.{Groups, slices_in, sites_of}
use Rattle.verdicts.specs.Verdicts.{intact}

-- of a table in memory: 10, then 17, then the lines, with the sites that are intact. The rooms are for 64 sites and 4,096 calls, so that 9 does not arise.
unfoldable pub ran_text : ℕ → Groups → List ℕ → List ℕ
unfolding run_check explained end_lines intact
ran_text F t list =
    let n = sites_of t in
    let r = the_run t F list in
    unless (run_check t F (length list) (width 64) 4096) explained
    (end_lines F n (intact (slices_in t) n F) r.passes r.state list r.answers)

-- "the table as in reading, 10, 17": the lines of the run, or the refusal and what it means
unfoldable pub run_text : ℕ → List ℕ → List ℕ → List ℕ
unfolding image_check explained ran_text
run_text F image list = unless (image_check image) explained (ran_text F (table_on image) list)
