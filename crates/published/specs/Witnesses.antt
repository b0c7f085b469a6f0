-- On the tables of 01 each premise of the published statements is met, so that none of them is empty.
use Rattle.std.specs.Prelude.{ℕ, ◌*◌, true, false, List, [], ◌∷◌, ◌≡◌, length, take, replicate, Some, None, Ok}
use Rattle.check_text.specs.Table.{image_check, table_on}
use Rattle.image_write.specs.Write.{write_into}
use Rattle.questions.specs.Answers.{quorum, largest, blocks, shared, intact, pair_of, set_left}
use Rattle.rules.specs.State.{width}
use Rattle.run.specs.Examples.{table_a, rows_b, table_b, table_apart}
use Rattle.run.specs.Run.{run_check}
use Rattle.run.specs.Theorems.{Taken}
use Rattle.votes.specs.Vote.{fresh}
use Rattle.voting.specs.Step.{sound_check}
use Rattle.published.specs.Union.{Relied}
use Rattle.sets.specs.Groups.{Checked}

-- "vote 0 to 1 drill, propose 0 drill"
abbrev pub late : List ℕ
late = 1 ∷ 0 ∷ 1 ∷ 0 ∷ 0 ∷ 0 ∷ 0 ∷ 0 ∷ []

-- what writing table B leaves in a room of four blocks
abbrev pub image_b : List ℕ
image_b = take (512 * 4) (write_into (Ok 4) rows_b (replicate 2048 0))

pub record Witnesses : Type 0 where
  -- tables A and B are sound
  pub a-sound : Checked table_a
  pub b-sound : Checked table_b
  -- each answer of the set questions is given
  pub a-quorum : quorum table_b 7 ≡ Ok true
  pub no-quorum : quorum table_b 3 ≡ Ok false
  pub blocked : blocks table_b 6 0 ≡ Ok true
  pub unblocked : blocks table_b 2 0 ≡ Ok false
  pub a-largest : largest table_a 23 ≡ Ok (set_left 7 1)
  pub meeting : shared table_b ≡ Ok None
  pub not-meeting : shared table_apart ≡ Ok (Some (pair_of 3 12))
  pub some-intact : intact table_a 8 ≡ Ok 7
  -- the premises of the union's promise, as a verdict says them
  pub relied : Relied table_a 8 7
  -- a state that is not 18, and a run that is taken
  pub b-state : sound_check table_b 8 (fresh (width 4)) ≡ Ok tt
  pub b-run : Taken table_b 0 late (replicate 22 7) (replicate 2 7) 3
  -- an image that is sound, and a list that runs on the table that is read from it
  pub b-image : image_check image_b ≡ Ok tt
  pub b-list : run_check (table_on image_b) 0 (length late) (width 64) 4096 ≡ Ok tt
