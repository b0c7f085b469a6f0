-- What the union may hold us to, and how the desk shows whether it holds.
use Rattle.std.specs.Prelude.{ℕ, ◌<◌, List, ◌++◌, ◌≡◌, length, None, Ok}
use Rattle.agreement.specs.Agreement.{Premises, Agreed, steps_into, StepsAgree, RunAgrees}
use Rattle.check_text.specs.Table.{sites_on, image_check, table_on}
use Rattle.lines.specs.Lines.{line}
use Rattle.liveness.specs.Liveness.{RunSpreads, OneMark}
use Rattle.mark.specs.Mark.{mark}
use Rattle.masks.specs.Mask.{◌∈◌}
use Rattle.missing_text.specs.MissingText.{missing_check, missing_text}
use Rattle.questions.specs.Answers.{shared, intact}
use Rattle.register.specs.Register.{worth_of, site_line}
use Rattle.rules.specs.State.{accepts, confirmed, width, get}
use Rattle.run.specs.Run.{run_check, the_run}
use Rattle.run.specs.Theorems.{Taken, end_state}
use Rattle.sets.specs.Paper.{Intact}
use Rattle.text.specs.Text.{ascii, decimal}
use Rattle.votes.specs.Call.{Call}
use Rattle.votes.specs.Vote.{fresh}
use Rattle.published.specs.Files.{fbqs_read, whole_on}
use Rattle.published.specs.Voting.{Confirms}
use Rattle.sets.specs.Groups.{Groups, sites_of}

-- The promise, of every sequence of steps and of every run: 004, theorem 5. And that a vote ends: theorem 6, and the mark of all intact sites.
pub record UnionPromise : Type 0 where
  pub steps-agree : StepsAgree
  pub runs-agree : RunAgrees
  pub runs-spread : RunSpreads
  pub one-mark : OneMark

-- The premises in the words of a verdict, for up to 12 sites: `meet yes`, and `intact` is not empty
pub record Relied (t : Groups) (F m : ℕ) : Type 0 where
  pub meet : shared t ≡ Ok None
  pub whole : intact t F ≡ Ok m
  pub somebody : m ≡ 0 → ⊥

-- then no two correct sites confirm different sides, and none both
abbrev pub AgreedByVerdict : Type 0
AgreedByVerdict =
    (t : Groups) (F m : ℕ) → Relied t F m →
    ((l : List Call) → Agreed (sites_of t) F (steps_into t F l (fresh (width (sites_of t)))))
    × ((list state answers : List ℕ) (p : ℕ) → Taken t F list state answers p → Agreed (sites_of t) F (end_state t F list state p))

-- Of the register: no line says drill while a correct site has confirmed live, by the published rule, from the accepts that it heard
abbrev pub RegisterAgrees : Type 0
RegisterAgrees =
    (F : ℕ) (image list : List ℕ) → image_check image ≡ Ok tt → run_check (table_on image) F (length list) (width 64) 4096 ≡ Ok tt →
    Premises (fbqs_read image) F →
    let n = sites_on image in
    let whole = whole_on F image in
    let s = (the_run (table_on image) F list).state in
    (v w : ℕ) → v < n → w < n → (w ∈ F → ⊥) →
    site_line n F whole (get s (confirmed n 0)) (get s (confirmed n 1)) v ≡ line (ascii "site ") (decimal v ++ (ascii " drill" ++ worth_of n F whole v)) →
    Confirms (fbqs_read image) w (get s (accepts 1 w)) → ⊥

-- "the line `complete drill` says that all intact sites have one mark": where it is the first line that `desk missing` prints, so that the table meets too
abbrev pub EntriesAgree : Type 0
EntriesAgree =
    (F : ℕ) (image list rest : List ℕ) → image_check image ≡ Ok tt → missing_check F (table_on image) (length list) ≡ Ok tt →
    missing_text F image list ≡ line (ascii "complete ") (ascii "drill") ++ rest →
    let n = sites_on image in
    let s = (the_run (table_on image) F list).state in
    (v w : ℕ) → Intact (fbqs_read image) F v → Intact (fbqs_read image) F w →
    mark v (get s (confirmed n 0)) (get s (confirmed n 1)) ≡ mark w (get s (confirmed n 0)) (get s (confirmed n 1))
