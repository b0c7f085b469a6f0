-- From the bytes of an image to a printed line, in the words of 004.
use Rattle.std.specs.Prelude.{ℕ, ◌≤◌, ◌<◌, Bool, true, List, ◌++◌, ◌↔◌, ◌≡◌, length, Ok, Err}
use Rattle.check_text.specs.Table.{sites_on, image_check, table_on}
use Rattle.ground.specs.Pieces.{part}
use Rattle.image.specs.Read.{read}
use Rattle.lines.specs.Lines.{line}
use Rattle.masks.specs.Mask.{minus, all_below, ◌∈◌, ◌⊆◌}
use Rattle.outcome.specs.Outcome.{end_lines}
use Rattle.refusals.specs.declared.Refusal.TheVariants.{NoQuorum, Room}
use Rattle.register.specs.Register.{worth_of, site_line}
use Rattle.rules.specs.State.{accepts, confirmed, width, get}
use Rattle.run.specs.Run.{run_check, the_run}
use Rattle.run_text.specs.Run.{run_text}
use Rattle.sets.specs.Paper.{Fbqs, Intersection, Intact, Befouled}
use Rattle.site_block.specs.Block.{count_field, slice_field}
use Rattle.text.specs.Text.{ascii, decimal}
use Rattle.verdict_lines.specs.Verdict.{seven_lines}
use Rattle.verdict_text.specs.Verdict.{verdict_text}
use Rattle.verdicts.specs.Verdicts as Verdicts
use Rattle.published.specs.Sets.{LargestInside, IntactSites}
use Rattle.published.specs.Voting.{Confirms}
use Rattle.sets.specs.Groups.{Groups, fbqs_in, slices_in, sites_of, SoundTable}

-- the pair that the bytes of an image name: "Blocks of 512 bytes, one a site, in site order", each with its count and its slices
abbrev pub fbqs_on : List ℕ → Fbqs
fbqs_on image = record {
  sites = all_below (sites_on image);
  Slice = λ v q. (i : ℕ) × (i < count_field (part 512 v image)) × (q ≡ slice_field (part 512 v image) i);
}

-- the pair of the table that was read
abbrev pub fbqs_read : List ℕ → Fbqs
fbqs_read image = fbqs_in (table_on image)

-- what is read is a sound table, of as many sites as there are blocks, and each site has the slices that its block names
abbrev pub ReadAsFiled : Type 0
ReadAsFiled =
    (image : List ℕ) → image_check image ≡ Ok tt →
    SoundTable (table_on image) × (sites_of (table_on image) ≡ sites_on image)
    × ((v q : ℕ) → v < sites_on image → (fbqs_on image).Slice v q ↔ (fbqs_read image).Slice v q)

-- the seven lines of a verdict, of n sites over S, those of F faulty: "n; F; `yes` or `no` for shared sites; intact set; befouled set; largest quorum
-- outside F; its rounds"
pub record VerdictOf (S : Fbqs) (n F : ℕ) (text : List ℕ) : Type 0 where
  pub meet : Bool
  pub whole : ℕ
  pub quorum : ℕ
  pub rounds : ℕ
  pub lines : text ≡ seven_lines F n meet whole quorum rounds
  -- "any two quorums share a server"
  pub meets : (meet ≡ true) ↔ Intersection S
  pub intact : IntactSites S n F whole
  pub outside : LargestInside S (minus (all_below n) F) quorum rounds

abbrev pub VerdictAsPublished : Type 0
VerdictAsPublished =
    (F : ℕ) (image : List ℕ) → image_check image ≡ Ok tt → F ⊆ all_below (sites_on image) → sites_on image ≤ 12 →
    VerdictOf (fbqs_read image) (sites_on image) F (verdict_text F image)

-- who is intact on the table that was read, when the sites of F are faulty
abbrev pub whole_on : ℕ → List ℕ → ℕ
whole_on F image = Verdicts.intact (slices_in (table_on image)) (sites_on image) F

-- the register: a correct site's line says drill exactly if the site has confirmed drill and not live, by the published rule, from the accepts that it
-- heard in the run of the list
abbrev pub RegisterAsPublished : Type 0
RegisterAsPublished =
    (F : ℕ) (image list : List ℕ) → image_check image ≡ Ok tt → run_check (table_on image) F (length list) (width 64) 4096 ≡ Ok tt →
    let n = sites_on image in
    let whole = whole_on F image in
    let r = the_run (table_on image) F list in
    (run_text F image list ≡ end_lines F n whole r.passes r.state list r.answers)
    × ((v : ℕ) → v < n → (v ∈ F → ⊥) →
    (site_line n F whole (get r.state (confirmed n 0)) (get r.state (confirmed n 1)) v
    ≡ line (ascii "site ") (decimal v ++ (ascii " drill" ++ worth_of n F whole v)))
    ↔ (Confirms (fbqs_read image) v (get r.state (accepts 0 v)) × (Confirms (fbqs_read image) v (get r.state (accepts 1 v)) → ⊥)))

-- what an entry is worth: of a correct site it says intact exactly if the site is intact, and befouled exactly if it is befouled, by the paper
abbrev pub WorthAsPublished : Type 0
WorthAsPublished =
    (F : ℕ) (image : List ℕ) → image_check image ≡ Ok tt → F ⊆ all_below (sites_on image) → sites_on image ≤ 12 →
    let n = sites_on image in
    let whole = whole_on F image in
    (v : ℕ) → v < n → (v ∈ F → ⊥) →
    ((worth_of n F whole v ≡ ascii " intact") ↔ Intact (fbqs_read image) F v)
    × ((worth_of n F whole v ≡ ascii " befouled") ↔ Befouled (fbqs_read image) F v)

-- 7 ("the table holds no quorum") is never the reader's answer
abbrev pub SevenNever : Type 0
SevenNever = (image : List ℕ) (room : ℕ) → read image room ≡ Err NoQuorum → ⊥

-- 9 ("room lent too short") never arises at the desk, neither of an image nor of a list
abbrev pub NineNever : Type 0
NineNever =
    ((image : List ℕ) → image_check image ≡ Err Room → ⊥)
    × ((t : Groups) (F : ℕ) (list : List ℕ) → run_check t F (length list) (width 64) 4096 ≡ Err Room → ⊥)
