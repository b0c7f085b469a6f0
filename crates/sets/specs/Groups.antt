-- A table of groups in whichever form it is handed over. A new form is one constructor here, and one line in each definition by cases.
use Rattle.refusals.specs.Check.{Check}
use Rattle.std.specs.Prelude.{ℕ, not, List, ◌≡◌, length, Ok}
use Rattle.masks.specs.Mask.{within, all_below}
use Rattle.refusals.specs.First.{or_else, refuse}
use Rattle.refusals.specs.declared.Refusal.TheVariants.{Set}
use Rattle.sets.specs.Paper.{Fbqs}
use Rattle.sets.specs.Promises.{Questions, questions_of}
use Rattle.sets.specs.Slices.{Slices, fbqs_of, slices_of}
use Rattle.sets.specs.Thresholds.{fbqs_of_thresholds, thresholds_of}
use Rattle.table.specs.Table.{sites, check, Table}
use Rattle.threshold_image.specs.Image.{image_sites, thresholds_check, Thresholds}

pub data Groups : Type 0 where
  -- a table in memory, each site with its list of slices
  lists : List ℕ → Groups
  -- a table of thresholds, as the image that is on file
  thresholds : List ℕ → Groups

-- how many sites it has
abbrev pub sites_of : Groups → ℕ
sites_of (lists t) = sites (length t)
sites_of (thresholds image) = image_sites (length image)

-- its slices: as the paper's pair, and as the tests that everything above asks
abbrev pub fbqs_in : Groups → Fbqs
fbqs_in (lists t) = fbqs_of t (sites (length t))
fbqs_in (thresholds image) = fbqs_of_thresholds image (image_sites (length image))

abbrev pub slices_in : Groups → Slices
slices_in (lists t) = slices_of t
slices_in (thresholds image) = thresholds_of image (image_sites (length image))

-- its refusals: "A table in memory is refused with 1, 4, 5, 6 or 8 by every public call that takes one." A table of thresholds with 1, then block by block
abbrev pub groups_check : Groups → Check
groups_check (lists t) = check t
groups_check (thresholds image) = thresholds_check image

-- what it promises then
abbrev pub SoundTable : Groups → Type 0
SoundTable (lists t) = Table t (sites (length t))
SoundTable (thresholds image) = Thresholds image (image_sites (length image))

-- it is not refused
abbrev pub Checked : Groups → Type 0
Checked t = groups_check t ≡ Ok tt

-- 10: "a set names a site at or above n"
unfoldable pub outsider : ℕ → ℕ → Check
outsider n set = refuse (not (within set (all_below n))) Set

-- the table, then 10
unfoldable pub set_check : Groups → ℕ → Check
unfolding outsider
set_check t set = or_else (groups_check t) (outsider (sites_of t) set)

-- the questions that the voting asks of it
abbrev pub questions : Groups → Questions
questions t = questions_of (slices_in t) (sites_of t)
