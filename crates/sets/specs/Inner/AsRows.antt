-- A table of whichever form that is not refused, and the rows by which it is asked: as many as it has sites, with its own answers.
use Rattle.std.specs.Prelude.{List, ◌≡◌, ℕ}
use Rattle.sets.specs.Groups.{Groups, sites_of, slices_in, Checked}
use Rattle.sets.specs.Inner.Rows.{Rows, rules_of}

pub record AsRows (t : Groups) (rows : List ℕ) : Type 0 where
  pub checked : Checked t
  pub right : Rows rows (sites_of t)
  pub same-rules : rules_of rows ≡ slices_in t
