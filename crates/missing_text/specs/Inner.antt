-- What `desk missing` prints of a table in memory, as `missing_text` has it.
use Rattle.std.specs.Prelude.{ℕ, List, length}
use Rattle.check_text.specs.Table.{unless}
use Rattle.missing_text.specs.MissingText.{lacking_lines, missing_check}
use Rattle.refusal_lines.specs.Refused.{explained}
use Rattle.sets.specs.Groups.{Groups}

unfoldable pub table_text : ℕ → Groups → List ℕ → List ℕ
unfolding missing_check lacking_lines explained
table_text F t list = unless (missing_check F t (length list)) explained (lacking_lines F t list)
