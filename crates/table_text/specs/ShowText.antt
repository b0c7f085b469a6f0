-- What `desk show` prints of an image.
use Rattle.std.specs.Prelude.{ℕ, List}
use Rattle.check_text.specs.Table.{image_check, unless, rows_on}
use Rattle.refusal_lines.specs.Refused.{explained}
use Rattle.table_shown.specs.Show.{show}

-- the table that it holds, as text; or the refusal and what it means
unfoldable pub show_text : List ℕ → List ℕ
unfolding image_check explained show
show_text image = unless (image_check image) explained (show (rows_on image))
