-- What `desk make` puts on file: the image of the table that the text is.
use Rattle.std.specs.Prelude.{ℕ, List, length}
use Rattle.image_blocks.specs.Image.{stores}
use Rattle.table.specs.Table.{sites}
use Rattle.table_made.specs.Made.{table_in}

unfoldable pub image_in : List ℕ → List ℕ
unfolding table_in
image_in text = stores (sites (length (table_in text))) (table_in text)
