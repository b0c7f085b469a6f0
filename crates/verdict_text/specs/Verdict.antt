-- The verdict of an image, and of what the verdict program is given.
use Rattle.std.specs.Prelude.{ℕ, ◌||◌, cond, List, ltb, length, drop}
use Rattle.le.specs.Le.{field}
use Rattle.refusal_lines.specs.Refused.{refused}
use Rattle.refusals.specs.declared.Refusal.TheVariants.{Length}
use Rattle.check_text.specs.Table.{table_on, image_check, unless}
unfoldable pub use Rattle.judged_text.specs.Judged.{judged_text}

-- "Table first, then 10, then 16": the seven lines, or the single line of a refusal
unfoldable pub verdict_text : ℕ → List ℕ → List ℕ
unfolding image_check refused judged_text
verdict_text F image = unless (image_check image) refused (judged_text F (table_on image))

-- "Standard input: the faulty mask, 8 bytes little-endian, then a table image. Under 8 bytes, or over 32,776, it is refusal 1."
unfoldable pub input_text : List ℕ → List ℕ
unfolding refused verdict_text
input_text input = cond (ltb (length input) 8 || ltb 32776 (length input)) (refused Length) (verdict_text (field 8 input 0) (drop 8 input))
