-- What `desk risk` prints of an image.
use Rattle.std.specs.Prelude.{ℕ, List, ◌++◌}
use Rattle.check_text.specs.Table.{image_check, unless, table_on}
use Rattle.ground.specs.Pieces.{cat}
use Rattle.lines.specs.Lines.{line}
use Rattle.members.specs.Members.{members}
use Rattle.questions.specs.Answers.{verdict_check}
use Rattle.refusal_lines.specs.Refused.{explained}
use Rattle.risk.specs.Risk.{taken_along, fewest, first_ruin}
use Rattle.sets.specs.Groups.{slices_in, sites_of, groups_check}
use Rattle.sets.specs.Slices.{Slices}
use Rattle.text.specs.Text.{ascii, decimal, mask}

-- "`site V K` for each site: how many other sites are befouled if it alone is faulty"
unfoldable pub risk_line : Slices → ℕ → ℕ → List ℕ
unfolding line decimal taken_along
risk_line r n v = line (ascii "site ") (decimal v ++ (ascii " " ++ decimal (taken_along r n v)))

-- "then `fewest K`, the fewest faulty sites that leave nobody intact, and `first MASK` and `first sites ..`, the lowest such set as a number"
unfoldable pub risk_lines : ℕ → Slices → List ℕ
unfolding cat risk_line line decimal mask members fewest first_ruin
risk_lines n r =
    cat (risk_line r n) n
    ++ (line (ascii "fewest ") (decimal (fewest r n))
    ++ (line (ascii "first ") (mask (first_ruin r n))
    ++ line (ascii "first sites") (members (first_ruin r n))))

-- the table as in reading, then 16; then the lines
unfoldable pub risk_text : List ℕ → List ℕ
unfolding image_check explained risk_lines
risk_text image =
    let t = table_on image in
    unless (image_check image) explained (unless (verdict_check t (groups_check t)) explained (risk_lines (sites_of t) (slices_in t)))
