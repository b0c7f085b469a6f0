-- The parts of the text that single functions write.
use Rattle.std.specs.Prelude.{ℕ, List, ◌++◌}
use Rattle.check_text.specs.Table.{unless}
use Rattle.lines.specs.Lines.{line}
use Rattle.members.specs.Members.{members}
use Rattle.questions.specs.Answers.{verdict_check}
use Rattle.refusal_lines.specs.Refused.{explained}
use Rattle.text.specs.Text.{ascii, decimal, mask}
use Rattle.risk_text.specs.RiskText.{risk_lines}
use Rattle.sets.specs.Groups.{Groups, slices_in, sites_of, groups_check}

-- the lines of a smallest set: how many members it has, and the set itself
unfoldable pub first_lines : ℕ → ℕ → List ℕ
unfolding line decimal mask members
first_lines fewest first = line (ascii "fewest ") (decimal fewest) ++ (line (ascii "first ") (mask first) ++ line (ascii "first sites") (members first))

-- of a table in memory: the table, 16, then the lines
unfoldable pub risk_read : Groups → List ℕ
unfolding explained risk_lines
risk_read t = unless (verdict_check t (groups_check t)) explained (risk_lines (sites_of t) (slices_in t))
