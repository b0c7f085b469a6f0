-- What `desk verdict` prints behind the seven lines of a verdict: its four sets by their sites' numbers; and, where the table does not meet, two quorums
-- with no common site. Where the verdict is refused, nothing.
use Rattle.refusals.specs.Check.{Answer}
use Rattle.std.specs.Prelude.{ℕ, List, [], ◌++◌, Some, None, Ok, Err}
use Rattle.check_text.specs.Table.{image_check, unless, table_on}
use Rattle.lines.specs.Lines.{line}
use Rattle.masks.specs.Mask.{all_below, minus}
use Rattle.members.specs.Members.{members}
use Rattle.questions.specs.Answers.{LargestSet, Sharing, largest, shared, intact, pair_of, set_left}
use Rattle.sets.specs.Groups.{Groups, sites_of}
use Rattle.text.specs.Text.{ascii}

-- of n sites: the faulty, the intact, the befouled, and the largest quorum outside the faulty
unfoldable pub four_sets : ℕ → ℕ → ℕ → ℕ → List ℕ
unfolding line members
four_sets F n whole quorum =
    line (ascii "faulty sites") (members F)
    ++ (line (ascii "intact sites") (members whole)
    ++ (line (ascii "befouled sites") (members (minus (all_below n) whole))
    ++ line (ascii "quorum sites") (members quorum)))

-- the pair that the question of shared sites answers: `parted 0 1 | 2 3`
abbrev pub parted : Sharing → List ℕ
parted (Ok None) = []
parted (Ok (Some p)) = line (ascii "parted") (members p.first ++ (ascii " |" ++ members p.second))
parted (Err r) = []

abbrev pub sets_spelled : ℕ → ℕ → Answer ℕ → LargestSet → Sharing → List ℕ
sets_spelled F n (Ok whole) (Ok l) s = four_sets F n whole l.set ++ parted s
sets_spelled F n (Ok whole) (Err r) s = []
sets_spelled F n (Err r) g s = []

-- of a table in memory: by the answers of the public questions
unfoldable pub judged_sites : ℕ → Groups → List ℕ
unfolding largest shared intact four_sets
judged_sites F t = let n = sites_of t in sets_spelled F n (intact t F) (largest t (minus (all_below n) F)) (shared t)

-- of an image
unfoldable pub verdict_sites : ℕ → List ℕ → List ℕ
unfolding image_check judged_sites
verdict_sites F image = unless (image_check image) (λ r. []) (judged_sites F (table_on image))
