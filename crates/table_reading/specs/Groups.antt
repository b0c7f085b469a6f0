-- A group that is complete: refused, or taken into the table.
use Rattle.refusals.specs.Check.{Check}
use Rattle.std.specs.Prelude.{ℕ, ◌+◌, ◌*◌, Bool, true, false, not, cond, List, ◌++◌, ltb, take, drop, Ok, Err}
use Rattle.group_order.specs.Joined.{joined, known}
use Rattle.masks.specs.Mask.{has}
use Rattle.refusals.specs.First.{or_else, refuse}
use Rattle.refusals.specs.declared.Refusal.TheVariants.{Slice, Order}
use Rattle.refusals.specs.declared.Refusal.TheVariants.{Count as Groups}
use Rattle.rows.specs.Site.{count}
use Rattle.table.specs.Table.{site_of}
use Rattle.table_words.specs.declared.Token.{Token}
use Rattle.table_words.specs.declared.Token.TheVariants.{Silence, Sites, Number, Colon, Bar, End, Strange}
use Rattle.table_grammar.specs.Grammar.{at, own}
use Rattle.table_grammar.specs.declared.Phase.{Phase}
use Rattle.table_grammar.specs.declared.Phase.TheVariants.{Head, Count, Tail, Owner, Mark, First, More, Wrong}
use Rattle.table_grammar.specs.declared.Why.TheVariants.{Rule}
use Rattle.table_grammar.specs.declared.Spot.{Spot}

-- a group q of site v, whose 63 numbers are m: "a 63rd group 4, owner missing 5, a group that stands twice 6"
unfoldable pub group_check : ℕ → ℕ → List ℕ → Check
unfolding known
group_check v q m = or_else (refuse (ltb 61 (count m)) (Groups v)) (or_else (refuse (not (has q v)) (Slice v)) (refuse (known q m) (Order v)))

-- a bar and the end of the line complete a group
abbrev pub completes : Token → Bool
completes Silence = false
completes Sites = false
completes (Number x) = false
completes Colon = false
completes Bar = true
completes End = true
completes Strange = false

abbrev pub closes : Phase → Token → Bool
closes Head k = false
closes Count k = false
closes Tail k = false
closes Owner k = false
closes Mark k = false
closes First k = false
closes More k = completes k
closes (Wrong why) k = false

-- the 63 numbers of the site whose line is read, and the check of the group so far
abbrev pub row_of : Spot → List ℕ → List ℕ
row_of s t = site_of t (own s.v)

unfoldable pub check_of : Spot → List ℕ → Check
unfolding group_check
check_of s t = group_check (own s.v) s.q (row_of s t)

-- refused, the spot says so and the table stays; otherwise the group joins its site
abbrev pub ruled : Check → Spot → Spot
ruled (Ok _) s = s
ruled (Err r) s = at s (Wrong (Rule r))

abbrev pub entered : Check → Spot → List ℕ → List ℕ
entered (Ok _) s t = take (63 * own s.v) t ++ (joined s.q (row_of s t) ++ drop (63 * own s.v + 63) t)
entered (Err r) s t = t

abbrev pub spot_after : Spot → List ℕ → Spot
spot_after s t = ruled (check_of s t) s

abbrev pub table_after : Spot → List ℕ → List ℕ
table_after s t = entered (check_of s t) s t

-- where a group is complete, and where not
unfoldable pub judged : Spot → Token → List ℕ → Spot
unfolding check_of
judged s k t = cond (closes s.phase k) (spot_after s t) s

unfoldable pub kept : Spot → Token → List ℕ → List ℕ
unfolding check_of
kept s k t = cond (closes s.phase k) (table_after s t) t
