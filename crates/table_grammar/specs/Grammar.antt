-- The grammar: what is expected, and what each word that is heard there does.
--
--   text   = head, then the lines of sites 0, 1, .. n - 1; empty lines and comments anywhere
--   head   = `sites` n                          n from 1 to 64
--   line v = v `:` group { `|` group }          1 to 62 groups, in any order, no two the same
--   group  = site { site }                      sites below n, v among them, in any order, none twice
use Rattle.std.specs.Prelude.{ℕ, ◌+◌, ◌-◌, ◌≤◌, Bool, ◌||◌, not, cond, eqb, ltb}
use Rattle.std.specs.Int.Bits.{bit_or}
use Rattle.masks.specs.Mask.{has, single}
use Rattle.refusals.specs.declared.Refusal.TheVariants.{Slice}
use Rattle.refusals.specs.declared.Refusal.TheVariants.{Count as Groups}
use Rattle.table_words.specs.declared.Token.{Token}
use Rattle.table_words.specs.declared.Token.TheVariants.{Silence, Sites, Number, Colon, Bar, End, Strange}
use Rattle.table_grammar.specs.declared.Why.{Why}
use Rattle.table_grammar.specs.declared.Why.TheVariants.{LineEnd, Nothing, Member, Further, Other, Rule}
use Rattle.table_grammar.specs.declared.Why.TheVariants.{Sites as NoSites, Count as NoCount, Owner as NoOwner, Colon as NoColon}
use Rattle.table_grammar.specs.declared.Phase.{Phase}
use Rattle.table_grammar.specs.declared.Phase.TheVariants.{Head, Count, Tail, Owner, Mark, First, More, Wrong}
use Rattle.table_grammar.specs.declared.Spot.{Spot}

-- at most 64 sites, and no more lines than sites
abbrev pub Sane : Spot → Type 0
Sane s = (s.n ≤ 64) × (s.v ≤ s.n)

-- the same place, with something else expected and no group begun
abbrev pub at : Spot → Phase → Spot
at s p = record { line = s.line; n = s.n; v = s.v; q = 0; phase = p }

-- v counts the lines begun, so that the line of site v - 1 is the one that is read
abbrev pub own : ℕ → ℕ
own v = v - 1

-- what was expected: behind the last site's line nothing more
abbrev pub next_line : Bool → Why
next_line more = cond more NoOwner Nothing

abbrev pub expected : Phase → Bool → Why
expected Head more = NoSites
expected Count more = NoCount
expected Tail more = LineEnd
expected Owner more = next_line more
expected Mark more = NoColon
expected First more = Member
expected More more = Further
expected (Wrong why) more = why

-- what is heard is not what was expected; after the first fault nothing is heard
unfoldable pub missed : Spot → Spot
missed s = at s (Wrong (expected s.phase (ltb s.v s.n)))

-- the next line
abbrev pub onward : Spot → Phase → Spot
onward s p = record { line = s.line + 1; n = s.n; v = s.v; q = 0; phase = p }

-- "N is 1 to 64"
unfoldable pub many : Spot → ℕ → Spot
unfolding missed
many s x = cond (ltb x 1 || ltb 64 x) (missed s) (record { line = s.line; n = x; v = 0; q = 0; phase = Tail })

-- "then for each site, in order, its number"
unfoldable pub owner : Spot → ℕ → Spot
unfolding missed
owner s x =
    cond (not (ltb x s.n) || not (eqb x s.v))
    (missed s)
    (record { line = s.line; n = s.n; v = s.v + 1; q = 0; phase = Mark })

-- one site more in the group: "a site at or above N 5"; "one named twice in a group is a fault of the text"
unfoldable pub member : Spot → ℕ → Spot
member s x =
    cond (not (ltb x s.n)) (at s (Wrong (Rule (Slice (own s.v)))))
    (cond (has s.q x) (at s (Wrong Other))
    (record { line = s.line; n = s.n; v = s.v; q = bit_or s.q (single x); phase = More }))

-- the first site of a group: "a 63rd group 4"
unfoldable pub first_member : Spot → Bool → ℕ → Spot
unfolding member
first_member s full x = cond full (at s (Wrong (Rule (Groups (own s.v))))) (member s x)

-- what a number does where something is expected, then `sites`, a colon, a bar, the end of a line
abbrev pub numbered : Phase → Spot → Bool → ℕ → Spot
numbered Head s full x = missed s
numbered Count s full x = many s x
numbered Tail s full x = missed s
numbered Owner s full x = owner s x
numbered Mark s full x = missed s
numbered First s full x = first_member s full x
numbered More s full x = member s x
numbered (Wrong w) s full x = missed s

abbrev pub sited : Phase → Spot → Spot
sited Head s = at s Count
sited Count s = missed s
sited Tail s = missed s
sited Owner s = missed s
sited Mark s = missed s
sited First s = missed s
sited More s = missed s
sited (Wrong w) s = missed s

abbrev pub coloned : Phase → Spot → Spot
coloned Head s = missed s
coloned Count s = missed s
coloned Tail s = missed s
coloned Owner s = missed s
coloned Mark s = at s First
coloned First s = missed s
coloned More s = missed s
coloned (Wrong w) s = missed s

abbrev pub barred : Phase → Spot → Spot
barred Head s = missed s
barred Count s = missed s
barred Tail s = missed s
barred Owner s = missed s
barred Mark s = missed s
barred First s = missed s
barred More s = at s First
barred (Wrong w) s = missed s

abbrev pub line_end : Phase → Spot → Spot
line_end Head s = onward s Head
line_end Count s = missed s
line_end Tail s = onward s Owner
line_end Owner s = onward s Owner
line_end Mark s = missed s
line_end First s = missed s
line_end More s = onward s Owner
line_end (Wrong w) s = missed s

-- what a word does where it is heard; full says that the site whose line is read has 62 groups
abbrev pub spoken : Token → Bool → Spot → Spot
spoken Silence full s = s
spoken Sites full s = sited s.phase s
spoken (Number x) full s = numbered s.phase s full x
spoken Colon full s = coloned s.phase s
spoken Bar full s = barred s.phase s
spoken End full s = line_end s.phase s
spoken Strange full s = missed s
