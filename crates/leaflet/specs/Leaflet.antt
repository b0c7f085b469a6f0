-- What each refusal means, in the words of the owners' leaflet.
use Prim.Native.String.{String, ◌++◌}
use Rattle.refusals.specs.declared.Refusal.{Refusal}
use Rattle.refusals.specs.declared.Refusal.TheVariants.{Length, Sums, Header, Count, Slice, Order, NoQuorum, Filler, Room}
use Rattle.refusals.specs.declared.Refusal.TheVariants.{Set, Range, Receiver, Proposal, Voted, Unsent, Large, List, Unsound, Journal, Numbering}
use Rattle.refusals.specs.declared.Refusal.TheVariants.{Threshold, Nesting, Slices}

abbrev pub meaning : Refusal → String
meaning Length =
    "The table does not have a right length. A file must be 1 to 64 blocks of 512 bytes; a table in memory 63 numbers for each of 1 to 64 sites; "
    ++ "a single block 512 bytes."
meaning (Sums block) = "The block's check does not fit its bytes: the block was damaged, or changed without working out the check anew."
meaning (Header block) =
    "The head of the block is wrong: its site number is not its place in the file, its number of sites is not the number of blocks, "
    ++ "or bytes 6 and 7 are not zero."
meaning (Count site) = "The site has no group at all, or more than 62. In a table of thresholds: no set at all, or more than 49."
meaning (Slice site) =
    "A group of this site does not contain the site itself, or names a site that does not exist. "
    ++ "In a table of thresholds: a set names such a site."
meaning (Order site) = "A group does not stand after the one before it: the groups must ascend as numbers, and no group may stand twice."
meaning NoQuorum = "The table holds no quorum."
meaning (Filler site) =
    "Behind the last group of the site something is not zero. In a table of thresholds: behind the last set. "
    ++ "In a journal: behind the last call of the block."
meaning Room = "The room handed over for the answer is too small."
meaning Set = "A set of sites names a site that the table does not have."
meaning (Range i) = "A call names a site that does not exist, a kind above 2, or a side above 1. For a mark: a site above 63."
meaning Receiver = "The call is for a site that is listed as faulty. Faulty sites keep no state."
meaning Proposal = "A proposal names two different sites. A site is proposed to by itself: from and to must be the same."
meaning Voted = "The site has already voted for the other side in this window. The first proposal counts."
meaning Unsent = "A vote or an accept is reported from a correct site that has not cast it."
meaning Large = "The verdict on shared or intact sites is given for at most 12 sites, and this table has more."
meaning List = "The list of calls is not whole (four bytes a call), or has more than 4,096 calls."
meaning Unsound =
    "The state handed over is not one that the rules explain: it has the wrong length, "
    ++ "or something in it does not follow from what the sites heard."
meaning Journal = "The journal does not have a right length. A journal is whole blocks of 512 bytes, and at most 33 of them."
meaning (Numbering block) =
    "The block of the journal has a wrong number or a wrong count of calls. The number is the block's place in the file; "
    ++ "each block but the last has 125 calls, the last 1 to 125."
meaning (Threshold block) = "A set asks for none of its members, or for more of them than it has: its sites and the sets in it count one each."
meaning (Nesting block) =
    "The sets do not fit into each other: one stands behind the end of the first set or deeper than four levels, "
    ++ "or a set lacks sets that it announces."
meaning (Slices site) = "The thresholds of this site come to more than 62 smallest groups, so that they cannot be written as a list of groups."
