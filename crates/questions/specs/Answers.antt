-- The public set questions: "Set questions: table, 10, 11, 16." Each asks for its refusals in that order, and answers by the definitions of sets.
use Rattle.verdicts.specs.declared.Pair.{Pair}
use Rattle.rounds.specs.declared.SetLeft.{SetLeft}
use Rattle.refusals.specs.Check.{Answer, Check}
use Rattle.std.specs.Prelude.{ℕ, Bool, true, false, not, ltb, Option, Some, None, Ok, Err}
use Rattle.refusals.specs.First.{or_else, refuse}
use Rattle.refusals.specs.declared.Refusal.TheVariants.{Range, Large}
use Rattle.sets.specs.Groups.{Groups, slices_in, sites_of, groups_check, set_check}
use Rattle.sets.specs.Quorum as Quorum
use Rattle.verdicts.specs.Verdicts as Verdicts

-- the table, 10, then 11: "site at or above n"
unfoldable pub set_site_check : Groups → ℕ → ℕ → Check
unfolding set_check
set_site_check t set site = or_else (set_check t set) (refuse (not (ltb site (sites_of t))) (Range 0))

-- 16: "n over 12 where a verdict needs at most 12"
abbrev pub verdict_check : Groups → Check → Check
verdict_check t before = or_else before (refuse (ltb 12 (sites_of t)) Large)

-- a set and its rounds, or the refusal
abbrev pub LargestSet : Type 0
LargestSet = Answer SetLeft

-- no pair where every two quorums meet; else two that do not; or the refusal
abbrev pub Sharing : Type 0
Sharing = Answer (Option Pair)

-- is the set a quorum
abbrev pub to_holds : Check → Bool → Answer Bool
to_holds (Ok _) b = Ok b
to_holds (Err r) b = Err r

unfoldable pub quorum : Groups → ℕ → Answer Bool
unfolding set_check
quorum t set = to_holds (set_check t set) (Quorum.quorum (slices_in t).inside (sites_of t) set)

-- the largest quorum inside the set, and its rounds
abbrev pub set_left : ℕ → ℕ → SetLeft
set_left set rounds = record { set = set; rounds = rounds }

abbrev pub to_greatest : Check → ℕ → ℕ → LargestSet
to_greatest (Ok _) set rounds = Ok (set_left set rounds)
to_greatest (Err r) set rounds = Err r

unfoldable pub largest : Groups → ℕ → LargestSet
unfolding set_check
largest t set = to_greatest (set_check t set) (Quorum.largest (slices_in t).inside (sites_of t) set) (Quorum.rounds (slices_in t).inside (sites_of t) set)

-- does the set block the site
unfoldable pub blocks : Groups → ℕ → ℕ → Answer Bool
unfolding set_site_check
blocks t set site = to_holds (set_site_check t set site) ((slices_in t).blocked site set)

-- do every two quorums have a common site; if not, the quorum of the smallest mask that has one in its complement, and the largest there
abbrev pub pair_of : ℕ → ℕ → Pair
pair_of p q = record { first = p; second = q }

abbrev pub to_sharing : Check → Bool → ℕ → ℕ → Sharing
to_sharing (Ok _) true p q = Ok None
to_sharing (Ok _) false p q = Ok (Some (pair_of p q))
to_sharing (Err r) b p q = Err r

unfoldable pub shared : Groups → Sharing
shared t =
    let s = (slices_in t).inside in
    let n = sites_of t in
    let p = Verdicts.first_apart s n in
    to_sharing (verdict_check t (groups_check t)) (Verdicts.meets s n) p (Verdicts.beside s n p)

-- the sites that are intact when those of the set are faulty
abbrev pub to_standing : Check → ℕ → Answer ℕ
to_standing (Ok _) set = Ok set
to_standing (Err r) set = Err r

unfoldable pub intact : Groups → ℕ → Answer ℕ
unfolding set_check
intact t faulty = to_standing (verdict_check t (set_check t faulty)) (Verdicts.intact (slices_in t) (sites_of t) faulty)
