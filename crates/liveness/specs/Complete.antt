-- How a list comes to be complete, and the test for it.
use Rattle.std.specs.Prelude.{ℕ, ◌/◌, ◌<◌, Bool, true, false, ◌&&◌, not, ◌↔◌, ◌≡◌, eqb, length}
use mathlib.Core.List.{List, Memᴰ}
use Rattle.ground.specs.Search.{every}
use Rattle.liveness.specs.Liveness.{accept, Complete, accepters}
use Rattle.masks.specs.Mask.{has, ◌∈◌}
use Rattle.pass.specs.Calls.{calls}
use Rattle.rules.specs.State.{accepts, get}
use Rattle.run.specs.Run.{list_misshapen}
use Rattle.run.specs.Theorems.{Taken, end_state}
use Rattle.same_calls.specs.Same.{has_call}
use Rattle.sets.specs.Groups.{Groups, fbqs_in, slices_in, sites_of, Checked}
use Rattle.sets.specs.Paper.{Intact}
use Rattle.verdicts.specs.Verdicts.{intact}
use Rattle.votes.specs.Call.{Call}

-- Seen from the list alone, and more than is needed: each correct site says the accept of the side to each other correct site.
abbrev pub AllAccepts : ℕ → ℕ → ℕ → List Call → Type 0
AllAccepts n F side l =
    (u v : ℕ) → u < n → v < n → (u ∈ F → ⊥) → (v ∈ F → ⊥) → (u ≡ v → ⊥) → Memᴰ (accept u v side) l

abbrev pub AllSuffice : Type 0
AllSuffice =
    (t : Groups) (F side : ℕ) (l : List Call) (accepters : ℕ) → AllAccepts (sites_of t) F side l → Complete (Intact (fbqs_in t) F) side l accepters

-- It asks for no call in vain: where site u has accepted, site v has heard it exactly if that call stands in the list.
abbrev pub HeardIsListed : Type 0
HeardIsListed =
    (t : Groups) (F : ℕ) (list state answers : List ℕ) (p side u v : ℕ) → side < 2 → Taken t F list state answers p →
    v < sites_of t → (v ∈ F → ⊥) → (u ≡ v → ⊥) → u ∈ accepters t F list state p side →
    (u ∈ get (end_state t F list state p) (accepts side v)) ↔ Memᴰ (accept u v side) (calls list)

-- And it is computed, from the intact mask that the verdict prints, the accepted mask that the run leaves, and the list: the accept call of the side
-- from u to v is missing, if u and v are two of the sites asked about, u has accepted the side, and the list has no such call.
unfoldable pub lacks : ℕ → ℕ → List ℕ → ℕ → ℕ → ℕ → Bool
unfolding has has_call
lacks among side list accepters u v =
    not (eqb u v) && (has accepters u && (has among u && (has among v && not (has_call (length list / 4) list 2 u v side))))

-- none is missing
unfoldable pub is_complete : ℕ → ℕ → ℕ → List ℕ → ℕ → Bool
unfolding every lacks
is_complete n among side list accepters = every n (λ u. every n (λ v. not (lacks among side list accepters u v)))

-- of every list that is not refused with 17
abbrev pub CompleteDecided : Type 0
CompleteDecided =
    (t : Groups) (F side : ℕ) (list : List ℕ) (accepters : ℕ) → Checked t → list_misshapen (length list) ≡ false →
    (is_complete (sites_of t) (intact (slices_in t) (sites_of t) F) side list accepters ≡ true) ↔ Complete (Intact (fbqs_in t) F) side (calls list) accepters
