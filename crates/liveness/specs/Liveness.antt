-- What one site has confirmed reaches every intact site, of the public run. 004, theorem 6: "Consider the protocol in Figure 1 for federated voting over
-- an FBQS ⟨V, Q⟩ that enjoys quorum intersection. If an intact server confirms statement a, then, eventually, every intact server will confirm a." A run
-- ends, and has no "eventually": in its place stands that the list is complete.
use Rattle.std.specs.Prelude.{ℕ, ◌<◌, ◌≡◌}
use mathlib.Core.List.{List, Memᴰ}
use Rattle.mark.specs.Mark.{mark}
use Rattle.masks.specs.Mask.{minus, all_below, ◌∈◌, ◌⊆◌}
use Rattle.pass.specs.Calls.{calls}
use Rattle.rules.specs.State.{accepted, confirmed, get}
use Rattle.run.specs.Theorems.{Taken, end_state}
use Rattle.sets.specs.Groups.{Groups, fbqs_in, sites_of}
use Rattle.sets.specs.Paper.{Intersection, Dispensable, Intact}
use Rattle.votes.specs.Call.{Call, call}

-- the accept call of a side from site u to site v
abbrev pub accept : ℕ → ℕ → ℕ → Call
accept u v side = call 2 u v side

-- A list is complete for a side among some sites, if each of them that has accepted the side says so to each other: `accepters` is the mask of those that
-- have accepted it at the end of the run.
abbrev pub Complete : (ℕ → Type 0) → ℕ → List Call → ℕ → Type 0
Complete Among side l accepters =
    (u v : ℕ) → Among u → Among v → (u ≡ v → ⊥) → u ∈ accepters → Memᴰ (accept u v side) l

-- at the end of a run of the public call: the mask of those that have accepted a side, that a site has confirmed a side, the mark of a site
module _ (t : Groups) (F : ℕ) (list state : List ℕ) (p : ℕ) where
  abbrev pub accepters : ℕ → ℕ
  accepters side = get (end_state t F list state p) (accepted (sites_of t) side)

  abbrev pub Confirmed : ℕ → ℕ → Type 0
  Confirmed side v = v ∈ get (end_state t F list state p) (confirmed (sites_of t) side)

  abbrev pub end_mark : ℕ → ℕ
  end_mark v =
      mark v (get (end_state t F list state p) (confirmed (sites_of t) 0)) (get (end_state t F list state p) (confirmed (sites_of t) 1))

-- a run of the public call on a table that meets, its list complete for a side among the intact sites
pub record CompleteRun (t : Groups) (F : ℕ) (list state answers : List ℕ) (p side : ℕ) : Type 0 where
  pub ran : Taken t F list state answers p
  pub shared : Intersection (fbqs_in t)
  pub complete : Complete (Intact (fbqs_in t) F) side (calls list) (accepters t F list state p side)

-- Theorem 6: what some site has confirmed, every intact site has confirmed
abbrev pub RunSpreads : Type 0
RunSpreads =
    (t : Groups) (F : ℕ) (list state answers : List ℕ) (p side : ℕ) → side < 2 → CompleteRun t F list state answers p side →
    (w v : ℕ) → Confirmed t F list state p side w → Intact (fbqs_in t) F v → Confirmed t F list state p side v

-- All intact sites have one mark, if the list is complete for drill. It is 1 if some site has confirmed drill.
pub record Marks (t : Groups) (F : ℕ) (list state : List ℕ) (p : ℕ) : Type 0 where
  pub one : (v w : ℕ) → Intact (fbqs_in t) F v → Intact (fbqs_in t) F w →
      end_mark t F list state p v ≡ end_mark t F list state p w
  pub drill : (w v : ℕ) → Confirmed t F list state p 0 w → Intact (fbqs_in t) F v → end_mark t F list state p v ≡ 1

abbrev pub OneMark : Type 0
OneMark = (t : Groups) (F : ℕ) (list state answers : List ℕ) (p : ℕ) → CompleteRun t F list state answers p 0 → Marks t F list state p

-- Sharper, and of any table, meeting or not: take one dispensable set B that contains the faulty sites, and a list complete among the sites outside B.
-- What one of these has confirmed, each of them has.
abbrev pub SpreadsOutside : Type 0
SpreadsOutside =
    (t : Groups) (F : ℕ) (list state answers : List ℕ) (p side B : ℕ) → side < 2 → Taken t F list state answers p →
    Dispensable (fbqs_in t) B → F ⊆ B →
    Complete (λ u. u ∈ minus (all_below (sites_of t)) B) side (calls list) (accepters t F list state p side) →
    (w v : ℕ) → w ∈ minus (all_below (sites_of t)) B → v ∈ minus (all_below (sites_of t)) B →
    Confirmed t F list state p side w → Confirmed t F list state p side v
