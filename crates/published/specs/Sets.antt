-- The set questions in the words of 004, section 3.1: each public answer, both ways, for every table of any length.
use Rattle.std.specs.Prelude.{ℕ, suc, ◌≤◌, ◌<◌, ◌⊎◌, ◌↔◌, ◌≡◌, Some, None, Ok, true, false}
use Rattle.masks.specs.Mask.{minus, others, all_below, ◌∈◌, ◌⊆◌}
use Rattle.questions.specs.Answers.{quorum, largest, blocks, shared, intact, pair_of, set_left}
use Rattle.sets.specs.Groups.{Groups, fbqs_in, sites_of, SoundTable}
use Rattle.sets.specs.Paper.{Fbqs, Quorum, Intersection, Intact, Befouled, Blocking}
use Rattle.verdicts.specs.Decides.{Apart}

-- the table that was handed over, as the paper's pair
abbrev pub named : Groups → Fbqs
named t = fbqs_in t

-- it is a sound table, and the set names sites of it alone
abbrev pub Proper : Groups → ℕ → Type 0
Proper t set = SoundTable t × (set ⊆ all_below (sites_of t))

-- "A set of servers U ⊆ V in FBQS ⟨V, Q⟩ is a quorum iff U ≠ ∅ and U contains a slice for each member"
abbrev pub QuorumAsPublished : Type 0
QuorumAsPublished =
    (t : Groups) (set : ℕ) →
    ((quorum t set ≡ Ok true) ↔ (Proper t set × Quorum (named t) set))
    × ((quorum t set ≡ Ok false) ↔ (Proper t set × (Quorum (named t) set → ⊥)))

-- "B overlaps every one of v's slices, i.e. ∀q ∈ Q(v). q ∩ B ≠ ∅. We say that such B is v-blocking." So is what is left of the set when "the owner's bit is
-- taken out".
abbrev pub BlocksAsPublished : Type 0
BlocksAsPublished =
    (t : Groups) (set site : ℕ) →
    ((blocks t set site ≡ Ok true) ↔ (Proper t set × (site < sites_of t) × Blocking (named t) site (others set site)))
    × ((blocks t set site ≡ Ok false) ↔ (Proper t set × (site < sites_of t) × (Blocking (named t) site (others set site) → ⊥)))

-- "each round drops, all together, the members with no slice inside the set as it stood before the round": u is what a round leaves of w
abbrev pub Round : Fbqs → ℕ → ℕ → Type 0
Round S w u = (v : ℕ) → (v ∈ u) ↔ ((v ∈ w) × ((q : ℕ) × S.Slice v q × (q ⊆ w)))

-- "The largest quorum inside W: start with W; .. stop when a round drops nobody. The answer is the set left (0 if none) and the number of rounds that
-- dropped somebody": q is left of w after k rounds, each of which dropped somebody, and the next would drop nobody
pub record Rounds (S : Fbqs) (w q k : ℕ) : Type 0 where
  pub after : ℕ → ℕ
  pub start : after 0 ≡ w
  pub round : (i : ℕ) → Round S (after i) (after (suc i))
  pub dropped : (i : ℕ) → i < k → after (suc i) ≡ after i → ⊥
  pub still : after (suc k) ≡ after k
  pub left : after k ≡ q

-- 0 or a quorum, inside w, and contains every quorum inside w; and it is what is left after so many rounds
pub record LargestInside (S : Fbqs) (w q k : ℕ) : Type 0 where
  pub none-or-quorum : (q ≡ 0) ⊎ Quorum S q
  pub inside : q ⊆ w
  pub contains : (u : ℕ) → Quorum S u → u ⊆ w → u ⊆ q
  pub rounds : Rounds S w q k

abbrev pub LargestAsPublished : Type 0
LargestAsPublished =
    (t : Groups) (set q k : ℕ) → (largest t set ≡ Ok (set_left q k)) ↔ (Proper t set × LargestInside (named t) set q k)

-- "quorum intersection, which states that any two quorums share a server"; if not, the two quorums that 01 names
abbrev pub SharedAsPublished : Type 0
SharedAsPublished =
    (t : Groups) →
    ((shared t ≡ Ok None) ↔ (SoundTable t × (sites_of t ≤ 12) × Intersection (named t)))
    × ((p q : ℕ) → (shared t ≡ Ok (Some (pair_of p q))) ↔ (SoundTable t × (sites_of t ≤ 12) × Apart (named t) p q))

-- "a server v is intact iff there exists a DSet B containing all faulty servers and such that v ∉ B. Otherwise, v is befouled."
pub record IntactSites (S : Fbqs) (n F m : ℕ) : Type 0 where
  pub intact-in : (v : ℕ) → (v ∈ m) ↔ Intact S F v
  pub befouled-rest : (v : ℕ) → (v ∈ minus (all_below n) m) ↔ Befouled S F v

abbrev pub IntactAsPublished : Type 0
IntactAsPublished =
    (t : Groups) (F m : ℕ) →
    (intact t F ≡ Ok m) ↔ (Proper t F × (sites_of t ≤ 12) × IntactSites (named t) (sites_of t) F m)
