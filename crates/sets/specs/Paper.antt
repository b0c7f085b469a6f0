-- Federated Byzantine quorum systems, after source document 004, section 3.1: statements, for any number of sites and any slices. A set of sites is a
-- mask. Above each definition stands the paper's sentence; its servers are our sites.
use Rattle.std.specs.Prelude.{ℕ, ◌⊎◌, ◌≡◌}
use Rattle.std.specs.Int.Bits.{bit_and}
use Rattle.masks.specs.Mask.{minus, ◌∈◌, ◌⊆◌}

-- "An FBQS is a pair ⟨V, Q⟩ where V is a set of nodes and Q is a quorum function specifying one or more quorum slices for each node":
-- `Slice v q` says that q is in Q(v)
pub record Fbqs : Type 1 where
  pub sites : ℕ
  pub Slice : ℕ → ℕ → Type 0

-- ".. one or more quorum slices for each node", each a set of nodes, "where a node belongs to all of its own quorum slices"
pub record WellFormed (S : Fbqs) : Type 0 where
  pub one-or-more : (v : ℕ) → v ∈ S.sites → (q : ℕ) × S.Slice v q
  pub of-nodes : (v q : ℕ) → v ∈ S.sites → S.Slice v q → q ⊆ S.sites
  pub belongs : (v q : ℕ) → v ∈ S.sites → S.Slice v q → v ∈ q

-- "A set of servers U ⊆ V in FBQS ⟨V, Q⟩ is a quorum iff U ≠ ∅ and U contains a slice for each member, i.e. ∀v ∈ U. ∃q ∈ Q(v) such that q ⊆ U."
pub record Quorum (S : Fbqs) (U : ℕ) : Type 0 where
  pub of-sites : U ⊆ S.sites
  pub non-empty : U ≡ 0 → ⊥
  pub contains : (v : ℕ) → v ∈ U → (q : ℕ) × S.Slice v q × (q ⊆ U)

-- "quorum intersection, which states that any two quorums share a server, i.e. for all quorums U₁ and U₂, U₁ ∩ U₂ ≠ ∅"
abbrev pub Intersection : Fbqs → Type 0
Intersection S = (U₁ U₂ : ℕ) → Quorum S U₁ → Quorum S U₂ → bit_and U₁ U₂ ≡ 0 → ⊥

-- "to delete B from ⟨V, Q⟩ means to compute the modified FBQS ⟨V \ B, Qᴮ⟩ where Qᴮ(v) = {q \ B | q ∈ Q(v)}"
abbrev pub delete : Fbqs → ℕ → Fbqs
delete S B = record { sites = minus S.sites B; Slice = λ v p. (q : ℕ) × S.Slice v q × (p ≡ minus q B) }

-- "We say B is a dispensable set iff (i) (quorum intersection despite B) ⟨V, Q⟩ᴮ enjoys quorum intersection, and (ii) (quorum availability
-- despite B) either V \ B is a quorum in ⟨V, Q⟩ or B = V."
pub record Dispensable (S : Fbqs) (B : ℕ) : Type 0 where
  pub of-sites : B ⊆ S.sites
  pub intersection : Intersection (delete S B)
  pub availability : Quorum S (minus S.sites B) ⊎ (B ≡ S.sites)

-- "a server v is intact iff there exists a DSet B containing all faulty servers and such that v ∉ B"
pub record Intact (S : Fbqs) (F v : ℕ) : Type 0 where
  pub site : v ∈ S.sites
  pub set : ℕ
  pub dispensable : Dispensable S set
  pub contains : F ⊆ set
  pub outside : v ∈ set → ⊥

-- "Otherwise, v is befouled."
abbrev pub Befouled : Fbqs → ℕ → ℕ → Type 0
Befouled S F v = (v ∈ S.sites) × (Intact S F v → ⊥)

-- "B overlaps every one of v's slices, i.e. ∀q ∈ Q(v). q ∩ B ≠ ∅. We say that such B is v-blocking."
abbrev pub Blocking : Fbqs → ℕ → ℕ → Type 0
Blocking S v B = (q : ℕ) → S.Slice v q → bit_and q B ≡ 0 → ⊥
