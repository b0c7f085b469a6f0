-- What a new form of a table has to show, and what a table of its own for each receiver has to show.
use Rattle.std.specs.Prelude.{ℕ, true, false, ◌&&◌, not, ◌≡◌}
use Rattle.std.specs.Int.Bits.{bit_and, bit_or}
use Rattle.masks.specs.Mask.{has, minus, others, all_below, ◌∈◌, ◌⊆◌}
use Rattle.sets.specs.Paper.{Fbqs, WellFormed}
use Rattle.sets.specs.Promises.{Questions, Promises}
use Rattle.sets.specs.Slices.{Slices}

-- the tests r are answers about the slices of an FBQS S of n sites; all that the paper's statements and the voting ask of a table follows from this
pub record LawfulSlices (S : Fbqs) (r : Slices) (n : ℕ) : Type 0 where
  pub all-sites : S.sites ≡ all_below n
  pub well-formed : WellFormed S
  -- `inside`: some slice inside u
  pub slice_inside : (v u : ℕ) → r.inside v u ≡ true → (q : ℕ) × S.Slice v q × (q ⊆ u)
  pub inside-slice : (v u q : ℕ) → S.Slice v q → q ⊆ u → r.inside v u ≡ true
  -- `deleted`: the site stays, and some slice is inside u together with b
  pub deleted-or : (b v u : ℕ) → r.deleted b v u ≡ not (has b v) && r.inside v (bit_or u b)
  -- `blocked`: no slice misses the others of w, or one does
  pub blocked-slice : (v w q : ℕ) → r.blocked v w ≡ true → S.Slice v q → bit_and q (others w v) ≡ 0 → ⊥
  pub unblocked-slice : (v w : ℕ) → r.blocked v w ≡ false → (q : ℕ) × S.Slice v q × (bit_and q (others w v) ≡ 0)

-- all sets of the n sites that contain a site and have some slice of it inside, as the slices of an FBQS
abbrev pub closure : Slices → ℕ → Fbqs
closure r n = record { sites = all_below n; Slice = λ v q. (r.inside v q ≡ true) × (q ⊆ all_below n) × (v ∈ q) }

-- six facts of a form's tests, for n sites
pub record Form (r : Slices) (n : ℕ) : Type 0 where
  -- a larger set has the slice inside too
  pub grows : (v a b : ℕ) → a ⊆ b → r.inside v a ≡ true → r.inside v b ≡ true
  -- who has a slice inside u is in u
  pub own : (v u : ℕ) → r.inside v u ≡ true → v ∈ u
  -- sites at or above n do not matter
  pub of-sites : (v u : ℕ) → r.inside v u ≡ true → r.inside v (bit_and u (all_below n)) ≡ true
  -- all sites together hold a slice of each
  pub all-sites : (v : ℕ) → v ∈ all_below n → r.inside v (all_below n) ≡ true
  -- the other two tests, by the first
  pub deleted-or : (b v u : ℕ) → r.deleted b v u ≡ not (has b v) && r.inside v (bit_or u b)
  pub blocked-rest : (v w : ℕ) → r.blocked v w ≡ not (r.inside v (minus (all_below n) (others w v)))

-- then its tests are answers about the sets inside which a site has a slice
abbrev pub FormLawful : Type 0
FormLawful = (r : Slices) (n : ℕ) → Form r n → LawfulSlices (closure r n) r n

-- each receiver asks its own view: if each view alone keeps the promises, the family of views does
abbrev pub ViewsPromise : Type 1
ViewsPromise =
    (S : ℕ → Fbqs) (Q : ℕ → Questions) → ((v : ℕ) → Promises (λ x. S v) (Q v)) →
    Promises S (record { in_quorum = λ v. (Q v).in_quorum v; blocked = λ v. (Q v).blocked v; has_slice = λ v. (Q v).has_slice v })
