-- The computed answers are the paper's: what is proved of a checked table, for every n.
use Rattle.std.specs.Prelude.{ℕ, suc, ◌≤◌, ◌<◌, Bool, true, ◌⊎◌, ◌↔◌, ◌≡◌}
use Rattle.masks.specs.Mask.{size, others, ◌⊆◌}
use Rattle.sets.specs.Groups.{Groups, sites_of, fbqs_in, slices_in, Checked, questions}
use Rattle.sets.specs.Paper.{Fbqs, WellFormed, Quorum, Blocking}
use Rattle.sets.specs.Promises.{Promises}
use Rattle.sets.specs.Quorum.{quorum, round, after, largest, rounds}
use Rattle.sets.specs.Slices.{Slices}

-- of the largest quorum inside w, over any rule s: it is 0 or a quorum of S, inside w, and contains every quorum inside w; it is what is left after its
-- rounds, each of which dropped somebody, the next would drop nobody, and they are no more than the sites of w
pub record Greatest (S : Fbqs) (s : ℕ → ℕ → Bool) (n w : ℕ) : Type 0 where
  pub none-or-quorum : (largest s n w ≡ 0) ⊎ Quorum S (largest s n w)
  pub inside : largest s n w ⊆ w
  pub contains : (q : ℕ) → Quorum S q → q ⊆ w → q ⊆ largest s n w
  pub left : largest s n w ≡ after s n (rounds s n w) w
  pub dropping : (k : ℕ) → k < rounds s n w → after s n k w ≡ after s n (suc k) w → ⊥
  pub still : round s n (largest s n w) ≡ largest s n w
  pub few : rounds s n w ≤ size w

-- quorums, blocking and the largest quorum: every answer decides the paper's statement, both ways. A set is said to block a site if what is left of it
-- without the site blocks in the paper's sense.
pub record Decides (S : Fbqs) (r : Slices) (n : ℕ) : Type 0 where
  pub quorum-decides : (q : ℕ) → (quorum r.inside n q ≡ true) ↔ Quorum S q
  pub blocked-decides : (v w : ℕ) → (r.blocked v w ≡ true) ↔ Blocking S v (others w v)
  pub largest-decides : (w : ℕ) → Greatest S r.inside n w

-- a checked table is a well-formed FBQS, its answers decide the paper's statements, and it keeps the promises that the voting rests on
abbrev pub TableIsFbqs : Type 0
TableIsFbqs = (t : Groups) → Checked t → WellFormed (fbqs_in t)

abbrev pub TableDecides : Type 0
TableDecides = (t : Groups) → Checked t → Decides (fbqs_in t) (slices_in t) (sites_of t)

abbrev pub TablePromises : Type 0
TablePromises = (t : Groups) → Checked t → Promises (λ v. fbqs_in t) (questions t)
