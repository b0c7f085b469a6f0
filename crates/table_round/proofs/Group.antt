-- The sites of a group, one by one: they are heard as the group.
use Prim.Native.Nat.{ℕ, zero, suc, ◌*◌, ◌^◌, ◌≤◌, ◌<◌}
use mathlib.Core.Bool.{Bool, true, false, ◌&&◌, cond}
use mathlib.Core.List.{List, [], ◌∷◌}
use mathlib.Core.Logic.{⊎_elim}
use mathlib.Core.Path.{◌≡◌, refl, sym, ap, ◌∙◌}
use native.Mathlib.Nat.{le_refl}
use native.Mathlib.Omega.{arith}
use lib.Bits.{bit_or}
use lib.Dec.{eqb, ltb}
use lib.ListN.{get_or}
use lib.Pow.{pow_pos}
use borrow.Author.Tests.{lt-ltb, ne_eqb}
use Rattle.ground.proofs.Logic.{cases, iff, and_r, and_i}
use Rattle.ground.specs.Pieces.{cat}
use Rattle.masks.proofs.Laws.Gather.{gather-lt, gather-in, gather-out, has-gather}
use Rattle.masks.proofs.Laws.Members.{has_above, ext}
use Rattle.masks.proofs.Laws.Subsets.{mem, ∈-below, or-⊆-r, ⊆-le}
use Rattle.masks.specs.Mask.{has, single, gather}
use Rattle.members.specs.Members.{site_shown, members}
use Rattle.table_words.specs.declared.Begun.TheVariants.{Gap}
use Rattle.table_words.specs.declared.Token.TheVariants.{Number}
use Rattle.table_grammar.proofs.Ways.{member-more}
use Rattle.table_grammar.specs.Grammar.{own, member, first_member, numbered, spoken}
use Rattle.table_grammar.specs.declared.Phase.{Phase}
use Rattle.table_grammar.specs.declared.Phase.TheVariants.{First, More}
use Rattle.table_grammar.specs.declared.Spot.{Spot}
use Rattle.table_reading.specs.Reading.{Here, here, full, read_on}
use Rattle.table_round.proofs.Heard.{Ready, gap, read-both, read_byte, read_none, read_number, ready-eq, ready-gap, ready-number, blank}
use Rattle.text.specs.Text.{decimal}

abbrev pub spot : ℕ → ℕ → ℕ → ℕ → Phase → Spot
spot line n v q p = record { line = line; n = n; v = v; q = q; phase = p }

-- what is expected in a group of which q is there
abbrev begun : ℕ → Phase
begun q = cond (eqb q 0) First More

module _ (line n v q x : ℕ) (none : Bool) (e : none ≡ false) (h : x < n) (f : has q x ≡ false) where
  joins : (p : Phase) → member (spot line n v q p) x ≡ spot line n v (bit_or q (single x)) More
  joins p = member-more (spot line n v q p) x h f

  joins-first : (p : Phase) → first_member (spot line n v q p) none x ≡ spot line n v (bit_or q (single x)) More
  unfolding first_member
  joins-first p = ap (λ (b : Bool). first_member (spot line n v q p) b x) e ∙ joins p

  either : (b : Bool) (p : Phase) → numbered (cond b First More) (spot line n v q p) none x ≡ spot line n v (bit_or q (single x)) More
  either true p = joins-first p
  either false p = joins p

  one_more : spoken (Number x) none (spot line n v q (begun q)) ≡ spot line n v (bit_or q (single x)) More
  one_more = either (eqb q 0) (begun q)

module _ (line n v set : ℕ) (t : List ℕ) (few : n ≤ 64) (lt : set < 2 ^ n) (room : ltb 61 (get_or t (63 * own v) 0) ≡ false) where
  below : (u : ℕ) → has set u ≡ true → u < n
  below u h = ∈-below lt (mem h)

  -- the sites below k are heard
  abbrev S : ℕ → Spot
  S k = spot line n v (gather k (has set)) (begun (gather k (has set)))

  took : (k : ℕ) → has set k ≡ true → S (suc k) ≡ spoken (Number k) (full (S k) t) (S k)
  took k e =
      let g : ℕ = gather k (has set) in
      let p = ⊆-le (or-⊆-r g (single k)) in
      let z = pow_pos k in
      let y : bit_or g (single k) ≡ 0 → ⊥ = λ x. omega arith in
      ap (λ (q : ℕ). spot line n v q (begun q)) (gather-in k (has set) e)
      ∙ ap (λ (b : Bool). spot line n v (bit_or g (single k)) (cond b First More)) (ne_eqb (bit_or g (single k)) 0 y)
      ∙ sym (one_more line n v g k (full (S k) t) room (below k e) (has_above k (gather-lt k (has set)) (le_refl k)))

  shown : (k : ℕ) → has set k ≡ true → site_shown set k ≡ 32 ∷ decimal k
  unfolding site_shown
  shown k e = rw e refl

  hidden : (k : ℕ) → has set k ≡ false → site_shown set k ≡ []
  unfolding site_shown
  hidden k e = rw e refl

  abbrev from : Here
  from = here Gap (spot line n v 0 First) t

  next : (h : Here) (k : ℕ) → Ready h t (S k) → Ready (read_on h (site_shown set k)) t (S (suc k))
  next h k r =
      ⊎_elim
      (λ e. ready-eq _ _
      (ap (read_on h) (shown k e) ∙ read_byte h 32 (decimal k) ∙ ap (λ (x : Here). read_on x (decimal k)) (blank h t (S k) r)
      ∙ read_number Gap (S k) t k gap (omega (arith, below k e))) (took k e) (ready-number t (S k) k))
      (λ e. ready-eq _ _ (ap (read_on h) (hidden k e) ∙ read_none h) (ap (λ (q : ℕ). spot line n v q (begun q)) (gather-out k (has set) e)) r)
      (cases (has set k))

  named : (k : ℕ) → Ready (read_on from (cat (site_shown set) k)) t (S k)
  unfolding cat gather
  named zero = ready-eq _ _ (read_none from) refl (ready-gap t (spot line n v 0 First))
  named (suc k) =
      ready-eq _ _ (read-both from (cat (site_shown set) k) (site_shown set k)) refl (next (read_on from (cat (site_shown set) k)) k (named k))

  all : gather 64 (has set) ≡ set
  all =
      ext (gather 64 (has set)) set
      (λ u. has-gather 64 (has set) u
      ∙ iff (ltb u 64 && has set u) (has set u) (λ e. and_r (ltb u 64) (has set u) e) (λ e. and_i (lt-ltb u 64 (omega (arith, below u e))) e))

  pub group-named : (set ≡ 0 → ⊥) → Ready (read_on from (members set)) t (spot line n v set More)
  unfolding members
  group-named ne =
      ready-eq _ _ refl
      (sym (ap (λ (q : ℕ). spot line n v q (begun q)) all ∙ ap (λ (b : Bool). spot line n v set (cond b First More)) (ne_eqb set 0 ne)))
      (named 64)
