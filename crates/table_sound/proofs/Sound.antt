-- What a text makes is a sound table.
use Prim.Native.Nat.{ℕ, suc, ◌*◌, ◌≤◌, ◌<◌}
use mathlib.Core.Bool.{Bool, true, false, cond, false≢true}
use mathlib.Core.List.{List, ◌++◌}
use mathlib.Core.Path.{◌≡◌, refl, sym, ap, subst, ◌∙◌}
use native.Mathlib.Omega.{arith}
use lib.Dec.{ltb}
use lib.ListN.{length, take, drop, get_or, replicate, length-replicate, take-append-drop}
use lib.Seq.{length-take-le, take_at}
use borrow.Author.Tests.{ltb-false, not-true}
use Rattle.group_order.proofs.Sorted.{each_at, ascends-at}
use Rattle.masks.proofs.Laws.AllBelow.{⊆-all}
use Rattle.masks.specs.Mask.{all_below, ◌∈◌, ◌⊆◌}
use Rattle.rows.specs.Site.{count, slice}
use Rattle.table.proofs.Exact.{sound}
use Rattle.table.proofs.Table.{sites-of}
use Rattle.table.specs.Table.{site_of, Table}
use Rattle.table_grammar.specs.Grammar.{Sane, expected}
use Rattle.table_grammar.specs.declared.Phase.{Phase}
use Rattle.table_grammar.specs.declared.Phase.TheVariants.{Head, Count, Tail, Owner, Mark, First, More, Wrong}
use Rattle.table_grammar.specs.declared.Spot.{Spot}
use Rattle.table_made.specs.Made.{is_whole, answer_of, made_of, numbers, or_short, made, leaves, table_in}
use Rattle.std.specs.Prelude.{Result, Ok, Err}
use Rattle.table_made.specs.declared.Fault.{Fault}
use Rattle.table_made.specs.declared.Fault.TheVariants.{Line, Room}
use Rattle.table_reading.specs.Reading.{start, text_read}
use Rattle.table_reading.proofs.Steps.{text-sane}
use Rattle.table_sound.proofs.Places.{part-front, part-zeros}
use Rattle.table_sound.proofs.Rows.{Holds, slice_in, slice-past, holds-none, holds-eq}
use Rattle.table_sound.proofs.Steps.{Good, Read, Stage, text-good}
use Rattle.table_sound.specs.Theorems.{MadeSound, LeftSound}

-- a row with a group, as the table has it
module _ (n v : ℕ) (m : List ℕ) (r : Holds n v m) where
  many : count m ≡ length r.groups
  many = ap count r.shape

  at : (i : ℕ) → i < count m → slice m i ≡ get_or r.groups i 0
  at i h = ap (λ (x : List ℕ). slice x i) r.shape ∙ slice_in r.groups i (omega (arith, many))

  pub row-few : count m ≤ 62
  row-few = omega (arith, many, r.few)

  pub row-owner : (i : ℕ) → i < count m → v ∈ slice m i
  row-owner i h = subst (λ (q : ℕ). v ∈ q) (sym (at i h)) (each_at r.each i (omega (arith, many))).0

  pub row_below : (i : ℕ) → i < count m → slice m i ⊆ all_below n
  row_below i h = subst (λ (q : ℕ). q ⊆ all_below n) (sym (at i h)) (⊆-all n (each_at r.each i (omega (arith, many))).1)

  pub row-ascend : (i : ℕ) → suc i < count m → slice m i < slice m (suc i)
  row-ascend i h = rw (at i (omega arith), at (suc i) h) (ascends-at r.up i (omega (arith, many)))

  pub row-unused : (i : ℕ) → count m ≤ i → i < 62 → slice m i ≡ 0
  row-unused i h b = ap (λ (x : List ℕ). slice x i) r.shape ∙ slice-past r.groups i (omega (arith, many)) b

-- rows that are all read are a table
whole : (t : List ℕ) (n : ℕ) → length t ≡ 63 * n → 1 ≤ n → n ≤ 64 → ((v : ℕ) → v < n → Holds n v (site_of t v)) → Read n t → Table t n
whole t n e p q r g = record {
  long = e;
  some-site = p;
  few-sites = q;
  some-slice = g;
  few-slices = λ v l. row-few n v (site_of t v) (r v l);
  owner = λ v i l. row-owner n v (site_of t v) (r v l) i;
  below = λ v i l. row_below n v (site_of t v) (r v l) i;
  ascend = λ v i l. row-ascend n v (site_of t v) (r v l) i;
  unused = λ v i l. row-unused n v (site_of t v) (r v l) i;
}

-- a text that is answered with n sites
ends : (p : Phase) (b : Bool) → is_whole p b ≡ true → (p ≡ Owner) × (b ≡ false)
ends Head b e = absurd (false≢true e)
ends Count b e = absurd (false≢true e)
ends Tail b e = absurd (false≢true e)
ends Owner b e = (refl, not-true b e)
ends Mark b e = absurd (false≢true e)
ends First b e = absurd (false≢true e)
ends More b e = absurd (false≢true e)
ends (Wrong w) b e = absurd (false≢true e)

answered : (s : Spot) (n : ℕ) → answer_of s ≡ Ok n → (s.phase ≡ Owner) × (s.n ≤ s.v) × (s.n ≡ n)
unfolding answer_of
answered s n e = pick (is_whole s.phase (ltb s.v s.n)) refl e
  where
    pick : (b : Bool) → is_whole s.phase (ltb s.v s.n) ≡ b → cond b (Ok s.n) (Err (Line s.line (expected s.phase (ltb s.v s.n)))) ≡ Ok n
        → (s.phase ≡ Owner) × (s.n ≤ s.v) × (s.n ≡ n)
    pick true w e = let h = ends s.phase (ltb s.v s.n) w in (h.0, ltb-false s.v s.n h.1, cc)
    pick false w e = let z : ◌≡◌ {A = ℕ} 0 1 = cc in absurd (omega arith)

module _ (s : Spot) (t : List ℕ) (n : ℕ) (f : Sane s) (g : Good s t) (e : answer_of s ≡ Ok n) where
  made_table : Table (take (63 * n) t) n
  made_table =
      let a = answered s n e in
      let st : (1 ≤ s.n) × Read s.v t = subst (λ (x : Phase). Stage x s.n s.v t) a.0 g.stage in
      let w : n ≤ 64 = omega arith in
      let z = g.base.long in
      let k : length (take (63 * n) t) ≡ 63 * n = length-take-le (63 * n) t (omega arith) in
      let row : (v : ℕ) → v < n → site_of (take (63 * n) t) v ≡ site_of t v =
      λ v l. sym (part-front 63 v (take (63 * n) t) (drop (63 * n) t) (omega arith)) ∙ ap (λ (x : List ℕ). site_of x v) (take-append-drop (63 * n) t) in
      whole (take (63 * n) t) n k (omega arith) w
      (λ v l. subst (λ (j : ℕ). Holds j v (site_of (take (63 * n) t) v)) a.2 (holds-eq _ (row v l) (g.base.rows v (omega arith))))
      (λ v l. subst (λ (m : List ℕ). 1 ≤ count m) (sym (row v l)) (st.1 v (omega arith)))

-- the reading begins with rows of zeros
begins : (zeros : List ℕ) → zeros ≡ replicate 4032 0 → Good start zeros
begins zeros e =
    let row : (u : ℕ) → u < 64 → site_of zeros u ≡ replicate 63 0 = λ u l. ap (λ (x : List ℕ). site_of x u) e ∙ part-zeros 63 u 4032 (omega arith) in
    record {
      base = record { long = ap length e ∙ length-replicate {A = ℕ} 4032 0; fits = omega arith; rows = λ u l. holds-none 0 u (site_of zeros u) (row u l) };
      stage = λ u l. ap count (row u l);
    }

read_table : (text zeros : List ℕ) (n : ℕ) → zeros ≡ replicate 4032 0 → answer_of (text_read text zeros).spot ≡ Ok n
    → Table (take (63 * n) (text_read text zeros).table) n
read_table text zeros n z e =
    made_table (text_read text zeros).spot (text_read text zeros).table n (text-sane text zeros) (text-good text zeros (begins zeros z)) e

pub made-sound : MadeSound
unfolding table_in made_of
made-sound text n e =
    subst (λ (m : Result ℕ Fault). Table (take (numbers m) (text_read text (replicate 4032 0)).table) n) (sym e) (read_table text (replicate 4032 0) n refl e)

-- the public call
unshort : (room : ℕ) (m : Result ℕ Fault) (n : ℕ) → or_short room m ≡ Ok n → (m ≡ Ok n) × (63 * n ≤ room)
unshort room m n e = pick (ltb room (numbers m)) refl e
  where
    pick : (b : Bool) → ltb room (numbers m) ≡ b → cond b (Err Room) m ≡ Ok n → (m ≡ Ok n) × (63 * n ≤ room)
    pick true w e = let z : ◌≡◌ {A = ℕ} 0 1 = cc in absurd (omega arith)
    pick false w e = (e, subst (λ (x : Result ℕ Fault). numbers x ≤ room) e (ltb-false room (numbers m) w))

left : (text room : List ℕ) (n : ℕ) → made text (length room) ≡ Ok n → take (63 * n) (leaves text room) ≡ table_in text
unfolding leaves made table_in
left text room n e =
    let u = unshort (length room) (answer_of (made_of text).spot) n e in
    let T : List ℕ = (made_of text).table in
    let k = (made-sound text n u.0).long in
    ap (λ (m : Result ℕ Fault). take (63 * n) (take (numbers m) T ++ drop (numbers m) room)) e
    ∙ take_at (take (63 * n) T) (drop (63 * n) room) (63 * n) (sym (ap (λ (m : Result ℕ Fault). length (take (numbers m) T)) u.0) ∙ k)
    ∙ sym (ap (λ (m : Result ℕ Fault). take (numbers m) T) u.0)

pub left-sound : LeftSound
unfolding made
left-sound text room n e =
    let t = made-sound text n (unshort (length room) (answer_of (made_of text).spot) n e).0 in
    rw (left text room n e) (sound t, sites-of t)
