-- The line of a site is heard as that site's row.
use Rattle.refusals.specs.Check.{Check}
use Rattle.std.specs.Prelude.{Ok}
use Prim.Native.Nat.{ℕ, zero, suc, ◌+◌, ◌-◌, ◌*◌, ◌^◌, ◌≤◌, ◌<◌}
use mathlib.Core.Bool.{Bool, true, false}
use mathlib.Core.List.{List, [], ◌∷◌, ◌++◌}
use mathlib.Core.Logic.{⊎_elim}
use mathlib.Core.Path.{◌≡◌, refl, sym, ap, subst, ◌∙◌}
use native.Mathlib.Nat.{eq-or-lt_of_le, le_of_suc-le-suc}
use native.Mathlib.Omega.{arith}
use lib.Dec.{eqb, eqb-suc-zero, ltb}
use lib.ListN.{length, take, drop, get_or, replicate, length-drop, take-append-drop}
use lib.Seq.{length-take-le, take_at, drop_at, get_or_at, get_or-take, get_or-drop, take-suc, take_all, drop-drop}
use borrow.Author.Tests.{le-ltb, ne_eqb}
use Rattle.ground.proofs.Some.{each_none}
use Rattle.ground.specs.Pieces.{cat}
use Rattle.group_order.proofs.Sorted.{Each, each_at, each_of, sift-last}
use Rattle.group_order.specs.Joined.{joined, known}
use Rattle.masks.proofs.Laws.Single.{∈-eq}
use Rattle.masks.proofs.Laws.Subsets.{not-in-zero}
use Rattle.masks.specs.Mask.{has, ◌∈◌}
use Rattle.members.specs.Members.{members}
use Rattle.rows.specs.Site.{count, slice}
use Rattle.table.specs.Table.{site_of}
use Rattle.table_words.specs.declared.Begun.TheVariants.{Fresh, Gap, Digits}
use Rattle.table_words.specs.declared.Token.{Token}
use Rattle.table_words.specs.declared.Token.TheVariants.{Number, Colon, Bar, End}
use Rattle.table_grammar.proofs.Ways.{owner-next}
use Rattle.table_grammar.specs.Grammar.{own, spoken}
use Rattle.table_grammar.specs.declared.Phase.TheVariants.{Owner, Mark, First, More}
use Rattle.table_grammar.specs.declared.Spot.{Spot}
use Rattle.table_reading.proofs.Steps.{complete}
use Rattle.table_reading.proofs.Ways.{group-new}
use Rattle.table_reading.specs.Groups.{completes, group_check, check_of, ruled, entered, judged, kept}
use Rattle.table_reading.specs.Reading.{Here, here, full, hearing, read_on}
use Rattle.table_round.proofs.Group.{spot, group-named}
use Rattle.table_round.proofs.Heard.{Ready, fresh, read-both, read_byte, read_none, read_number, ready-eq, ready-gap, ready-number, blank, colon, bar, line}
use Rattle.table_shown.specs.Show.{placed, row}
use Rattle.table_sound.proofs.Rows.{filled, length-filled, slice_in, joined-filled}
use Rattle.text.specs.Text.{ascii, decimal}

-- a table whose row u has the groups l: where the row stands
module _ (A Z l : List ℕ) (u : ℕ) (a : length A ≡ 63 * u) (few : length l ≤ 62) where
  abbrev T : List ℕ
  T = A ++ (filled l ++ Z)

  pub row_here : site_of T u ≡ filled l
  row_here = ap (take 63) (drop_at A (filled l ++ Z) (63 * u) a) ∙ take_at (filled l) Z 63 (length-filled l few)

  pub count-here : get_or T (63 * u) 0 ≡ length l
  count-here = get_or_at A (length l) ((l ++ replicate (62 - length l) 0) ++ Z) 0 (63 * u) a

  behind : drop (63 * u + 63) T ≡ Z
  behind =
      sym (drop-drop 63 (63 * u) T) ∙ ap (drop 63) (drop_at A (filled l ++ Z) (63 * u) a) ∙ drop_at (filled l) Z 63 (length-filled l few)

  pub changed : (x : List ℕ) → take (63 * u) T ++ (x ++ drop (63 * u + 63) T) ≡ A ++ (x ++ Z)
  changed x = rw (take_at A (filled l ++ Z) (63 * u) a, behind) refl

-- a group above all groups of its row is taken, behind them
module _ (A Z l : List ℕ) (L n v u q : ℕ) (a : length A ≡ 63 * u) (o : own v ≡ u) (few : length l < 62)
    (p : has q u ≡ true) (above : Each (λ x. x < q) l) (k : Token) (c : completes k ≡ true) where
  abbrev S : Spot
  S = spot L n v q More

  abbrev B : List ℕ
  B = A ++ (filled l ++ Z)

  new : known q (filled l) ≡ false
  unfolding known
  new =
      each_none (length l) (λ i. eqb (slice (filled l) i) q)
      (λ i h. ap (λ (x : ℕ). eqb x q) (slice_in l i h) ∙ ne_eqb (get_or l i 0) q (λ e. omega (arith, each_at above i h)))

  checked : check_of S B ≡ Ok tt
  unfolding check_of
  checked = ap (λ (i : ℕ). group_check i q (site_of B i)) o ∙ ap (group_check u q) (row_here A Z l u a (omega arith)) ∙ group-new u q (filled l) (omega arith) p new

  pub stays : judged S k B ≡ S
  stays = sym (complete S k B c).0 ∙ ap (λ (x : Check). ruled x S) checked

  pub enters : kept S k B ≡ A ++ (filled (l ++ (q ∷ [])) ++ Z)
  enters =
      sym (complete S k B c).1 ∙ ap (λ (x : Check). entered x S B) checked
      ∙ ap (λ (i : ℕ). take (63 * i) B ++ (joined q (site_of B i) ++ drop (63 * i + 63) B)) o
      ∙ changed A Z l u a (omega arith) (joined q (site_of B u))
      ∙ ap (λ (x : List ℕ). A ++ (x ++ Z))
      (ap (joined q) (row_here A Z l u a (omega arith)) ∙ joined-filled q l few ∙ ap filled (sift-last q l above))

-- what a sound table says of the row of site u
pub record SoundRow (n u : ℕ) (m : List ℕ) : Type 0 where
  pub long : length m ≡ 63
  pub some : 1 ≤ count m
  pub few : count m ≤ 62
  pub owner : (i : ℕ) → i < count m → u ∈ slice m i
  pub below : (i : ℕ) → slice m i < 2 ^ n
  pub ascend : (i : ℕ) → suc i < count m → slice m i < slice m (suc i)
  pub unused : (i : ℕ) → count m ≤ i → i < 62 → slice m i ≡ 0

rising : (f : ℕ → ℕ) (c : ℕ) → ((i : ℕ) → suc i < c → f i < f (suc i)) → (i j : ℕ) → i < j → j < c → f i < f j
rising f c h i zero l b = absurd (omega arith)
rising f c h i (suc j) l b =
    ⊎_elim (λ e. subst (λ (k : ℕ). f k < f (suc j)) (sym e) (h j b))
    (λ g. let x = rising f c h i j g (omega arith) in let y = h j b in omega arith)
    (eq-or-lt_of_le (le_of_suc-le-suc l))

zeros : (l : List ℕ) → ((i : ℕ) → i < length l → get_or l i 0 ≡ 0) → l ≡ replicate (length l) 0
zeros [] h = refl
zeros (x ∷ l) h = rw (h 0 (omega arith)) (ap (λ (k : List ℕ). 0 ∷ k) (zeros l (λ i g. h (suc i) (omega arith))))

module _ (n u : ℕ) (m : List ℕ) (r : SoundRow n u m) where
  -- its groups
  abbrev G : List ℕ
  G = take (count m) (drop 1 m)

  length-G : length G ≡ count m
  length-G = length-take-le (count m) (drop 1 m) (omega (arith, length-drop 1 m, r.long, r.few))

  at : (i : ℕ) → i < count m → get_or G i 0 ≡ slice m i
  at i h = get_or-take (count m) (drop 1 m) i 0 h ∙ get_or-drop 1 m i 0

  rest : drop (count m) (drop 1 m) ≡ replicate (62 - count m) 0
  rest =
      let e : length (drop (count m) (drop 1 m)) ≡ 62 - count m =
      length-drop (count m) (drop 1 m) ∙ omega (arith, length-drop 1 m, r.long) in
      zeros (drop (count m) (drop 1 m))
      (λ i h. get_or-drop (count m) (drop 1 m) i 0 ∙ get_or-drop 1 m (count m + i) 0 ∙ r.unused (count m + i) (omega arith) (omega arith))
      ∙ ap (λ (k : ℕ). replicate k 0) e

  headed : (l : List ℕ) → 1 ≤ length l → l ≡ count l ∷ drop 1 l
  headed [] h = absurd (omega arith)
  headed (x ∷ l) h = refl

  whole : filled G ≡ m
  whole =
      ap (λ (k : ℕ). k ∷ (G ++ replicate (62 - k) 0)) length-G ∙ ap (λ (z : List ℕ). count m ∷ (G ++ z)) (sym rest)
      ∙ ap (λ (z : List ℕ). count m ∷ z) (take-append-drop (count m) (drop 1 m)) ∙ sym (headed m (omega (arith, r.long)))

  length_front : (k : ℕ) → k ≤ count m → length (take k G) ≡ k
  length_front k h = length-take-le k G (omega (arith, length-G))

  lower : (k : ℕ) → k < count m → Each (λ x. x < slice m k) (take k G)
  lower k h =
      let e = length_front k (omega arith) in
      each_of (λ x. x < slice m k) (take k G)
      (λ i g. subst (λ (x : ℕ). x < slice m k) (sym (get_or-take k G i 0 (omega arith) ∙ at i (omega arith)))
      (rising (slice m) (count m) r.ascend i k (omega arith) h))

  grows : (k : ℕ) → k < count m → take k G ++ (slice m k ∷ []) ≡ take (suc k) G
  grows k h = ap (λ (x : ℕ). take k G ++ (x ∷ [])) (sym (at k h)) ∙ sym (take-suc G k 0 (omega (arith, length-G)))

  nonzero : (k : ℕ) → k < count m → slice m k ≡ 0 → ⊥
  nonzero k h e = not-in-zero (∈-eq e (r.owner k h))

  -- the line
  module _ (A Z : List ℕ) (L v : ℕ) (a : length A ≡ 63 * u) (o : own v ≡ u) (n64 : n ≤ 64) where
    abbrev D : ℕ → List ℕ
    D k = A ++ (filled (take k G) ++ Z)

    abbrev from : ℕ → Here
    from k = here Gap (spot L n v 0 First) (D k)

    group : (k : ℕ) → k < count m → Ready (read_on (from k) (members (slice m k))) (D k) (spot L n v (slice m k) More)
    group k h =
        let e = length_front k (omega arith) in
        let f = r.few in
        group-named L n v (slice m k) (D k) n64 (r.below k)
        (ap (λ (i : ℕ). ltb 61 (get_or (D k) (63 * i) 0)) o ∙ ap (ltb 61) (count-here A Z (take k G) u a (omega arith)) ∙ le-ltb 61 (length (take k G)) (omega arith))
        (nonzero k h)

    -- a group is complete
    closes : (k : ℕ) → k < count m → (t : Token) → completes t ≡ true
        → (judged (spot L n v (slice m k) More) t (D k) ≡ spot L n v (slice m k) More) × (kept (spot L n v (slice m k) More) t (D k) ≡ D (suc k))
    closes k h t c =
        let e = length_front k (omega arith) in
        let f = r.few in (
          stays A Z (take k G) L n v u (slice m k) a o (omega arith) (r.owner k h).holds (lower k h) t c,
          enters A Z (take k G) L n v u (slice m k) a o (omega arith) (r.owner k h).holds (lower k h) t c
              ∙ ap (λ (x : List ℕ). A ++ (filled x ++ Z)) (grows k h),
        )

    barred : (h : Here) (k : ℕ) → k < count m → Ready h (D k) (spot L n v (slice m k) More) → hearing (hearing h 32) 124 ≡ from (suc k)
    barred h k l y =
        let s : Spot = spot L n v (slice m k) More in
        let c = closes k l Bar refl in
        ap (λ (x : Here). hearing x 124) (blank h (D k) s y) ∙ bar (here Gap s (D k)) (D k) s (ready-gap (D k) s)
        ∙ ap (λ (x : Spot). here Gap (spoken Bar (full s (D k)) x) (kept s Bar (D k))) c.0 ∙ ap (here Gap (spot L n v 0 First)) c.1

    ended : (h : Here) (k : ℕ) → k < count m → Ready h (D k) (spot L n v (slice m k) More) → hearing h 10 ≡ here Fresh (spot (L + 1) n v 0 Owner) (D (suc k))
    ended h k l y =
        let s : Spot = spot L n v (slice m k) More in
        let c = closes k l End refl in
        line h (D k) s y
        ∙ ap (λ (x : Spot). here Fresh (spoken End (full h.spot (D k)) x) (kept s End (D k))) c.0 ∙ ap (here Fresh (spot (L + 1) n v 0 Owner)) c.1

    first-placed : placed m 0 ≡ members (slice m 0)
    unfolding placed
    first-placed = refl

    next-placed : (k : ℕ) → placed m (suc k) ≡ 32 ∷ 124 ∷ members (slice m (suc k))
    unfolding placed
    next-placed k = rw (eqb-suc-zero k) refl

    groups : (k : ℕ) → k < count m → Ready (read_on (from 0) (cat (placed m) (suc k))) (D k) (spot L n v (slice m k) More)
    unfolding cat
    groups zero h = ready-eq _ _ (ap (read_on (from 0)) first-placed) refl (group 0 h)
    groups (suc k) h =
        let b : Here = read_on (from 0) (cat (placed m) (suc k)) in
        ready-eq _ _
        (read-both (from 0) (cat (placed m) (suc k)) (placed m (suc k)) ∙ ap (read_on b) (next-placed k)
        ∙ read_byte b 32 (124 ∷ members (slice m (suc k))) ∙ read_byte (hearing b 32) 124 (members (slice m (suc k)))
        ∙ ap (λ (x : Here). read_on x (members (slice m (suc k)))) (barred b k (omega arith) (groups k (omega arith))))
        refl (group (suc k) h)

    line-end : (c : ℕ) → count m ≡ suc c → read_on (from 0) (cat (placed m) (count m) ++ ascii "\n") ≡ here Fresh (spot (L + 1) n v 0 Owner) (A ++ (m ++ Z))
    line-end c e =
        let b : Here = read_on (from 0) (cat (placed m) (suc c)) in
        ap (λ (k : ℕ). read_on (from 0) (cat (placed m) k ++ (10 ∷ []))) e
        ∙ read-both (from 0) (cat (placed m) (suc c)) (10 ∷ []) ∙ read_byte b 10 [] ∙ read_none (hearing b 10)
        ∙ ended b c (omega arith) (groups c (omega arith))
        ∙ ap (λ (k : List ℕ). here Fresh (spot (L + 1) n v 0 Owner) (A ++ (filled k ++ Z))) (take_all (suc c) G (omega (arith, length-G)))
        ∙ ap (λ (k : List ℕ). here Fresh (spot (L + 1) n v 0 Owner) (A ++ (k ++ Z))) whole

  -- the site's number and the colon
  module _ (A Z : List ℕ) (L : ℕ) (a : length A ≡ 63 * u) (n64 : n ≤ 64) (l : u < n) where
    abbrev s₀ : Spot
    s₀ = spot L n u 0 Owner

    abbrev t₀ : List ℕ
    t₀ = A ++ (replicate 63 0 ++ Z)

    called : (b : Bool) → spoken (Number u) b s₀ ≡ spot L n (u + 1) 0 Mark
    called b = owner-next s₀ u l refl

    back : u + 1 - 1 ≡ u
    back = omega arith

    pub line_read : read_on (here Fresh s₀ t₀) (row u m) ≡ here Fresh (spot (L + 1) n (u + 1) 0 Owner) (A ++ (m ++ Z))
    unfolding row
    line_read =
        let rest : List ℕ = cat (placed m) (count m) ++ ascii "\n" in
        let h : Here = here (Digits u) s₀ t₀ in
        let e : count m ≡ suc (count m - 1) = omega (arith, r.some) in
        read-both (here Fresh s₀ t₀) (decimal u) (58 ∷ rest)
        ∙ ap (λ (x : Here). read_on x (58 ∷ rest)) (read_number Fresh s₀ t₀ u fresh (omega arith))
        ∙ read_byte h 58 rest
        ∙ ap (λ (x : Here). read_on x rest)
        (colon h t₀ (spoken (Number u) (full s₀ t₀) s₀) (ready-number t₀ s₀ u)
        ∙ ap (λ (x : Spot). here Gap (spoken Colon (full s₀ t₀) x) t₀) (called (full s₀ t₀)))
        ∙ line-end A Z L (u + 1) a back n64 (count m - 1) e
