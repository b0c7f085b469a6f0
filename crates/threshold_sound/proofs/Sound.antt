-- What a text makes is a sound image of thresholds.
use Prim.Native.Nat.{ℕ, ◌*◌, ◌^◌, ◌≤◌, ◌<◌}
use mathlib.Core.Bool.{Bool, true, false, cond, false≢true}
use mathlib.Core.List.{List, ◌++◌}
use mathlib.Core.Logic.{⊎_elim}
use mathlib.Core.Path.{◌≡◌, refl, sym, ap, subst, ◌∙◌}
use native.Mathlib.Omega.{arith}
use lib.Count.{ones-le}
use lib.Dec.{ltb}
use lib.ListN.{length, take, drop, replicate}
use lib.Pow.{pow_mono}
use lib.Seq.{take_at}
use borrow.Author.Tests.{ltb-true, ltb-false, not-true}
use Rattle.block.specs.Block.{sealed}
use Rattle.ground.proofs.Logic.{cases}
use Rattle.ground.proofs.Pieces.{length-cat, part-cat}
use Rattle.ground.specs.Pieces.{part}
use Rattle.masks.proofs.Laws.Subsets.{below-⊆}
use Rattle.masks.specs.Mask.{all_below, size, ◌⊆◌}
use Rattle.site_block.specs.Block.{misheaded}
use Rattle.threshold_block.specs.Block.{sets_in, sets_unfilled}
use Rattle.threshold_grammar.specs.Grammar.{threshold_expected}
use Rattle.threshold_grammar.specs.declared.Phase.{Phase}
use Rattle.threshold_grammar.specs.declared.Phase.TheVariants.{Head, Count, Tail, Owner, Mark, Threshold, Of, Members, Wrong}
use Rattle.threshold_grammar.specs.declared.Spot.{Spot}
use Rattle.threshold_image.proofs.Exact.{thresholds-sound}
use Rattle.threshold_image.specs.Image.{thresholds_check, Thresholds}
use Rattle.threshold_made.specs.Made.{threshold_is_whole, threshold_answer_of, threshold_made_of, made_blocks, threshold_or_short, image_to, threshold_made, threshold_leaves, image_made}
use Rattle.std.specs.Prelude.{Result, Ok, Err}
use Rattle.threshold_made.specs.declared.Fault.{Fault}
use Rattle.threshold_made.specs.declared.Fault.TheVariants.{Line, Room}
use Rattle.threshold_reading.specs.Lines.{sets_heard}
use Rattle.threshold_reading.specs.Reading.{threshold_text_read}
use Rattle.threshold_sets.proofs.Alike.{sound-alike}
use Rattle.threshold_sets.specs.Check.{SoundSets}
use Rattle.threshold_sets.specs.Met.{ThresholdSets}
use Rattle.threshold_sound.proofs.Block.{store-headed, store-sealed, store-sets, store-filled}
use Rattle.threshold_sound.proofs.Lines.{Full, Done, Good}
use Rattle.threshold_sound.proofs.Words.{Keeps, text-keeps}
use Rattle.threshold_sound.specs.Theorems.{ThresholdsMadeSound, ThresholdsMadeChecked, ThresholdsLeftSound}
use Rattle.threshold_write.proofs.Store.{length-store}
use Rattle.threshold_write.specs.Store.{store_sets}

-- a text that is answered with n sites
ends : (p : Phase) (b : Bool) → threshold_is_whole p b ≡ true → (p ≡ Owner) × (b ≡ false)
ends Head b e = absurd (false≢true e)
ends Count b e = absurd (false≢true e)
ends Tail b e = absurd (false≢true e)
ends Owner b e = (refl, not-true b e)
ends Mark b e = absurd (false≢true e)
ends Threshold b e = absurd (false≢true e)
ends Of b e = absurd (false≢true e)
ends Members b e = absurd (false≢true e)
ends (Wrong w) b e = absurd (false≢true e)

answered : (s : Spot) (n : ℕ) → threshold_answer_of s ≡ Ok n → (s.phase ≡ Owner) × (s.n ≤ s.v) × (s.n ≡ n)
unfolding threshold_answer_of
answered s n e = pick (threshold_is_whole s.phase (ltb s.v s.n)) refl e
  where
    pick : (b : Bool) → threshold_is_whole s.phase (ltb s.v s.n) ≡ b
        → cond b (Ok s.n) (Err (Line s.line (threshold_expected s.phase (ltb s.v s.n) (ltb 1 s.depth)))) ≡ Ok n
        → (s.phase ≡ Owner) × (s.n ≤ s.v) × (s.n ≡ n)
    pick true w e = let h = ends s.phase (ltb s.v s.n) w in (h.0, ltb-false s.v s.n h.1, cc)
    pick false w e = let z : ◌≡◌ {A = ℕ} 0 1 = cc in absurd (omega arith)

-- sound sets fit their bytes
module _ (n : ℕ) (S : ThresholdSets) (few : n ≤ 64) (f : Full n S) where
  below_64 : (q : ℕ) → q ⊆ all_below n → q < 2 ^ 64
  below_64 q h = let p : 2 ^ n ≤ 2 ^ 64 = pow_mono few in below-⊆ 64 h (omega (arith, p))

  fits : (i : ℕ) → i < 49 → (S.threshold i < 256) × (S.inner i < 256) × (S.plain i < 2 ^ 64)
  fits i l =
      let k = f.2 i l in
      let c = f.0.few-sets in
      ⊎_elim
      (λ y. let h = ltb-true i S.count y in
      let b = below_64 (S.plain i) (f.0.below i h) in
      let r = f.0.reachable i h in
      let o : size (S.plain i) ≤ 64 = ones-le 64 (S.plain i) b in
      (omega (arith, r, o, k, c), omega (arith, k, c), b))
      (λ y. let u = f.1 i (ltb-false i S.count y) l in (omega (arith, u.0), omega (arith, k, c), rw u.2 (omega arith)))
      (cases (ltb i S.count))

-- all blocks
module _ (s : Spot) (t : List ℕ) (n : ℕ) (k : Keeps s t) (e : threshold_answer_of s ≡ Ok n) where
  whole : (1 ≤ n) × (n ≤ 64) × Done n n t
  whole =
      let a = answered s n e in
      let g : Good Owner s t = subst (λ (x : Phase). Good x s t) a.0 k.good in
      let m = a.2 in (
        omega (arith, g.0, m),
        omega (arith, k.sane.0, m),
        (λ u h. subst (λ (x : ℕ). Full x (sets_heard t u)) m (g.1 u (omega (arith, h, m, a.1)))),
      )

  block : (v : ℕ) → v < n → part 512 v (image_to n t n) ≡ store_sets n v (sets_heard t v)
  unfolding image_to
  block v l = part-cat (λ i. store_sets n i (sets_heard t i)) 512 n v l (λ i h. length-store n i (sets_heard t i))

  pub made-sound : Thresholds (image_to n t n) n
  unfolding image_to
  made-sound = record {
    long = length-cat (λ i. store_sets n i (sets_heard t i)) 512 n (λ i h. length-store n i (sets_heard t i));
    some-site = whole.0;
    few-sites = whole.1;
    sealed-so = λ v l. ap sealed (block v l) ∙ store-sealed n v (sets_heard t v);
    headed = λ v l. ap (misheaded n v) (block v l) ∙ store-headed n v (sets_heard t v) (omega (arith, l, whole.1)) (omega (arith, whole.1));
    sets = λ v l.
        let f = whole.2 v l in
        let c = f.0.few-sets in
        subst (λ (b : List ℕ). SoundSets n (sets_in b)) (sym (block v l))
        (sound-alike (store-sets n v (sets_heard t v) (omega (arith, c)) (fits n (sets_heard t v) whole.1 f)) c f.0);
    filled = λ v l.
        let f = whole.2 v l in
        let c = f.0.few-sets in
        ap sets_unfilled (block v l) ∙ store-filled n v (sets_heard t v) (omega (arith, c)) c f.1;
  }

pub made-image : ThresholdsMadeSound
unfolding threshold_made_of image_made
made-image text n e =
    let h = threshold_text_read text (replicate 9472 0) in
    subst (λ (k : ℕ). Thresholds (image_to k h.lines k) n) (sym (ap made_blocks e)) (made-sound h.spot h.lines n (text-keeps text) e)

pub made-checked : ThresholdsMadeChecked
made-checked text n e = thresholds-sound (made-image text n e)

-- the room
fitting : (room : ℕ) (m : Result ℕ Fault) (n : ℕ) → threshold_or_short room m ≡ Ok n → m ≡ Ok n
fitting room m n e = pick (ltb room (512 * made_blocks m)) e
  where
    pick : (b : Bool) → cond b (Err Room) m ≡ Ok n → m ≡ Ok n
    pick true e = let z : ◌≡◌ {A = ℕ} 0 1 = cc in absurd (omega arith)
    pick false e = e

pub left-sound : ThresholdsLeftSound
unfolding threshold_made threshold_leaves image_made
left-sound text room n e =
    let a = fitting (length room) (threshold_answer_of (threshold_made_of text).spot) n e in
    let i = made-image text n a in
    let x : image_made text ≡ image_to n (threshold_made_of text).lines n = ap (λ (m : Result ℕ Fault). image_to (made_blocks m) (threshold_made_of text).lines (made_blocks m)) a in
    let y : threshold_leaves text room ≡ image_to n (threshold_made_of text).lines n ++ drop (512 * n) room =
    ap (λ (m : Result ℕ Fault). image_to (made_blocks m) (threshold_made_of text).lines (made_blocks m) ++ drop (512 * made_blocks m) room) e in
    let z : take (512 * n) (threshold_leaves text room) ≡ image_made text =
    ap (take (512 * n)) y ∙ take_at (image_to n (threshold_made_of text).lines n) (drop (512 * n) room) (512 * n) (ap length (sym x) ∙ i.long) ∙ sym x in
    ap thresholds_check z ∙ made-checked text n a
