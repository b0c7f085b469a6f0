-- A table of thresholds is a form, so its tests are lawful, with all sets inside which a site has a slice for its slices.
use Prim.Native.Nat.{ℕ, ◌^◌, ◌<◌}
use mathlib.Core.Bool.{Bool, true, false, ◌&&◌, ◌||◌, not}
use mathlib.Core.List.{List}
use mathlib.Core.Logic.{◌⊎◌, inl, inr, ⊎_elim}
use mathlib.Core.Path.{◌≡◌, refl, sym, ap, ◌∙◌}
use lib.Bits.{bit_and, bit_or}
use lib.Dec.{eqb, ltb}
use lib.Pow.{ones_lt}
use borrow.Author.Tests.{ltb-true, lt-ltb, eqb-true, eq-eqb}
use Rattle.ground.proofs.Every.{every_of, every-not}
use Rattle.ground.proofs.Logic.{and_l, and_r, and_i, iff, is_false, clash, cases, or-i}
use Rattle.ground.proofs.Some.{some_of, some-ex}
use Rattle.ground.specs.Pieces.{part}
use Rattle.ground.specs.Search.{some, every}
use Rattle.masks.proofs.Laws.AllBelow.{in_all}
use Rattle.masks.proofs.Laws.Apart.{apart-⊆, ⊆-minus, ⊆-minus-apart, minus-⊆-or, or-⊆-minus}
use Rattle.masks.proofs.Laws.Subsets.{mem, ⊆-refl, ∈-below, ∈-and, and-⊆-l, and-⊆-r, below-⊆, minus-⊆, ⊆-within, within-⊆}
use Rattle.masks.specs.Mask.{has, within, minus, others, all_below, ◌∈◌, ◌⊆◌}
use Rattle.sets.specs.Forms.{Form, LawfulSlices}
use Rattle.sets.specs.Thresholds.{holds_slice, fbqs_of_thresholds, thresholds_of}
use Rattle.sets.proofs.Forms.{form-lawful}
use Rattle.threshold_block.specs.Block.{sets_in}
use Rattle.threshold_image.specs.Image.{Thresholds}
use Rattle.threshold_sets.proofs.Grows.{met-grows}
use Rattle.threshold_sets.proofs.Present.{met-of-sites}
use Rattle.threshold_sets.proofs.Whole.{all_meet}
use Rattle.threshold_sets.specs.Check.{SoundSets}
use Rattle.threshold_sets.specs.Met.{root_met}

-- who has a slice inside u: a site, in u, whose root u meets

module _ (image : List ℕ) (n : ℕ) where
  pub holds_of : {v u : ℕ} → v < n → v ∈ u → root_met (sets_in (part 512 v image)) u ≡ true → holds_slice image n v u ≡ true
  unfolding holds_slice
  holds_of {v} l h m = and_i (lt-ltb v n l) (and_i h.holds m)

  pub holds-site : (v u : ℕ) → holds_slice image n v u ≡ true → v < n
  unfolding holds_slice
  holds-site v u e = ltb-true v n (and_l _ _ e)

  pub holds-own : (v u : ℕ) → holds_slice image n v u ≡ true → v ∈ u
  unfolding holds_slice
  holds-own v u e = mem (and_l _ _ (and_r (ltb v n) _ e))

  holds-met : (v u : ℕ) → holds_slice image n v u ≡ true → root_met (sets_in (part 512 v image)) u ≡ true
  unfolding holds_slice
  holds-met v u e = and_r (has u v) _ (and_r (ltb v n) _ e)

  pub holds-grows : (v a b : ℕ) → a ⊆ b → holds_slice image n v a ≡ true → holds_slice image n v b ≡ true
  holds-grows v a b sub e =
      holds_of (holds-site v a e) (sub.each v (holds-own v a e)) (met-grows (sets_in (part 512 v image)) sub (holds-met v a e))

module _ {image : List ℕ} {n : ℕ} (H : Thresholds image n) where
  sound-at : {v : ℕ} → v < n → SoundSets n (sets_in (part 512 v image))
  sound-at {v} l = H.sets v l

  holds-and : (v u : ℕ) → holds_slice image n v u ≡ true → holds_slice image n v (bit_and u (all_below n)) ≡ true
  holds-and v u e =
      let l = holds-site image n v u e in
      holds_of image n l (∈-and (holds-own image n v u e) (in_all l))
      (met-of-sites (sets_in (part 512 v image)) (sound-at l).some-set n (sound-at l).below u ∙ holds-met image n v u e)

  holds-all : (v : ℕ) → v < n → holds_slice image n v (all_below n) ≡ true
  holds-all v l = holds_of image n l (in_all l) (all_meet (sound-at l) (all_below n) (sound-at l).below)

  -- "every slice loses the members of B": some slice is inside u then exactly if one is inside u and b together
  some-deleted : (b v u : ℕ) → some (2 ^ n) (λ q. holds_slice image n v q && within (minus q b) u) ≡ holds_slice image n v (bit_or u b)
  some-deleted b v u =
      iff _ _
      (λ e. let x = some-ex (2 ^ n) (λ q. holds_slice image n v q && within (minus q b) u) e in
      holds-grows image n v x.0 (bit_or u b) (minus-⊆-or x.0 b u (within-⊆ _ u (and_r (holds_slice image n v x.0) _ x.2))) (and_l _ _ x.2))
      (λ e. let q = bit_and (bit_or u b) (all_below n) in
      some_of (2 ^ n) (λ q. holds_slice image n v q && within (minus q b) u) {j = q} (below-⊆ n (and-⊆-r (bit_or u b) (all_below n)) (ones_lt n))
      (and_i (holds-and v (bit_or u b) e) (⊆-within (or-⊆-minus q b u (and-⊆-l (bit_or u b) (all_below n))))))

  -- a set meets every slice exactly if the rest holds none
  every-met : (v w : ℕ) → every (2 ^ n) (λ q. not (holds_slice image n v q) || not (eqb (bit_and q (others w v)) 0)) ≡ not (holds_slice image n v (minus (all_below n) (others w v)))
  every-met v w =
      ⊎_elim
      (λ e. every-not (2 ^ n) p {j = rest} (below-⊆ n (minus-⊆ (all_below n) (others w v)) (ones_lt n)) (at_rest e) ∙ sym (ap not e))
      (λ e. every_of (2 ^ n) p (λ q l. each q e (cases (holds_slice image n v q))) ∙ sym (ap not e))
      (cases (holds_slice image n v rest))
    where
      rest : ℕ
      rest = minus (all_below n) (others w v)

      p : ℕ → Bool
      p q = not (holds_slice image n v q) || not (eqb (bit_and q (others w v)) 0)

      at_rest : holds_slice image n v rest ≡ true → p rest ≡ false
      at_rest e = rw (e, eq-eqb (bit_and rest (others w v)) 0 (⊆-minus-apart (all_below n) (others w v) (⊆-refl rest))) refl

      each : (q : ℕ) → holds_slice image n v rest ≡ false → (holds_slice image n v q ≡ true) ⊎ (holds_slice image n v q ≡ false) → p q ≡ true
      each q e (inl h) =
          or-i (not (holds_slice image n v q)) (not (eqb (bit_and q (others w v)) 0))
          (ap not (is_false (eqb (bit_and q (others w v)) 0)
          (λ z. let a = bit_and q (all_below n) in
          clash (holds-grows image n v a rest
          (⊆-minus (others w v) (and-⊆-r q (all_below n)) (apart-⊆ (and-⊆-l q (all_below n)) (⊆-refl (others w v)) (eqb-true (bit_and q (others w v)) 0 z)))
          (holds-and v q h)) e)))
      each q e (inr h) = rw h refl

  pub thresholds-form : Form (thresholds_of image n) n
  unfolding thresholds_of
  thresholds-form =
      record {
        grows = holds-grows image n;
        own = holds-own image n;
        of-sites = holds-and;
        all-sites = λ v h. holds-all v (∈-below (ones_lt n) h);
        deleted-or = λ b v u. ap (λ (x : Bool). not (has b v) && x) (some-deleted b v u);
        blocked-rest = every-met;
      }

  pub thresholds-lawful : LawfulSlices (fbqs_of_thresholds image n) (thresholds_of image n) n
  unfolding thresholds_of
  thresholds-lawful =
      let L = form-lawful (thresholds_of image n) n thresholds-form in
      record {
        all-sites = refl;
        well-formed = record {
          one-or-more = λ v h. (all_below n, (holds-all v (∈-below (ones_lt n) h), ⊆-refl (all_below n)));
          of-nodes = λ v q h x. x.1;
          belongs = λ v q h x. holds-own image n v q x.0;
        };
        slice_inside = λ v u e. let x = L.slice_inside v u e in (x.0, (x.1.0, x.1.1), x.2);
        inside-slice = λ v u q x sub. holds-grows image n v q u sub x.0;
        deleted-or = L.deleted-or;
        blocked-slice = λ v w q e x z. L.blocked-slice v w q e (x.0, x.1, holds-own image n v q x.0) z;
        unblocked-slice = λ v w e. let x = L.unblocked-slice v w e in (x.0, (x.1.0, x.1.1), x.2);
      }
