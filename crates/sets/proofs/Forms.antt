-- What a form shows is enough: its tests are lawful. And promises of each receiver's own view are the promises of the family.
use Prim.Native.Nat.{ℕ}
use mathlib.Core.Bool.{Bool, ◌&&◌, not}
use mathlib.Core.Path.{◌≡◌, refl, sym, ap, ap₂, ◌∙◌, fun_ext}
use lib.Bits.{bit_and, bit_or}
use borrow.Author.Tests.{not-false}
use Rattle.ground.proofs.Logic.{clash, not_t}
use Rattle.masks.proofs.Laws.Apart.{⊆-minus, ⊆-minus-apart}
use Rattle.masks.proofs.Laws.Subsets.{⊆-refl, and-⊆-l, and-⊆-r, minus-⊆}
use Rattle.masks.specs.Mask.{has, minus, others, all_below}
use Rattle.sets.specs.Forms.{Form, FormLawful, ViewsPromise}
use Rattle.sets.specs.Slices.{Slices}

pub form-lawful : FormLawful
form-lawful r n F =
    record {
      all-sites = refl;
      well-formed = record {
        one-or-more = λ v h. (all_below n, (F.all-sites v h, ⊆-refl (all_below n), h));
        of-nodes = λ v q h x. x.1;
        belongs = λ v q h x. x.2;
      };
      slice_inside = λ v u e.
          let c = F.of-sites v u e in (bit_and u (all_below n), (c, and-⊆-r u (all_below n), F.own v (bit_and u (all_below n)) c), and-⊆-l u (all_below n));
      inside-slice = λ v u q x sub. F.grows v q u sub x.0;
      deleted-or = F.deleted-or;
      blocked-slice = λ v w q e x z.
          clash (F.grows v q (rest v w) (⊆-minus (others w v) x.1 z) x.0) (not_t (r.inside v (rest v w)) (sym (F.blocked-rest v w) ∙ e));
      unblocked-slice = λ v w e.
          let c = not-false (r.inside v (rest v w)) (sym (F.blocked-rest v w) ∙ e) in
          (rest v w, (c, minus-⊆ (all_below n) (others w v), F.own v (rest v w) c), ⊆-minus-apart (all_below n) (others w v) (⊆-refl (rest v w)));
    }
  where
    rest : ℕ → ℕ → ℕ
    rest v w = minus (all_below n) (others w v)

pub views : ViewsPromise
views S Q P =
    record {
      quorum-grows = λ v. (P v).quorum-grows v;
      blocked-grows = λ v. (P v).blocked-grows v;
      quorum-member = λ v. (P v).quorum-member v;
      quorum-inside = λ v. (P v).quorum-inside v;
      of-quorum = λ v. (P v).of-quorum v;
      nobody-blocked = λ v. (P v).nobody-blocked v;
      blocked-meets = λ v. (P v).blocked-meets v;
      unblocked-rest = λ v. (P v).unblocked-rest v;
      slice-decides = λ v. (P v).slice-decides v;
    }

-- tests that give the same answers are the same
pub same_tests : (r s : Slices) → ((v u : ℕ) → r.inside v u ≡ s.inside v u) → ((b v u : ℕ) → r.deleted b v u ≡ s.deleted b v u) →
    ((v w : ℕ) → r.blocked v w ≡ s.blocked v w) → r ≡ s
same_tests r s p q k =
    let a : r.inside ≡ s.inside = fun_ext (λ v. fun_ext (p v)) in
    let b : r.deleted ≡ s.deleted = fun_ext (λ b. fun_ext (λ v. fun_ext (q b v))) in
    let c : r.blocked ≡ s.blocked = fun_ext (λ v. fun_ext (k v)) in
    ap₂ (λ (i : ℕ → ℕ → Bool) (d : ℕ → ℕ → ℕ → Bool). tests i d r.blocked) a b ∙ ap (tests s.inside s.deleted) c
  where
    tests : (ℕ → ℕ → Bool) → (ℕ → ℕ → ℕ → Bool) → (ℕ → ℕ → Bool) → Slices
    tests i d b = record { inside = i; deleted = d; blocked = b }

-- and two forms are, once who has a slice inside is the same
pub form-same : {r s : Slices} {n : ℕ} → Form r n → Form s n → ((v u : ℕ) → r.inside v u ≡ s.inside v u) → r ≡ s
form-same {r} {s} {n} F G e =
    same_tests r s e
    (λ b v u. F.deleted-or b v u ∙ ap (λ (x : Bool). not (has b v) && x) (e v (bit_or u b)) ∙ sym (G.deleted-or b v u))
    (λ v w. F.blocked-rest v w ∙ ap not (e v (minus (all_below n) (others w v))) ∙ sym (G.blocked-rest v w))
