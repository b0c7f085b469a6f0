-- The ways out of a verdict on a table: one law for each.
use Rattle.refusals.specs.Check.{Check}
use Rattle.std.specs.Prelude.{Ok, Err}
use Prim.Native.Nat.{ℕ}
use mathlib.Core.Bool.{Bool, true, false}
use mathlib.Core.Path.{◌≡◌, refl, ap, ◌∙◌}
use native.Mathlib.Omega.{arith}
use Rattle.refusal_lines.specs.Refused.{refused}
use Rattle.masks.proofs.Laws.Subsets.{minus-⊆, ⊆-within}
use Rattle.masks.specs.Mask.{all_below, minus}
use Rattle.questions.specs.Answers.{verdict_check, to_greatest, to_sharing, to_standing, set_left}
use Rattle.questions.specs.Answers as Answers
use Rattle.refusals.proofs.First.{or_else-sound}
use Rattle.refusals.specs.declared.Refusal.{Refusal}
use Rattle.judged_text.specs.Inner.{met}
use Rattle.judged_text.specs.Judged.{judged_text}
use Rattle.verdict_lines.specs.Verdict.{seven_lines}
use Rattle.rounds.specs.declared.SetLeft.{SetLeft}
use Rattle.sets.proofs.Groups.{set-checked, no-outsider}
use Rattle.sets.specs.Groups.{Groups, sites_of, slices_in, groups_check, Checked, set_check}
use Rattle.sets.specs.Quorum as Quorum
use Rattle.verdicts.specs.Verdicts as Verdicts

standing-taken : (s : Check) (q m : ℕ) → Ok m ≡ to_standing s q → (s ≡ Ok tt) × (m ≡ q)
standing-taken (Ok _) q m h = (refl, cc)
standing-taken (Err r) q m h = let z : ◌≡◌ {A = ℕ} 0 1 = cc in absurd (omega arith)

pub standing-stopped : (s : Check) (q : ℕ) (r : Refusal) → Err r ≡ to_standing s q → s ≡ Err r
standing-stopped (Ok _) q r h = let z : ◌≡◌ {A = ℕ} 0 1 = cc in absurd (omega arith)
standing-stopped (Err x) q r h = cc

greatest-taken : (s : Check) (q k set rounds : ℕ) → s ≡ Ok tt → Ok (set_left set rounds) ≡ to_greatest s q k → (set ≡ q) × (rounds ≡ k)
greatest-taken (Ok _) q k set rounds e h = let l : set_left set rounds ≡ set_left q k = cc in (ap (λ (x : SetLeft). x.set) l, ap (λ (x : SetLeft). x.rounds) l)
greatest-taken (Err r) q k set rounds e h = let z : ◌≡◌ {A = ℕ} 0 1 = cc in absurd (omega arith)

greatest-never : (s : Check) (q k : ℕ) (r : Refusal) → s ≡ Ok tt → Err r ≡ to_greatest s q k → ⊥
greatest-never (Ok _) q k r e h = let z : ◌≡◌ {A = ℕ} 0 1 = cc in omega arith
greatest-never (Err x) q k r e h = let z : ◌≡◌ {A = ℕ} 0 1 = cc in omega arith

shared-met : (s : Check) (b : Bool) (p q : ℕ) → s ≡ Ok tt → met (to_sharing s b p q) ≡ b
shared-met (Ok _) true p q e = refl
shared-met (Ok _) false p q e = refl
shared-met (Err r) b p q e = let z : ◌≡◌ {A = ℕ} 0 1 = cc in absurd (omega arith)

module _ (t : Groups) (F : ℕ) where
  pub judged-refused : (r : Refusal) → Err r ≡ Answers.intact t F → refused r ≡ judged_text F t
  unfolding judged_text Answers.intact
  judged-refused r h = rw (standing-stopped (verdict_check t (set_check t F)) (Verdicts.intact (slices_in t) (sites_of t) F) r h) refl

  module _ (m : ℕ) (h : Ok m ≡ Answers.intact t F) where
    pub judged : (verdict_check t (set_check t F) ≡ Ok tt) × (m ≡ Verdicts.intact (slices_in t) (sites_of t) F)
    unfolding Answers.intact
    judged = standing-taken (verdict_check t (set_check t F)) (Verdicts.intact (slices_in t) (sites_of t) F) m h

    table-sound : Checked t
    table-sound = set-checked t F (or_else-sound (set_check t F) _ judged.0).0

    -- whether every two quorums meet, by the question of shared sites
    pub meets-is : (meet : Bool) → meet ≡ met (Answers.shared t) → meet ≡ Verdicts.meets (slices_in t).inside (sites_of t)
    unfolding Answers.shared
    meets-is meet y =
        let s = (slices_in t).inside in
        let p = Verdicts.first_apart s (sites_of t) in
        let v : verdict_check t (groups_check t) ≡ Ok tt = rw table-sound (or_else-sound (set_check t F) _ judged.0).1 in
        y ∙ shared-met (verdict_check t (groups_check t)) (Verdicts.meets s (sites_of t)) p (Verdicts.beside s (sites_of t) p) v

    -- the sites outside F, as the code has them
    module _ (n others : ℕ) (en : n ≡ sites_of t) (eo : others ≡ minus (all_below n) F) where
      rest : others ≡ minus (all_below (sites_of t)) F
      rest = rw en at eo

      others-sound : set_check t others ≡ Ok tt
      unfolding set_check
      others-sound = rw table-sound (no-outsider (sites_of t) others (rw rest (⊆-within (minus-⊆ (all_below (sites_of t)) F))))

      pub others-taken : (r : Refusal) → Err r ≡ Answers.largest t others → ⊥
      unfolding Answers.largest
      others-taken r e = greatest-never (set_check t others) _ _ r others-sound e

      pub judged-is : (q k : ℕ) (meet : Bool) → Ok (set_left q k) ≡ Answers.largest t others → meet ≡ met (Answers.shared t)
          → seven_lines F n meet m q k ≡ judged_text F t
      unfolding judged_text Answers.largest
      judged-is q k meet e y =
          let s = (slices_in t).inside in
          let g = greatest-taken (set_check t others) (Quorum.largest s (sites_of t) others) (Quorum.rounds s (sites_of t) others) q k others-sound e in
          rw (judged.0, judged.1, g.0, g.1, rest, en, meets-is meet y) refl
