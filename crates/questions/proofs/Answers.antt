-- Laws of the public answers: one for each way out of a question that is asked of rows; and the question asked of a table, by its check.
use Rattle.refusals.specs.Check.{Check}
use Rattle.std.specs.Prelude.{Some, None, Ok, Err}
use Prim.Native.Nat.{ℕ, ◌^◌, ◌≤◌, ◌<◌}
use mathlib.Core.Bool.{Bool, true, false, not}
use mathlib.Core.List.{List}
use mathlib.Core.Path.{◌≡◌, refl, ap, ap₂, ◌∙◌}
use lib.Dec.{ltb}
use borrow.Author.Tests.{eq-eqb, ne_eqb, lt-ltb, le-ltb}
use Rattle.questions.specs.Answers.{Sharing, to_holds, quorum, to_greatest, largest, set_site_check, blocks, to_sharing, shared, to_standing, intact, pair_of, set_left}
use Rattle.refusals.specs.First.{or_else, refuse}
use Rattle.refusals.specs.declared.Refusal.{Refusal}
use Rattle.refusals.specs.declared.Refusal.TheVariants.{Range, Large}
use Rattle.sets.specs.Groups.{Groups, sites_of, groups_check, outsider, set_check}
use Rattle.sets.specs.Inner.AsRows.{AsRows}
use Rattle.sets.specs.Quorum as Quorum
use Rattle.sets.specs.Inner.Rows.{rules_of}
use Rattle.verdicts.specs.Verdicts as Verdicts

-- whatever is checked before

module _ {c : Check} where
  pub holds-refused : (b : Bool) {r : Refusal} → c ≡ Err r → Err r ≡ to_holds c b
  holds-refused b e = rw e refl

  pub holds-is : {b d : Bool} → c ≡ Ok tt → d ≡ b → Ok d ≡ to_holds c b
  holds-is e f = rw (e, f) refl

  pub greatest-refused : (set rounds : ℕ) {r : Refusal} → c ≡ Err r → Err r ≡ to_greatest c set rounds
  greatest-refused set rounds e = rw e refl

  pub greatest-set : {q k set rounds : ℕ} → c ≡ Ok tt → q ≡ set → k ≡ rounds → Ok (set_left q k) ≡ to_greatest c set rounds
  greatest-set e f g = rw e (ap₂ (λ (q k : ℕ). Ok (set_left q k)) f g)

  -- 11
  module _ (n site : ℕ) where
    pub site-refused : {r : Refusal} → c ≡ Err r → or_else c (refuse (not (ltb site n)) (Range 0)) ≡ Err r
    site-refused e = rw e refl

    pub site-outside : c ≡ Ok tt → n ≤ site → or_else c (refuse (not (ltb site n)) (Range 0)) ≡ Err (Range 0)
    site-outside e l = rw (e, le-ltb site n l) refl

    pub site-below : c ≡ Ok tt → site < n → or_else c (refuse (not (ltb site n)) (Range 0)) ≡ Ok tt
    site-below e l = rw (e, lt-ltb site n l) refl

  -- 16
  module _ (n set : ℕ) where
    pub standing-refused : {r : Refusal} → c ≡ Err r → Err r ≡ to_standing (or_else c (refuse (ltb 12 n) Large)) set
    standing-refused e = rw e refl

    pub standing-large : c ≡ Ok tt → 12 < n → Err Large ≡ to_standing (or_else c (refuse (ltb 12 n) Large)) set
    standing-large e l = rw (e, lt-ltb 12 n l) refl

    pub standing-is : {q : ℕ} → c ≡ Ok tt → n ≤ 12 → q ≡ set → Ok q ≡ to_standing (or_else c (refuse (ltb 12 n) Large)) set
    standing-is e l f = rw (e, le-ltb 12 n l) (ap Ok f)

-- do every two quorums meet, by a rule s of n sites
module _ (s : ℕ → ℕ → Bool) (n : ℕ) where
  abbrev said : Sharing
  said =
      let p = Verdicts.first_apart s n in
      to_sharing (refuse (ltb 12 n) Large) (Verdicts.meets s n) p (Verdicts.beside s n p)

  pub shared-large : 12 < n → Err Large ≡ said
  shared-large l = rw (lt-ltb 12 n l) refl

  pub shared-meet : n ≤ 12 → Verdicts.first_apart s n ≡ 2 ^ n → Ok None ≡ said
  unfolding Verdicts.meets
  shared-meet l f = rw (le-ltb 12 n l, eq-eqb (Verdicts.first_apart s n) (2 ^ n) f) refl

  pub shared-apart : (p q : ℕ) → n ≤ 12 → p ≡ Verdicts.first_apart s n → (p ≡ 2 ^ n → ⊥) → q ≡ Verdicts.beside s n p → Ok (Some (pair_of p q)) ≡ said
  unfolding Verdicts.meets
  shared-apart p q l f g h =
      rw (le-ltb 12 n l, ne_eqb (Verdicts.first_apart s n) (2 ^ n) (λ x. g (f ∙ x))) (ap₂ (λ (p q : ℕ). Ok (Some (pair_of p q))) f (h ∙ ap (Verdicts.beside s n) f))

-- of a table that is refused

module _ (t : Groups) {r : Refusal} (e : groups_check t ≡ Err r) where
  pub quorum-refused : (set : ℕ) → Err r ≡ quorum t set
  unfolding quorum set_check
  quorum-refused set = rw e refl

  pub largest-refused : (set : ℕ) → Err r ≡ largest t set
  unfolding largest set_check
  largest-refused set = rw e refl

  pub blocks-refused : (set site : ℕ) → Err r ≡ blocks t set site
  unfolding blocks set_site_check set_check
  blocks-refused set site = rw e refl

  pub shared-refused : Err r ≡ shared t
  unfolding shared
  shared-refused = rw e refl

  pub intact-refused : (F : ℕ) → Err r ≡ intact t F
  unfolding intact set_check
  intact-refused F = rw e refl

-- of a table that is not: what its rows answer

module _ {t : Groups} {rows : List ℕ} (a : AsRows t rows) where
  pub quorum-rows : (set : ℕ) → to_holds (outsider (sites_of t) set) (Quorum.quorum (rules_of rows).inside (sites_of t) set) ≡ quorum t set
  unfolding quorum set_check
  quorum-rows set = rw (a.checked, a.same-rules) refl

  pub largest-rows : (set : ℕ) →
      to_greatest (outsider (sites_of t) set) (Quorum.largest (rules_of rows).inside (sites_of t) set) (Quorum.rounds (rules_of rows).inside (sites_of t) set)
      ≡ largest t set
  unfolding largest set_check
  largest-rows set = rw (a.checked, a.same-rules) refl

  pub blocks-rows : (set site : ℕ) →
      to_holds (or_else (outsider (sites_of t) set) (refuse (not (ltb site (sites_of t))) (Range 0))) ((rules_of rows).blocked site set) ≡ blocks t set site
  unfolding blocks set_site_check set_check
  blocks-rows set site = rw (a.checked, a.same-rules) refl

  pub shared-rows : said (rules_of rows).inside (sites_of t) ≡ shared t
  unfolding shared
  shared-rows = rw (a.checked, a.same-rules) refl

  pub intact-rows : (F : ℕ) →
      to_standing (or_else (outsider (sites_of t) F) (refuse (ltb 12 (sites_of t)) Large)) (Verdicts.intact (rules_of rows) (sites_of t) F) ≡ intact t F
  unfolding intact set_check
  intact-rows F = rw (a.checked, a.same-rules) refl
