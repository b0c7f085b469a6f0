-- The public answers to set questions are the paper's, both ways: what was asked was proper and the computed answer decides the paper's statement.
use Rattle.refusals.specs.Check.{Check}
use Rattle.std.specs.Prelude.{Some, None, Ok, Err}
use Prim.Native.Nat.{ℕ, zero, suc, ◌≤◌, ◌<◌}
use mathlib.Core.Bool.{Bool, true, false, not}
use mathlib.Core.Logic.{◌⊎◌, ⊎_elim}
use mathlib.Core.Path.{◌≡◌, refl, sym, ap, ◌∙◌, subst}
use native.Mathlib.Omega.{arith}
use borrow.Author.Tests.{lt-ltb, le-ltb}
use lib.Dec.{ltb}
use lib.Pow.{ones_lt}
use Rattle.ground.proofs.Logic.{is_false, clash}
use Rattle.masks.proofs.Laws.Subsets.{⊆-within, ⊆-antisym, ⊆-trans, ⊆-zero, ∈-below}
use Rattle.masks.specs.Mask.{all_below, ◌∈◌, ◌⊆◌}
use Rattle.questions.specs.Answers.{quorum, largest, blocks, shared, intact, to_holds, to_greatest, to_sharing, to_standing, verdict_check, set_site_check, pair_of, set_left}
use Rattle.refusals.proofs.First.{or_else-sound, kept}
use Rattle.refusals.specs.declared.Refusal as Refusal
use Rattle.rounds.specs.declared.SetLeft.{SetLeft}
use Rattle.verdicts.specs.declared.Pair.{Pair}
use Rattle.sets.proofs.Groups.{lawful, table-exact, table-decides, set-checked, set-of-sites, no-outsider}
use Rattle.sets.proofs.Quorum.{round-⊆, round-slice, ∈-round, largest-after, rounds-drop, largest-still}
use Rattle.sets.specs.Groups.{Groups, sites_of, fbqs_in, slices_in, groups_check, Checked, set_check}
use Rattle.sets.specs.Paper.{Fbqs, Intact}
use Rattle.sets.specs.Quorum as SetQuorum
use Rattle.verdicts.proofs.Decides.{table-verdicts}
use Rattle.verdicts.specs.Decides.{Apart}
use Rattle.verdicts.specs.Verdicts as Verdicts
use Rattle.published.specs.Sets.{named, Proper, Round, Rounds, LargestInside, IntactSites, QuorumAsPublished, BlocksAsPublished, LargestAsPublished, SharedAsPublished, IntactAsPublished}

-- what was asked was proper, and the other way
pub proper-of : (t : Groups) (set : ℕ) → set_check t set ≡ Ok tt → Proper t set
proper-of t set e = ((table-exact t).0 (set-checked t set e), set-of-sites t set e)

pub of-proper : (t : Groups) (set : ℕ) → Proper t set → set_check t set ≡ Ok tt
unfolding set_check
of-proper t set p = rw ((table-exact t).1 p.0, no-outsider (sites_of t) set (⊆-within p.1)) refl

-- at most twelve sites
few-sites : (t : Groups) (c : Check) → verdict_check t c ≡ Ok tt → (c ≡ Ok tt) × (sites_of t ≤ 12)
few-sites t c e =
    let x = or_else-sound c _ e in
    (x.0, le_of_not_lt (λ h. clash (lt-ltb 12 (sites_of t) h) (kept (ltb 12 (sites_of t)) Refusal.Refusal.Large x.1)))
  where
    le_of_not_lt : {a b : ℕ} → (b < a → ⊥) → a ≤ b
    le_of_not_lt f = omega (arith, f)

-- yes and no
yes-inv : (c : Check) (b : Bool) → to_holds c b ≡ Ok true → (c ≡ Ok tt) × (b ≡ true)
yes-inv (Ok _) true e = (refl, refl)
yes-inv (Ok _) false e = let z : ◌≡◌ {A = ℕ} 0 1 = cc in absurd (omega arith)
yes-inv (Err r) b e = let z : ◌≡◌ {A = ℕ} 0 1 = cc in absurd (omega arith)

no-inv : (c : Check) (b : Bool) → to_holds c b ≡ Ok false → (c ≡ Ok tt) × (b ≡ false)
no-inv (Ok _) false e = (refl, refl)
no-inv (Ok _) true e = let z : ◌≡◌ {A = ℕ} 0 1 = cc in absurd (omega arith)
no-inv (Err r) b e = let z : ◌≡◌ {A = ℕ} 0 1 = cc in absurd (omega arith)

pub quorum-as-published : QuorumAsPublished
unfolding quorum
quorum-as-published t set =
    let n = sites_of t in
    let b = SetQuorum.quorum (slices_in t).inside n set in (
      (
        λ e. let x = yes-inv (set_check t set) b e in
            let p = proper-of t set x.0 in
            (p, ((table-decides t ((table-exact t).1 p.0)).quorum-decides set).0 x.1),
        λ x. rw (of-proper t set x.0, ((table-decides t ((table-exact t).1 x.0.0)).quorum-decides set).1 x.1) refl,
      ),
      (
        λ e. let x = no-inv (set_check t set) b e in
            let p = proper-of t set x.0 in
            (p, λ k. clash (((table-decides t ((table-exact t).1 p.0)).quorum-decides set).1 k) x.1),
        λ x. rw (of-proper t set x.0, is_false b (λ e. x.1 (((table-decides t ((table-exact t).1 x.0.0)).quorum-decides set).0 e))) refl,
      ),
    )

site-inside : (t : Groups) (set site : ℕ) → set_site_check t set site ≡ Ok tt → Proper t set × (site < sites_of t)
unfolding set_site_check
site-inside t set site e =
    let y = or_else-sound (set_check t set) _ e in
    (proper-of t set y.0, lt_of_not_le (λ h. clash (ap not (le-ltb site (sites_of t) h)) (kept (not (ltb site (sites_of t))) (Refusal.Refusal.Range 0) y.1)))
  where
    lt_of_not_le : {a b : ℕ} → (b ≤ a → ⊥) → a < b
    lt_of_not_le f = omega (arith, f)

pub blocks-as-published : BlocksAsPublished
unfolding blocks set_site_check
blocks-as-published t set site =
    let n = sites_of t in
    let b = (slices_in t).blocked site set in (
      (
        λ e. let x = yes-inv (set_site_check t set site) b e in
            let y = site-inside t set site x.0 in
            (y.0, y.1, ((table-decides t ((table-exact t).1 y.0.0)).blocked-decides site set).0 x.1),
        λ x. rw (of-proper t set x.0, lt-ltb site n x.1, ((table-decides t ((table-exact t).1 x.0.0)).blocked-decides site set).1 x.2) refl,
      ),
      (
        λ e. let x = no-inv (set_site_check t set site) b e in
            let y = site-inside t set site x.0 in
            (y.0, y.1, λ k. clash (((table-decides t ((table-exact t).1 y.0.0)).blocked-decides site set).1 k) x.1),
        λ x. rw (of-proper t set x.0, lt-ltb site n x.1, is_false b (λ e. x.2 (((table-decides t ((table-exact t).1 x.0.0)).blocked-decides site set).0 e))) refl,
      ),
    )

same_of : (a b : ℕ) → (a < b → ⊥) → (b < a → ⊥) → a ≡ b
same_of a b f g = omega (arith, f, g)

-- the rounds: those that are computed are the paper's, and there are no others
module _ (t : Groups) (c : Checked t) (w : ℕ) (sub : w ⊆ all_below (sites_of t)) where
  abbrev n : ℕ
  n = sites_of t

  abbrev s : ℕ → ℕ → Bool
  s = (slices_in t).inside

  abbrev S : Fbqs
  S = fbqs_in t

  abbrev after : ℕ → ℕ
  after i = SetQuorum.after s n i w

  after-⊆ : (i : ℕ) → after i ⊆ all_below n
  unfolding SetQuorum.after
  after-⊆ zero = sub
  after-⊆ (suc i) = ⊆-trans (round-⊆ s n (after i)) (after-⊆ i)

  is-round : (u : ℕ) → u ⊆ all_below n → Round S u (SetQuorum.round s n u)
  is-round u l v = (
    λ h. ((round-⊆ s n u).each v h, (lawful t c).slice_inside v u (round-slice s n h)),
    λ x. ∈-round s n (∈-below (ones_lt n) (l.each v x.0)) x.0 ((lawful t c).inside-slice v u x.1.0 x.1.1 x.1.2),
  )

  rounds-are : Rounds S w (SetQuorum.largest s n w) (SetQuorum.rounds s n w)
  unfolding SetQuorum.after
  rounds-are = record {
    after = after;
    start = refl;
    round = λ i. is-round (after i) (after-⊆ i);
    dropped = λ i l e. rounds-drop s n w i l (sym e);
    still = ap (SetQuorum.round s n) (sym (largest-after s n w)) ∙ largest-still s n w ∙ largest-after s n w;
    left = sym (largest-after s n w);
  }

  module _ {q k : ℕ} (R : Rounds S w q k) where
    same_after : (i : ℕ) → R.after i ≡ after i
    unfolding SetQuorum.after
    same_after zero = R.start
    same_after (suc i) =
        let e = same_after i in
        let mine = is-round (after i) (after-⊆ i) in
        let theirs = subst (λ (x : ℕ). Round S x (R.after (suc i))) e (R.round i) in
        ⊆-antisym (record { each = λ v h. (mine v).1 ((theirs v).0 h) }) (record { each = λ v h. (theirs v).1 ((mine v).0 h) })

    no_more : SetQuorum.rounds s n w < k → ⊥
    unfolding rounds-are SetQuorum.after
    no_more l =
        let m = SetQuorum.rounds s n w in
        R.dropped m l (same_after (suc m) ∙ rounds-are.still ∙ sym (same_after m))

    no-fewer : k < SetQuorum.rounds s n w → ⊥
    unfolding rounds-are SetQuorum.after
    no-fewer l = rounds-are.dropped k l (sym (same_after (suc k)) ∙ R.still ∙ same_after k)

    pub same-rounds : SetQuorum.rounds s n w ≡ k
    same-rounds = same_of (SetQuorum.rounds s n w) k no_more no-fewer

pub largest-inside : (t : Groups) → Checked t → (w : ℕ) → w ⊆ all_below (sites_of t) →
    LargestInside (fbqs_in t) w (SetQuorum.largest (slices_in t).inside (sites_of t) w) (SetQuorum.rounds (slices_in t).inside (sites_of t) w)
largest-inside t c w sub =
    let G = (table-decides t c).largest-decides w in
    record { none-or-quorum = G.none-or-quorum; inside = G.inside; contains = G.contains; rounds = rounds-are t c w sub }

greatest-inv : (c : Check) (s k q j : ℕ) → to_greatest c s k ≡ Ok (set_left q j) → (c ≡ Ok tt) × (s ≡ q) × (k ≡ j)
greatest-inv (Ok _) s k q j e = let l : set_left s k ≡ set_left q j = cc in (refl, ap (λ (x : SetLeft). x.set) l, ap (λ (x : SetLeft). x.rounds) l)
greatest-inv (Err r) s k q j e = let z : ◌≡◌ {A = ℕ} 0 1 = cc in absurd (omega arith)

pub largest-as-published : LargestAsPublished
unfolding largest
largest-as-published t set q k =
    let n = sites_of t in
    let l = SetQuorum.largest (slices_in t).inside n set in
    let m = SetQuorum.rounds (slices_in t).inside n set in (
      λ e. let x = greatest-inv (set_check t set) l m q k e in
          let p = proper-of t set x.0 in
          (p, subst (λ (z : ℕ). LargestInside (named t) set q z) x.2 (subst (λ (z : ℕ). LargestInside (named t) set z m) x.1 (largest-inside t (set-checked t set x.0) set p.1))),
      λ x. let p = x.0 in
          let L = x.1 in
          let G = (table-decides t ((table-exact t).1 p.0)).largest-decides set in
          let down : l ⊆ q = ⊎_elim (λ e. subst (λ (z : ℕ). z ⊆ q) (sym e) (⊆-zero q)) (λ h. L.contains l h G.inside) G.none-or-quorum in
          let up : q ⊆ l = ⊎_elim (λ e. subst (λ (z : ℕ). z ⊆ l) (sym e) (⊆-zero l)) (λ h. G.contains q h L.inside) L.none-or-quorum in
          rw (of-proper t set p, ⊆-antisym down up, same-rounds t ((table-exact t).1 p.0) set p.1 L.rounds) refl,
    )

-- shared sites
meet-inv : (c : Check) (b : Bool) (p q : ℕ) → to_sharing c b p q ≡ Ok None → (c ≡ Ok tt) × (b ≡ true)
meet-inv (Ok _) true p q e = (refl, refl)
meet-inv (Ok _) false p q e = let z : ◌≡◌ {A = ℕ} 0 1 = cc in absurd (omega arith)
meet-inv (Err r) b p q e = let z : ◌≡◌ {A = ℕ} 0 1 = cc in absurd (omega arith)

apart-inv : (c : Check) (b : Bool) (p q x y : ℕ) → to_sharing c b p q ≡ Ok (Some (pair_of x y)) → (c ≡ Ok tt) × (b ≡ false) × (p ≡ x) × (q ≡ y)
apart-inv (Ok _) true p q x y e = let z : ◌≡◌ {A = ℕ} 0 1 = cc in absurd (omega arith)
apart-inv (Ok _) false p q x y e =
    let l : pair_of p q ≡ pair_of x y = cc in (refl, refl, ap (λ (z : Pair). z.first) l, ap (λ (z : Pair). z.second) l)
apart-inv (Err r) b p q x y e = let z : ◌≡◌ {A = ℕ} 0 1 = cc in absurd (omega arith)

-- two quorums that 01 names are the only ones that it names
one-pair : {S : Fbqs} {p q a b : ℕ} → Apart S p q → Apart S a b → (p ≡ a) × (q ≡ b)
one-pair {S} {p} {q} {a} {b} A B =
    let e : p ≡ a = omega (arith, A.smallest a b B.first B.second B.no-common, B.smallest p q A.first A.second A.no-common) in
    let C : Apart S p b = subst (λ (z : ℕ). Apart S z b) (sym e) B in
    (e, ⊆-antisym (C.largest-beside q A.second A.no-common) (A.largest-beside b C.second C.no-common))

pub shared-as-published : SharedAsPublished
unfolding shared
shared-as-published t =
    let n = sites_of t in
    let s = (slices_in t).inside in
    let p = Verdicts.first_apart s n in
    let m = Verdicts.meets s n in (
      (
        λ e. let x = meet-inv (verdict_check t (groups_check t)) m p (Verdicts.beside s n p) e in
            let y = few-sites t (groups_check t) x.0 in
            ((table-exact t).0 y.0, y.1, (table-verdicts t y.0).meets-decides.0 x.1),
        λ x. rw ((table-exact t).1 x.0, le-ltb 12 n x.1, (table-verdicts t ((table-exact t).1 x.0)).meets-decides.1 x.2) refl,
      ),
      λ a b. (
        λ e. let x = apart-inv (verdict_check t (groups_check t)) m p (Verdicts.beside s n p) a b e in
            let y = few-sites t (groups_check t) x.0 in
            ((table-exact t).0 y.0, y.1, subst (λ (z : ℕ). Apart (named t) z b) x.2 (subst (λ (z : ℕ). Apart (named t) p z) x.3 ((table-verdicts t y.0).apart-decides x.1))),
        λ x. let D = table-verdicts t ((table-exact t).1 x.0) in
            let f : m ≡ false = is_false m (λ e. D.meets-decides.0 e a b x.2.first x.2.second x.2.no-common) in
            let o = one-pair (D.apart-decides f) x.2 in
            rw ((table-exact t).1 x.0, le-ltb 12 n x.1, f, o.0) (ap (λ (z : ℕ). Ok (Some (pair_of a z))) (ap (Verdicts.beside s n) (sym o.0) ∙ o.1)),
      ),
    )

-- intact sites
standing-inv : (c : Check) (s m : ℕ) → to_standing c s ≡ Ok m → (c ≡ Ok tt) × (s ≡ m)
standing-inv (Ok _) s m e = (refl, cc)
standing-inv (Err r) s m e = let z : ◌≡◌ {A = ℕ} 0 1 = cc in absurd (omega arith)

pub intact-as-published : IntactAsPublished
unfolding intact
intact-as-published t F m =
    let n = sites_of t in
    let i = Verdicts.intact (slices_in t) n F in (
      λ e. let x = standing-inv (verdict_check t (set_check t F)) i m e in
          let y = few-sites t (set_check t F) x.0 in
          let p = proper-of t F y.0 in
          let D = table-verdicts t (set-checked t F y.0) in
          (p, y.1, subst (IntactSites (named t) n F) x.1 (record { intact-in = D.intact-set F; befouled-rest = D.befouled-set F })),
      λ x. let D = table-verdicts t ((table-exact t).1 x.0.0) in
          let same : i ≡ m =
          ⊆-antisym (record { each = λ v h. (x.2.intact-in v).1 ((D.intact-set F v).0 h) }) (record { each = λ v h. (D.intact-set F v).1 ((x.2.intact-in v).0 h) }) in
          rw (of-proper t F x.0, le-ltb 12 n x.1, same) refl,
    )
