-- What is read is what is filed; the lines of a verdict and of the register are the paper's.
use Rattle.std.specs.Prelude.{Ok}
use Prim.Native.Nat.{ℕ, ◌≤◌, ◌<◌}
use mathlib.Core.Bool.{Bool, true, false, not, ◌&&◌, cond}
use mathlib.Core.List.{List, ◌++◌}
use mathlib.Core.Logic.{⊎_elim, ◌↔◌}
use mathlib.Core.Path.{◌≡◌, refl, sym, ap, ◌∙◌, subst}
use native.Mathlib.Omega.{arith}
use borrow.Author.Tests.{eqb-true, le-ltb}
use lib.Dec.{eqb}
use lib.ListN.{length, length-append}
use Rattle.check_text.proofs.Ways.{reads, loaded-sites, loaded}
use Rattle.check_text.specs.Table.{sites_on, table_on, image_check}
use Rattle.ground.proofs.Logic.{cases, and_l, and_r, and_i, clash, is_false, not_t}
use Rattle.image.proofs.Filed.{slices-filed}
use Rattle.lines.proofs.Lengths.{length-line}
use Rattle.lines.specs.Lines.{line}
use Rattle.mark.specs.Mark.{mark}
use Rattle.masks.proofs.Laws.AllBelow.{in_all}
use Rattle.masks.proofs.Laws.Subsets.{mem, minus-⊆, ∈-minus}
use Rattle.masks.specs.Mask.{has, all_below, minus, ◌∈◌, ◌⊆◌}
use Rattle.outcome.specs.Outcome.{end_lines}
use Rattle.pass.proofs.Lawful.{table-vote}
use Rattle.pass.specs.Calls.{calls}
use Rattle.register.specs.Register.{worth_of, site_line}
use Rattle.rules.proofs.WorkWays.{table-rests}
use Rattle.rules.specs.State.{accepts, confirmed, get}
use Rattle.rules.specs.Vote.{vote_of}
use Rattle.run.specs.Run.{the_run}
use Rattle.run_text.specs.Run.{run_text, ran_text}
use Rattle.sets.proofs.Groups.{few-in, table-exact}
use Rattle.sets.specs.Groups.{Groups, sites_of, fbqs_in, slices_in, Checked}
use Rattle.sets.specs.Paper.{Intact, Befouled}
use Rattle.sets.specs.Quorum.{largest, rounds}
use Rattle.text.specs.Text.{ascii, decimal}
use Rattle.verdict_text.specs.Verdict.{judged_text, verdict_text}
use Rattle.verdicts.proofs.Decides.{table-verdicts}
use Rattle.verdicts.specs.Verdicts.{meets, intact}
use Rattle.votes.proofs.AnyVote.{is-run}
use Rattle.published.proofs.Sets.{of-proper, largest-inside}
use Rattle.published.proofs.Voting.{of-state}
use Rattle.published.specs.Files.{VerdictOf, ReadAsFiled, VerdictAsPublished, RegisterAsPublished, WorthAsPublished}
use Rattle.published.specs.Voting.{Confirms}

-- the table that an image holds has as many sites as there are blocks, and is checked if the image is sound
pub image-sites : (image : List ℕ) → sites_of (table_on image) ≡ sites_on image
image-sites image = loaded-sites image (sites_on image)

pub image-checked : (image : List ℕ) → image_check image ≡ Ok tt → Checked (table_on image)
image-checked image e = loaded image (sites_on image) (reads image e)

pub read-as-filed : ReadAsFiled
read-as-filed image e =
    let c = image-checked image e in
    ((table-exact (table_on image)).0 c, image-sites image, λ v q l. slices-filed (sites_on image) image v l c q)

-- the line of a site
pub is-drill : (drill live v : ℕ) → v ≤ 63 → (mark v drill live ≡ 1) ↔ ((v ∈ drill) × (v ∈ live → ⊥))
unfolding mark
is-drill drill live v h = (
  λ e. both (rw (le-ltb 63 v h) at e),
  λ x. rw (le-ltb 63 v h, and_i x.0.holds (ap not (is_false (has live v) (λ z. x.1 (mem z))))) refl,
)
  where
    one : (b : Bool) → ◌≡◌ {A = ℕ} (cond b 1 0) 1 → b ≡ true
    one true e = refl
    one false e = absurd (omega (arith, e))

    both : ◌≡◌ {A = ℕ} (cond (has drill v && not (has live v)) 1 0) 1 → (v ∈ drill) × (v ∈ live → ⊥)
    both e =
        let z = one (has drill v && not (has live v)) e in
        (mem (and_l (has drill v) (not (has live v)) z), λ y. clash y.holds (not_t (has live v) (and_r (has drill v) (not (has live v)) z)))

pub drill-line : (n F whole drill live v : ℕ)
    → (site_line n F whole drill live v ≡ line (ascii "site ") (decimal v ++ (ascii " drill" ++ worth_of n F whole v))) ↔ (mark v drill live ≡ 1)
unfolding site_line
drill-line n F whole drill live v = (
  λ e. ⊎_elim (λ h. eqb-true (mark v drill live) 1 h) (λ h. absurd (other (rw h at e))) (cases (eqb (mark v drill live) 1)),
  λ h. rw h refl,
)
  where
    other : line (ascii "site ") (decimal v ++ (ascii " live" ++ worth_of n F whole v)) ≡ line (ascii "site ") (decimal v ++ (ascii " drill" ++ worth_of n F whole v)) → ⊥
    other e =
        let w = worth_of n F whole v in
        omega (
          arith,
          ap length e,
          length-line (ascii "site ") (decimal v ++ (ascii " live" ++ w)),
          length-line (ascii "site ") (decimal v ++ (ascii " drill" ++ w)),
          length-append (decimal v) (ascii " live" ++ w),
          length-append (decimal v) (ascii " drill" ++ w),
          length-append (ascii " live") w,
          length-append (ascii " drill") w,
        )

-- the two words of a correct site, of at most 12 sites
module _ (n F whole v : ℕ) (f : has F v ≡ false) (l : n ≤ 12) where
  worth-is : worth_of n F whole v ≡ cond (has whole v) (ascii " intact") (ascii " befouled")
  unfolding worth_of
  worth-is = rw (f, le-ltb 12 n l) refl

  differ : ascii " befouled" ≡ ascii " intact" → ⊥
  differ e = omega (arith, ap length e)

  pub intact-word : (worth_of n F whole v ≡ ascii " intact") ↔ (v ∈ whole)
  intact-word = (λ e. mem (word (has whole v) (sym worth-is ∙ e)), λ w. worth-is ∙ rw w.holds refl)
    where
      word : (b : Bool) → cond b (ascii " intact") (ascii " befouled") ≡ ascii " intact" → b ≡ true
      word true e = refl
      word false e = absurd (differ e)

  pub befouled-word : (worth_of n F whole v ≡ ascii " befouled") ↔ (has whole v ≡ false)
  befouled-word = (λ e. word (has whole v) (sym worth-is ∙ e), λ w. worth-is ∙ rw w refl)
    where
      word : (b : Bool) → cond b (ascii " intact") (ascii " befouled") ≡ ascii " befouled" → b ≡ false
      word true e = absurd (differ (sym e))
      word false e = refl

-- of a table that was read
module _ (t : Groups) (F : ℕ) (c : Checked t) where
  abbrev n : ℕ
  n = sites_of t

  drills : (list : List ℕ) (v : ℕ) → v < n → (v ∈ F → ⊥) →
      let s = (the_run t F list).state in
      let whole = intact (slices_in t) n F in
      (site_line n F whole (get s (confirmed n 0)) (get s (confirmed n 1)) v ≡ line (ascii "site ") (decimal v ++ (ascii " drill" ++ worth_of n F whole v)))
      ↔ (Confirms (fbqs_in t) v (get s (accepts 0 v)) × (Confirms (fbqs_in t) v (get s (accepts 1 v)) → ⊥))
  drills list v l f =
      let s = (the_run t F list).state in
      let P = of-state (table-rests t c) (is-run (vote_of t F) (table-vote t c F) (calls list)).1 in
      let a = (P v 0 l (omega arith) f).1 in
      let b = (P v 1 l (omega arith) f).1 in
      let d = is-drill (get s (confirmed n 0)) (get s (confirmed n 1)) v (omega (arith, few-in t c)) in
      let k = drill-line n F (intact (slices_in t) n F) (get s (confirmed n 0)) (get s (confirmed n 1)) v in (
        λ x. let y = d.0 (k.0 x) in (a.0 y.0, λ z. y.1 (b.1 z)),
        λ x. k.1 (d.1 (a.1 x.0, λ z. x.1 (b.0 z))),
      )

  worths : n ≤ 12 → (v : ℕ) → v < n → (v ∈ F → ⊥) →
      let whole = intact (slices_in t) n F in
      ((worth_of n F whole v ≡ ascii " intact") ↔ Intact (fbqs_in t) F v) × ((worth_of n F whole v ≡ ascii " befouled") ↔ Befouled (fbqs_in t) F v)
  worths l v h f =
      let D = table-verdicts t c in
      let whole = intact (slices_in t) n F in
      let g : has F v ≡ false = is_false (has F v) (λ z. f (mem z)) in
      let a = intact-word n F whole v g l in
      let b = befouled-word n F whole v g l in
      let i = D.intact-set F v in
      let o = D.befouled-set F v in (
        (λ e. i.0 (a.0 e), λ x. a.1 (i.1 x)),
        (λ e. o.0 (∈-minus (in_all {n = n} h) (λ z. clash z.holds (b.0 e))), λ x. b.1 (is_false (has whole v) (λ z. x.1 (i.0 (mem z))))),
      )

  judged : F ⊆ all_below n → n ≤ 12 → VerdictOf (fbqs_in t) n F (judged_text F t)
  unfolding judged_text
  judged sub l =
      let D = table-verdicts t c in
      let w = minus (all_below n) F in
      let s = (slices_in t).inside in
      record {
        meet = meets s n;
        whole = intact (slices_in t) n F;
        quorum = largest s n w;
        rounds = rounds s n w;
        lines = rw (of-proper t F ((table-exact t).0 c, sub), le-ltb 12 n l) refl;
        meets = D.meets-decides;
        intact = record { intact-in = D.intact-set F; befouled-rest = D.befouled-set F };
        outside = largest-inside t c w (minus-⊆ (all_below n) F);
      }

pub register-as-published : RegisterAsPublished
unfolding run_text ran_text
register-as-published F image list e c =
    let t = table_on image in
    let same : sites_of t ≡ sites_on image = image-sites image in
    let r = the_run t F list in (
      rw (e, c) (ap (λ (m : ℕ). end_lines F m (intact (slices_in t) m F) r.passes r.state list r.answers) same),
      subst (λ (m : ℕ). (v : ℕ) → v < m → (v ∈ F → ⊥) →
          (site_line m F (intact (slices_in t) m F) (get r.state (confirmed m 0)) (get r.state (confirmed m 1)) v
          ≡ line (ascii "site ") (decimal v ++ (ascii " drill" ++ worth_of m F (intact (slices_in t) m F) v)))
          ↔ (Confirms (fbqs_in t) v (get r.state (accepts 0 v)) × (Confirms (fbqs_in t) v (get r.state (accepts 1 v)) → ⊥))) same
          (drills t F (image-checked image e) list),
    )

pub worth-as-published : WorthAsPublished
worth-as-published F image e sub l =
    let t = table_on image in
    let same : sites_of t ≡ sites_on image = image-sites image in
    subst (λ (m : ℕ). m ≤ 12 → (v : ℕ) → v < m → (v ∈ F → ⊥) →
    ((worth_of m F (intact (slices_in t) m F) v ≡ ascii " intact") ↔ Intact (fbqs_in t) F v)
    × ((worth_of m F (intact (slices_in t) m F) v ≡ ascii " befouled") ↔ Befouled (fbqs_in t) F v)) same
    (worths t F (image-checked image e)) l

pub verdict-as-published : VerdictAsPublished
unfolding verdict_text
verdict-as-published F image e =
    let t = table_on image in
    let same : sites_of t ≡ sites_on image = image-sites image in
    rw e (subst (λ (m : ℕ). F ⊆ all_below m → m ≤ 12 → VerdictOf (fbqs_in t) m F (judged_text F t)) same (judged t F (image-checked image e)))
