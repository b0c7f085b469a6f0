-- `check_sites` meets its contract: the sites before v are sound, and a refusal is the first.
use Rattle.refusals.proofs.Passed.{passed_on}
use Rattle.std.specs.Prelude.{Ok}
use Prim.Native.Nat.{ℕ}
use mathlib.Core.List.{List}
use mathlib.Core.Path.{◌≡◌, refl, sym, ap, subst, ◌∙◌}
use native.Mathlib.Omega.{arith}
use borrow.Author.Rules.{rules}
use Rattle.ground.proofs.Pieces.{part_cut}
use Rattle.refusals.proofs.First.{first_more, first-stop}
use Rattle.refusals.specs.First.{first}
use Rattle.rows.specs.Site.{site_check}
use Rattle.table.specs.Table.{site_of, sites_check}
use Rattle.table.proofs.check_sites.Goals as goal

pub loop-v-init : goal.loop-v-init
unfolding first
loop-v-init c =
    (search rules, refl)

pub returns-in_err-check_site : goal.returns-in_err-check_site
unfolding sites_check
returns-in_err-check_site c =
    let a = c.args in let t = a.table.now in
    let l = c.loop-v in let e = c.in_err-check_site.was in passed_on c.from_residual.result c.from_residual.ensures.1 ∙ (sym (first-stop (λ w. site_check a.n w w (site_of t w)) a.n c.loop-v.v _ (omega arith) c.loop-v.invariant.1
    (ap (λ (m : List ℕ). site_check a.n c.loop-v.v c.loop-v.v m) (sym (part_cut 63 c.loop-v.v t)) ∙ sym c.check_site.ensures ∙ e)))

pub loop-v-preserved : goal.loop-v-preserved
loop-v-preserved c =
    let a = c.args in let l = c.loop-v in (
      search rules,
      first_more _ _ c.loop-v.invariant.1
          (ap (λ (m : List ℕ). site_check a.n c.loop-v.v c.loop-v.v m) (sym (part_cut 63 c.loop-v.v a.table.now)) ∙ sym c.check_site.ensures ∙ c.in_ok-check_site.was),
    )

pub returns : goal.returns
unfolding sites_check
returns c =
    let a = c.args in let l = c.loop-v in let e : c.loop-v.v ≡ a.n = omega arith in
    sym (subst (λ (k : ℕ). first (λ w. site_check a.n w w (site_of a.table.now w)) k ≡ Ok tt) e c.loop-v.invariant.1)
