-- `first_round` meets its contract: who is asked stays if it has a slice inside w, and then has its place, and goes if not.
use Prim.Native.Nat.{ℕ, ◌<◌}
use mathlib.Core.Bool.{Bool, cond}
use mathlib.Core.Logic.{⊎_elim}
use mathlib.Core.Path.{sym, ap, ◌∙◌, subst}
use lib.Bits.{bit_and}
use Rattle.ground.proofs.Logic.{clash, cases}
use Rattle.masks.proofs.Laws.Single.{∈-eq, ∈-single}
use Rattle.masks.proofs.Laws.Subsets.{⊆-refl, ⊆-antisym, ⊆-trans, and-⊆-l, minus-⊆, minus-not-in, not-in-zero}
use Rattle.masks.specs.Mask.{single, minus, all_below, ◌⊆◌}
use Rattle.one_round.proofs.First.{out-next}
use Rattle.one_round.proofs.Places.{place-less, asked-placed}
use Rattle.one_round.proofs.Rounds.{is-site, round-part, in-round, fewer, minus-none, SomeAsked, asked-none, asked-all, asked-member, asked-stays, asked-goes}
use Rattle.sets.proofs.Quorum.{round-slice}
use Rattle.sets.specs.Quorum.{round}
use Rattle.sets.specs.Inner.Rows.{rules_of}
use Rattle.one_round.proofs.first_round.Goals as goal

pub loop-rest-init : goal.loop-rest-init
loop-rest-init c =
    let a = c.args in let s = (rules_of a.table.now).inside in
    let W = bit_and a.w (all_below a.n) in
    let R = round s a.n a.w in
    let start : SomeAsked W R R W W = asked-none (round-part a.n a.w s) in
    (subst (λ (x : ℕ). SomeAsked W R R (bit_and a.w x) (bit_and a.w x)) (sym c.all_below.ensures) start, c.requires.places_len, λ u l h f. absurd (f h))

pub goes-requires : goal.goes-requires
goes-requires c =
    let l = c.loop-rest in record { rows = c.requires.rows; v_lt_n = is-site c.args.n c.args.w (asked-member c.first_member-v.ensures.1 c.loop-rest.invariant.0); places_len = c.loop-rest.invariant.1 }

pub loop-rest-smaller : goal.loop-rest-smaller
loop-rest-smaller c =
    let v = c.first_member-v in let rest = c.loop-rest.rest in subst (λ (x : ℕ). x < rest) (sym (out-next rest c.but_first-rest.ensures c.first_member-v.ensures.0)) (fewer c.first_member-v.ensures.1)

pub loop-rest-preserved : goal.loop-rest-preserved
loop-rest-preserved c =
    let a = c.args in let t = a.table.now in
    let s = (rules_of t).inside in
    let l = c.loop-rest in let v = c.first_member-v in let x = c.goes.ensures in let e = out-next c.loop-rest.rest c.but_first-rest.ensures c.first_member-v.ensures.0 in
    let out = c.minus-stay.ensures ∙ ap (minus c.loop-rest.stay) x.value in
    ⊎_elim
    (λ h. let q = out ∙ ap (λ (b : Bool). minus c.loop-rest.stay (cond b 0 (single c.first_member-v.result))) h ∙ minus-none c.loop-rest.stay in (
      asked-stays c.first_member-v.ensures.1 c.loop-rest.invariant.0 e q (in-round a.n a.w s (asked-member c.first_member-v.ensures.1 c.loop-rest.invariant.0) h),
      x.placed.many,
      asked-placed t c.loop-rest.invariant.2 x.placed e (subst (λ (y : ℕ). y ⊆ c.loop-rest.stay) (sym q) (⊆-refl c.loop-rest.stay)) (λ i. h),
    ))
    (λ h. let q = out ∙ ap (λ (b : Bool). minus c.loop-rest.stay (cond b 0 (single c.first_member-v.result))) h in (
      asked-goes c.first_member-v.ensures.1 c.loop-rest.invariant.0 e q (λ i. clash (round-slice s a.n i) h),
      x.placed.many,
      asked-placed t c.loop-rest.invariant.2 x.placed e (subst (λ (y : ℕ). y ⊆ c.loop-rest.stay) (sym q) (minus-⊆ c.loop-rest.stay (single c.first_member-v.result)))
          (λ i. absurd (minus-not-in c.loop-rest.stay (∈-eq q i) (∈-single c.first_member-v.result))),
    ))
    (cases (s c.first_member-v.result a.w))

pub returns : goal.returns
returns c =
    let a = c.args in let l = c.loop-rest in let part = ⊆-trans c.loop-rest.invariant.0.part (and-⊆-l a.w (all_below a.n)) in (
      ⊆-antisym (asked-all c.loop-rest-test.false c.loop-rest.invariant.0) c.loop-rest.invariant.0.keeps,
      record { many = c.loop-rest.invariant.1; at = λ u m h s. place-less a.table.now part (c.loop-rest.invariant.2 u m h (λ i. not-in-zero (∈-eq c.loop-rest-test.false i)) s) },
    )
