-- `sweep_through` meets its contract: who is asked stays if it has a slice inside what is left; else it is in no quorum inside w, and goes.
use Prim.Native.Nat.{ℕ, ◌<◌}
use mathlib.Core.Path.{sym, ap, ◌∙◌, subst}
use native.Mathlib.Omega.{arith}
use lib.Bits.{bit_and}
use Rattle.masks.proofs.Laws.Subsets.{⊆-trans, ⊆-refl, minus-⊆, and-⊆-l}
use Rattle.masks.specs.Mask.{single, minus, all_below, ◌⊆◌}
use Rattle.one_round.specs.Inner.Places.{Places}
use Rattle.one_round.proofs.First.{out-next}
use Rattle.one_round.proofs.Places.{places-less}
use Rattle.one_round.proofs.Rounds.{is-site, round-part, in-round, fewer, SomeAsked, asked-none, asked-all, asked-member, asked-stays, asked-goes}
use Rattle.one_round.proofs.Sweeps.{out-of-largest}
use Rattle.sets.proofs.Lawful.{inside-grows}
use Rattle.sets.proofs.Quorum.{largest-⊆-round}
use Rattle.sets.specs.Quorum.{round, largest}
use Rattle.sets.proofs.Rows.{rows-lawful}
use Rattle.sets.specs.Inner.Rows.{rules_of}
use Rattle.one_round.proofs.sweep_through.Goals as goal
use Rattle.one_round.proofs.sweep_through.Goals.{then-not-stays, else-not-stays}

pub loop-rest-init : goal.loop-rest-init
loop-rest-init c =
    let a = c.args in let s = (rules_of a.table.now).inside in
    let W = bit_and a.w (all_below a.n) in
    let start : SomeAsked W (largest s a.n a.w) (round s a.n a.w) W W = asked-none (⊆-trans (largest-⊆-round s a.n a.w) (round-part a.n a.w s)) in
    subst (λ (x : ℕ). SomeAsked W (largest s a.n a.w) (round s a.n a.w) (bit_and a.w x) (bit_and a.w x) × Places a.table.now a.n (bit_and a.w x) a.places.now) (sym c.all_below.ensures)
    (start, places-less a.table.now a.n (and-⊆-l a.w (all_below a.n)) c.requires.places)

pub stays-requires : goal.stays-requires
stays-requires c =
    let l = c.loop-rest in let v = c.first_member-v in record {
      rows = c.requires.rows;
      v_lt_n = is-site c.args.n c.args.w (asked-member c.first_member-v.ensures.1 c.loop-rest.invariant.0);
      v = c.loop-rest.invariant.0.to-ask.each c.first_member-v.result
          c.first_member-v.ensures.1;
      places = c.loop-rest.invariant.1;
    }

pub single-requires : goal.single-requires
single-requires c =
    let few = c.requires.rows.few-sites in let l = is-site c.args.n c.args.w (asked-member c.first_member-v.ensures.1 c.loop-rest.invariant.0) in
    omega arith

pub loop-rest-smaller : goal.loop-rest-smaller
loop-rest-smaller c =
    let v = c.first_member-v in subst (λ (x : ℕ). x < c.loop-rest.rest) (sym (out-next c.loop-rest.rest c.but_first-rest.ensures c.first_member-v.ensures.0)) (fewer c.first_member-v.ensures.1)

pub loop-rest-preserved : goal.loop-rest-preserved
loop-rest-preserved c =
    let a = c.args in let t = a.table.now in
    let s = (rules_of t).inside in
    let rule = inside-grows (rows-lawful c.requires.rows) in
    let l = c.loop-rest in let v = c.first_member-v in let x = c.stays in let e = out-next c.loop-rest.rest c.but_first-rest.ensures c.first_member-v.ensures.0 in
    let whole = asked-member c.first_member-v.ensures.1 c.loop-rest.invariant.0 in
    elim c.if-not-stays.branch [
      | then-not-stays k ↦
          let q = k.left-is ∙ k.minus-left.ensures ∙ ap (minus c.loop-rest.left) k.single.ensures in (
            asked-goes c.first_member-v.ensures.1 c.loop-rest.invariant.0 e q (out-of-largest a.n rule a.w c.loop-rest.invariant.0.keeps (sym c.stays.ensures.value ∙ k.if-not-stays.true)),
            places-less t a.n (subst (λ (y : ℕ). y ⊆ c.loop-rest.left) (sym q) (minus-⊆ c.loop-rest.left (single c.first_member-v.result))) c.stays.ensures.places_2,
          )
      | else-not-stays k ↦ (
        asked-stays c.first_member-v.ensures.1 c.loop-rest.invariant.0 e k.left-is
            (in-round a.n a.w s whole
            (rule.grows c.first_member-v.result c.loop-rest.left a.w (⊆-trans c.loop-rest.invariant.0.part (and-⊆-l a.w (all_below a.n))) (sym c.stays.ensures.value ∙ k.if-not-stays.false))),
        places-less t a.n (subst (λ (y : ℕ). y ⊆ c.loop-rest.left) (sym k.left-is) (⊆-refl c.loop-rest.left)) c.stays.ensures.places_2,
      )
    ]

pub returns : goal.returns
returns c =
    let l = c.loop-rest in (record { keeps = c.loop-rest.invariant.0.keeps; drops = asked-all c.loop-rest-test.false c.loop-rest.invariant.0 }, c.loop-rest.invariant.1)
