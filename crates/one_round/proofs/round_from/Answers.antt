-- `round_from` meets its contract: who is asked stays if it has a slice inside w, and goes if not.
use Prim.Native.Nat.{ℕ, ◌<◌}
use mathlib.Core.Path.{sym, ap, ◌∙◌, subst}
use native.Mathlib.Omega.{arith}
use lib.Bits.{bit_and}
use Rattle.ground.proofs.Logic.{clash}
use Rattle.masks.proofs.Laws.Subsets.{⊆-antisym, ⊆-trans, and-⊆-l}
use Rattle.masks.specs.Mask.{minus, all_below}
use Rattle.one_round.proofs.First.{out-next}
use Rattle.one_round.proofs.Places.{places-less, held-less}
use Rattle.one_round.proofs.Rounds.{is-site, round-part, in-round, fewer, SomeAsked, asked-none, asked-all, asked-member, asked-stays, asked-goes}
use Rattle.sets.proofs.Quorum.{round-slice}
use Rattle.sets.specs.Quorum.{round}
use Rattle.sets.specs.Inner.Rows.{rules_of}
use Rattle.one_round.proofs.round_from.Goals as goal
use Rattle.one_round.proofs.round_from.Goals.{then-not-stays_held, else-not-stays_held}

pub loop-rest-init : goal.loop-rest-init
loop-rest-init c =
    let a = c.args in let s = (rules_of a.table.now).inside in
    let W = bit_and a.w (all_below a.n) in
    let R = round s a.n a.w in
    let start : SomeAsked W R R W W = asked-none (round-part a.n a.w s) in
    (subst (λ (x : ℕ). SomeAsked W R R (bit_and a.w x) (bit_and a.w x)) (sym c.all_below.ensures) start, c.requires.places, c.requires.slices_held)

pub stays_held-requires : goal.stays_held-requires
stays_held-requires c =
    let a = c.args in let l = c.loop-rest in let v = c.first_member-v in let m = asked-member c.first_member-v.ensures.1 c.loop-rest.invariant.0 in record {
      rows = c.requires.rows;
      v_lt_n = is-site a.n a.w m;
      v = (and-⊆-l a.w (all_below a.n)).each c.first_member-v.result m;
      places = c.loop-rest.invariant.1;
      slices_held = c.loop-rest.invariant.2;
    }

pub single-requires : goal.single-requires
single-requires c =
    let few = c.requires.rows.few-sites in let l = is-site c.args.n c.args.w (asked-member c.first_member-v.ensures.1 c.loop-rest.invariant.0) in
    omega arith

pub loop-rest-smaller : goal.loop-rest-smaller
loop-rest-smaller c =
    let v = c.first_member-v in let rest = c.loop-rest.rest in subst (λ (x : ℕ). x < rest) (sym (out-next rest c.but_first-rest.ensures c.first_member-v.ensures.0)) (fewer c.first_member-v.ensures.1)

pub loop-rest-preserved : goal.loop-rest-preserved
loop-rest-preserved c =
    let a = c.args in let s = (rules_of a.table.now).inside in
    let l = c.loop-rest in let v = c.first_member-v in let x = c.stays_held.ensures in let e = out-next c.loop-rest.rest c.but_first-rest.ensures c.first_member-v.ensures.0 in (
      elim c.if-not-stays_held.branch [
        | then-not-stays_held k ↦
            asked-goes c.first_member-v.ensures.1 c.loop-rest.invariant.0 e (k.stay-is ∙ k.minus-stay.ensures ∙ ap (minus c.loop-rest.stay) k.single.ensures)
            (λ h. clash (round-slice s a.n h) (sym x.value ∙ k.if-not-stays_held.true))
        | else-not-stays_held k ↦
            asked-stays c.first_member-v.ensures.1 c.loop-rest.invariant.0 e k.stay-is (in-round a.n a.w s (asked-member c.first_member-v.ensures.1 c.loop-rest.invariant.0) (sym x.value ∙ k.if-not-stays_held.false))
      ],
      x.places_2,
      x.slices_held_2,
    )

pub returns : goal.returns
returns c =
    let a = c.args in let t = a.table.now in
    let l = c.loop-rest in let part = ⊆-trans c.loop-rest.invariant.0.part (and-⊆-l a.w (all_below a.n)) in record {
      value = ⊆-antisym (asked-all c.loop-rest-test.false c.loop-rest.invariant.0) c.loop-rest.invariant.0.keeps;
      places_2 = places-less t a.n part c.loop-rest.invariant.1;
      slices_held_2 =
          held-less t a.n part c.loop-rest.invariant.2;
    }
