-- `mask_typed` meets its contract: after i turns the first i bytes are digits, and the number is theirs.
use Prim.Native.Nat.{ℕ, ◌+◌, ◌*◌, ◌^◌, ◌≤◌, ◌<◌}
use mathlib.Core.Bool.{true}
use mathlib.Core.List.{List}
use mathlib.Core.Path.{◌≡◌, sym, ap, ◌∙◌}
use native.Mathlib.Omega.{arith}
use lib.ListN.{length, get_or}
use Rattle.std.proofs.Common.{Some}
use Rattle.std.specs.Char.{digit_value}
use Rattle.ground.specs.Search.{every}
use Rattle.ground.proofs.Every.{every-none, every_more}
use Rattle.text.specs.Text.{value}
use Rattle.text.proofs.Digits.{digit, worth-digit, digit-at, value_none, value-more, value-fits, wrong_length, no_digit, all_digits}
use Rattle.text.proofs.mask_typed.Goals as goal

pub returns-then-not-matches : goal.returns-then-not-matches
returns-then-not-matches c = sym (wrong_length c.args.word.now (λ h. omega arith))

pub loop-b-init : goal.loop-b-init
loop-b-init c = (sym (value_none _), every-none _)

pub returns-in_err-d : goal.returns-in_err-d
returns-in_err-d c =
    let w = c.args.word.now in let i = c.loop-b.b-index in
    c.from_residual.ensures
    ∙ sym (no_digit w i (omega arith) (omega arith) c.loop-b-test.true (rw c.from.ensures at c.in_err-d.ensures.value))

-- the digit is one of the mask's, and the mask with it is a 64-bit number
fits : (w : List ℕ) (i m d : ℕ) → i < length w → length w ≤ 16 → m ≡ value w i → every i (digit w) ≡ true → digit_value (get_or w i 0) < 16 → d ≡ digit_value (get_or w i 0)
    → 16 * m + d < 2 ^ 64
fits w i m d l n e a h v =
    rw (e, v, ← worth-digit (get_or w i 0) h, ← value-more w i) (value-fits w (i + 1) (omega arith) (every_more i (digit w) a (digit-at w i h)))

pub overflow_mul-m : goal.overflow_mul-m
overflow_mul-m c = record {
  fits =
      omega (
        arith,
        fits c.args.word.now c.loop-b.b-index c.loop-b.m c.in_ok-d.d c.loop-b-test.true (omega arith) c.loop-b.invariant.0 c.loop-b.invariant.1
            (rw c.from.ensures at c.in_ok-d.ensures.value.0) (rw c.from.ensures at c.in_ok-d.ensures.value.1),
      );
}

pub overflow_add-m : goal.overflow_add-m
overflow_add-m c = record {
  fits =
      omega (
        arith,
        fits c.args.word.now c.loop-b.b-index c.loop-b.m c.in_ok-d.d c.loop-b-test.true (omega arith) c.loop-b.invariant.0 c.loop-b.invariant.1
            (rw c.from.ensures at c.in_ok-d.ensures.value.0) (rw c.from.ensures at c.in_ok-d.ensures.value.1),
        c.from-in-loop-b.ensures,
      );
}

pub loop-b-preserved : goal.loop-b-preserved
loop-b-preserved c =
    let w = c.args.word.now in let i = c.loop-b.b-index in
    let v = c.in_ok-d.ensures.value in let h : digit_value (get_or w i 0) < 16 = rw c.from.ensures at v.0 in (
      rw (c.loop-b.invariant.0, c.from-in-loop-b.ensures, v.1, c.from.ensures, ← worth-digit (get_or w i 0) h) (sym (value-more w i)),
      every_more i (digit w) c.loop-b.invariant.1 (digit-at w i h),
    )

pub returns : goal.returns
returns c =
    let w = c.args.word.now in let e : c.loop-b.b-index ≡ length w = omega arith in
    ap Some (rw e at c.loop-b.invariant.0) ∙ sym (all_digits w (omega arith) (omega arith) (rw e at c.loop-b.invariant.1))
