-- `strange_calls` meets its contract: after i turns those of the first i calls are counted.
-- call i is out of range
use Prim.Native.Nat.{ℕ, ◌+◌, ◌/◌}
use mathlib.Core.Bool.{Bool, true, false, cond}
use mir.Val.{bool_byte}
use mathlib.Core.List.{List}
use mathlib.Core.Path.{◌≡◌, refl, ap, ◌∙◌}
use native.Mathlib.Omega.{arith}
use lib.ListN.{length}
use Rattle.pass.specs.Calls.{call_at}
use Rattle.rules.specs.Rules.{out_of_range}
use Rattle.strange_calls.proofs.Counting.{one, how-many-more, how-many-at-most, one_at_most}
use Rattle.strange_calls.specs.Strange.{how_many, strange_calls}
use Rattle.strange_calls.proofs.strange_calls.Goals as goal

abbrev out : ℕ → List ℕ → ℕ → Bool
out n list i = out_of_range n (call_at list i)

byte : (b : Bool) → bool_byte b ≡ cond b 1 0
byte true = refl
byte false = refl

pub loop-i-init : goal.loop-i-init
unfolding how_many
loop-i-init c = refl

pub overflow_add-count : goal.overflow_add-count
overflow_add-count c =
    let few = how-many-at-most c.loop-i.i (out c.args.n c.args.list.now) in
    let small = one_at_most c.is_strange.result in omega (arith, c.from-count.ensures ∙ byte c.is_strange.result)

pub loop-i-preserved : goal.loop-i-preserved
loop-i-preserved c =
    ap (λ (x : ℕ). c.loop-i.count + x) (c.from-count.ensures ∙ byte c.is_strange.result ∙ ap one c.is_strange.ensures)
    ∙ how-many-more c.loop-i.i c.loop-i.count (out c.args.n c.args.list.now) c.loop-i.invariant

pub returns : goal.returns
unfolding strange_calls
returns c =
    let e : c.loop-i.i ≡ length c.args.list.now / 4 = omega arith in
    c.loop-i.invariant ∙ ap (λ (k : ℕ). how_many k (out c.args.n c.args.list.now)) e
