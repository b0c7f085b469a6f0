-- `put_calls` meets its contract: after j turns the first j of the 500 bytes stand in the block.
use Prim.Native.Nat.{ℕ, ◌-◌, ◌≤◌}
use mathlib.Core.List.{List, ◌++◌}
use mathlib.Core.Path.{◌≡◌, refl, sym, ap, ap₂, subst, ◌∙◌}
use native.Mathlib.Omega.{arith}
use lib.ListN.{length, take, drop, length-set}
use lib.Seq.{paste, paste-zero, take_all}
use Rattle.journal_block.specs.Block.{call_bytes}
use Rattle.journal_calls.proofs.Copying.{turn, paste-head, paste-rest, paste-again, call-bytes-long, call-byte, filler-byte}
use Rattle.journal_calls.proofs.put_calls.Goals as goal

pub loop-j-init : goal.loop-j-init
loop-j-init c =
    (omega arith, refl, paste-zero c.args.b.now 4 (call_bytes c.args.calls.now))

pub loop-j-preserved : goal.loop-j-preserved
loop-j-preserved c =
    let calls = c.args.calls.now in let l = c.loop-j in (
      omega arith,
      simp length-set c.loop-j.invariant.1,
      turn c.args.b.now c.loop-j.b (call_bytes calls) 4 c.loop-j.j _ c.loop-j.invariant.2 (omega arith) (omega (arith, call-bytes-long calls c.requires.calls_len_bound))
          (call-byte calls c.requires.calls_len_bound c.loop-j.j c.loop-j-test.true),
    )

pub loop-j-2-init : goal.loop-j-2-init
loop-j-2-init c =
    let calls = c.args.calls.now in let i = c.loop-j.invariant in let e : c.loop-j.j ≡ length calls = omega (arith, i.0, c.loop-j-test.false) in (
      omega arith,
      omega (arith, i.0, c.requires.calls_len_bound),
      refl,
      subst (λ (k : ℕ). c.loop-j.b ≡ paste c.loop-j.b 4 (call_bytes calls) k) e
          (i.2 ∙ paste-again c.args.b.now (call_bytes calls) c.loop-j.j (omega (arith, c.requires.b_len)) (omega (arith, call-bytes-long calls c.requires.calls_len_bound, i.0, c.requires.calls_len_bound))
          ∙ ap (λ (x : List ℕ). paste x 4 (call_bytes calls) c.loop-j.j) (sym i.2)),
    )

pub loop-j-2-preserved : goal.loop-j-2-preserved
loop-j-2-preserved c =
    let calls = c.args.calls.now in let l = c.loop-j-2 in (
      omega arith,
      omega arith,
      simp length-set c.loop-j-2.invariant.2,
      turn c.loop-j.b c.loop-j-2.b (call_bytes calls) 4 c.loop-j-2.j 0 c.loop-j-2.invariant.3 (omega arith) (omega (arith, call-bytes-long calls c.requires.calls_len_bound))
          (filler-byte calls c.requires.calls_len_bound c.loop-j-2.j c.loop-j-2.invariant.0 c.loop-j-2-test.true),
    )

pub returns : goal.returns
returns c =
    let b = c.args.b.now in let calls = c.args.calls.now in let f = c.loop-j in let l = c.loop-j-2 in let e : c.loop-j-2.j ≡ 500 = omega arith in
    let long = call-bytes-long calls c.requires.calls_len_bound in
    let few : c.loop-j.j ≤ length (call_bytes calls) = omega (arith, long, c.loop-j.invariant.0, c.requires.calls_len_bound) in
    let four : 4 ≤ length b = omega (arith, c.requires.b_len) in
    c.loop-j-2.invariant.3
    ∙ ap (paste c.loop-j.b 4 (call_bytes calls)) e
    ∙ ap (λ (x : List ℕ). take 4 c.loop-j.b ++ x ++ drop 504 c.loop-j.b) (take_all 500 (call_bytes calls) (omega (arith, long)))
    ∙ ap (λ (x : List ℕ). take 4 x ++ call_bytes calls ++ drop 504 x) c.loop-j.invariant.2
    ∙ ap₂ (λ (x y : List ℕ). x ++ call_bytes calls ++ y) (paste-head b (call_bytes calls) c.loop-j.j four few)
    (paste-rest b (call_bytes calls) c.loop-j.j four few 504 (omega (arith, c.loop-j.invariant.0, c.requires.calls_len_bound)))
