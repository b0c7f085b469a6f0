-- `list_blocks` meets its contract: after i turns the room begins with the calls of the first i blocks.
use Prim.Native.Nat.{ℕ, ◌+◌, ◌-◌, ◌*◌}
use mathlib.Core.List.{List, ◌++◌}
use mathlib.Core.Path.{◌≡◌, refl, sym, ap, ◌∙◌}
use native.Mathlib.Omega.{arith}
use lib.ListN.{length, take, drop, length-append, length-drop, length-take}
use lib.Seq.{length-take-le}
use borrow.Author.Rules.{rules}
use borrow.Rule.Slice.PartMut.{same_len_mid}
use Rattle.ground.proofs.Pieces.{part_cut, cat-more}
use Rattle.ground.specs.Pieces.{cat, part}
use Rattle.journal_block.specs.Block.{calls_field, calls_in}
use Rattle.journal_blocks.specs.Journal.{list_of}
use Rattle.journal_blocks.proofs.Journal.{few, piece-length, pieces, front_length, room_for}
use Rattle.journal_blocks.proofs.Pieces.{fill-piece}
use Rattle.journal_blocks.proofs.list_blocks.Goals as goal

abbrev front : List ℕ → ℕ → List ℕ
front journal i = cat (λ j. calls_in (part 512 j journal)) i

count-read : (journal : List ℕ) (i n : ℕ) → n ≡ calls_field (take (512 * i + 512 - 512 * i) (drop (512 * i) journal)) → n ≡ calls_field (part 512 i journal)
count-read journal i n e = e ∙ ap calls_field (part_cut 512 i journal)

pub loop-i-init : goal.loop-i-init
unfolding cat
loop-i-init c =
    (refl, omega arith, refl, refl)

pub overflow_mul-end : goal.overflow_mul-end
overflow_mul-end c =
    let l = c.loop-i in let n = count-read c.args.journal.now c.loop-i.i _ c.calls_in.ensures in
    omega (arith, n, few c.args.journal.now c.args.k c.requires.journal_len c.requires.journal_value c.loop-i.i c.loop-i-test.true)

pub overflow_add-end : goal.overflow_add-end
overflow_add-end c =
    let l = c.loop-i in let j = c.args.journal.now in let h = c.loop-i-test.true in let n = count-read j c.loop-i.i _ c.calls_in.ensures in
    omega (arith, n, few j c.args.k c.requires.journal_len c.requires.journal_value c.loop-i.i h, front_length j c.args.k c.requires.journal_len c.requires.journal_value c.loop-i.i h, c.loop-i.invariant.0, c.requires.k_bound)

pub slice_bounds-copy_calls-end : goal.slice_bounds-copy_calls-end
slice_bounds-copy_calls-end c =
    let l = c.loop-i in let n = count-read c.args.journal.now c.loop-i.i _ c.calls_in.ensures in
    omega (arith, n, room_for c.args.journal.now c.args.k c.requires.journal_len c.requires.journal_value c.loop-i.i c.loop-i-test.true, c.loop-i.invariant.0, c.loop-i.invariant.2, c.requires.journal_in_bounds)

pub copy_calls-requires : goal.copy_calls-requires
copy_calls-requires c =
    let l = c.loop-i in let j = c.args.journal.now in let n = count-read j c.loop-i.i _ c.calls_in.ensures in
    let size = c.loop-i.at + 4 * c.calls_in.result - c.loop-i.at in record {
      b_len = search rules;
      room_len_bound = omega
          (arith, n, few j c.args.k c.requires.journal_len c.requires.journal_value c.loop-i.i c.loop-i-test.true, length-take size (drop c.loop-i.at c.loop-i.room));
    }

pub loop-i-preserved : goal.loop-i-preserved
loop-i-preserved c =
    let l = c.loop-i in let h = c.loop-i-test.true in let x = c.copy_calls in let j = c.args.journal.now in let k = c.args.k in let f : ℕ → List ℕ = λ i. calls_in (part 512 i j) in
    let m = c.calls_in.result in let n : m ≡ calls_field (part 512 c.loop-i.i j) = count-read j c.loop-i.i _ c.calls_in.ensures in
    let p : length (f c.loop-i.i) ≡ 4 * m = piece-length j k c.requires.journal_len c.requires.journal_value c.loop-i.i h ∙ ap (λ (y : ℕ). 4 * y) (sym n) in
    let room = room_for j k c.requires.journal_len c.requires.journal_value c.loop-i.i h in
    let size = c.loop-i.at + 4 * m - c.loop-i.at in
    let long : length (take size (drop c.loop-i.at c.loop-i.room)) ≡ 4 * m =
    length-take-le size (drop c.loop-i.at c.loop-i.room) (omega (arith, length-drop c.loop-i.at c.loop-i.room, room, n, c.loop-i.invariant.0, c.loop-i.invariant.2, c.requires.journal_in_bounds)) ∙ omega arith in (
      omega (arith, c.loop-i.invariant.0, p, ap length (cat-more f c.loop-i.i) ∙ length-append (cat f c.loop-i.i) (f c.loop-i.i)),
      omega (arith, c.loop-i.invariant.0, n, room),
      same_len_mid {X = ℕ} c.loop-i.at size c.loop-i.room c.copy_calls.new.room c.copy_calls.auto.room ∙ c.loop-i.invariant.2,
      fill-piece f c.loop-i.i c.loop-i.at (c.loop-i.at + 4 * m) c.loop-i.room c.args.room.now _ c.loop-i.invariant.0 (ap (λ (y : ℕ). c.loop-i.at + y) (sym p)) c.loop-i.invariant.3
          (c.copy_calls.ensures ∙ ap (λ (y : ℕ). take y (drop 4 (take (512 * c.loop-i.i + 512 - 512 * c.loop-i.i) (drop (512 * c.loop-i.i) j)))) (long ∙ ap (λ (y : ℕ). 4 * y) n)
          ∙ ap (λ (y : List ℕ). take (4 * calls_field (part 512 c.loop-i.i j)) (drop 4 y)) (part_cut 512 c.loop-i.i j)),
    )

pub returns : goal.returns
returns c =
    let l = c.loop-i in let j = c.args.journal.now in let e : c.loop-i.i ≡ c.args.k = omega arith in
    let q : front j c.loop-i.i ≡ list_of j = ap (front j) e ∙ sym (pieces j c.args.k c.requires.journal_len c.requires.journal_value) in
    c.loop-i.invariant.3
    ∙ ap (λ (x : ℕ). front j c.loop-i.i ++ drop x c.args.room.now) c.loop-i.invariant.0
    ∙ ap (λ (x : List ℕ). x ++ drop (length x) c.args.room.now) q
