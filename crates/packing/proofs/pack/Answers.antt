-- At most 4,096 calls are packed, and no more than there are; one call more is what `pack_to` says of one more.
use Rattle.std.proofs.Common.{ℕ, ◌≤◌, length, arith, sym, add-one}
use Rattle.packing.specs.Inner.{packable}
use Rattle.packing.proofs.Packing.{pack_to-zero, pack_to-suc, packable-le, packable-none, packable-all}
use Rattle.packing.proofs.pack.Goals as goal

packable-room : (n : ℕ) → packable n ≤ 4096
packable-room n = grind (arith, packable-none n, packable-all n)

pub loop-i-init : goal.loop-i-init
loop-i-init c = sym (pack_to-zero _ _)

pub offset_bounds-calls-i : goal.offset_bounds-calls-i
offset_bounds-calls-i c =
    let e = packable-room (length c.args.calls.now) in omega arith

pub bounds-calls-i : goal.bounds-calls-i
bounds-calls-i c =
    let e = packable-le (length c.args.calls.now) in omega arith

pub loop-i-preserved : goal.loop-i-preserved
loop-i-preserved c =
    let e = pack_to-suc c.args.room.now c.args.calls.now c.loop-i.i in rw add-one cc
