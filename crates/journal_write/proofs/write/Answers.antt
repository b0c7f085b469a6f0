-- `write` meets its contract: one law for each way out.
use mathlib.Core.Path.{refl, sym}
use lib.ListN.{length}
use Rattle.journal_write.specs.Keep.{keep_into}
use Rattle.journal_write.proofs.Keep.{odd-list, long-list, no_room, written}
use Rattle.journal_write.proofs.write.Goals as goal
use Rattle.journal_write.proofs.write.Goals.{then-list-ne0-via-then-list-ne0, then-list-ne0-via-else-list-ne0+then-list-gt16384}

pub returns-then-list-ne0 : goal.returns-then-list-ne0
unfolding keep_into
returns-then-list-ne0 c =
    let l = c.args.list.now in let room = length c.args.room.now in elim c.then-list-ne0.branch [
      | then-list-ne0-via-then-list-ne0 w ↦ record { answer = sym (odd-list l room w.if-list-ne0.true); memory = refl }
      | then-list-ne0-via-else-list-ne0+then-list-gt16384 w ↦ record { answer = sym (long-list l room w.if-list-gt16384.true); memory = refl }
    ]

pub returns-then-room-k : goal.returns-then-room-k
unfolding keep_into
returns-then-room-k c =
    let a = c.args in record { answer = sym (no_room a.list.now (length a.room.now) c.if-list-ne0.false c.if-list-gt16384.false c.if-room-k.true); memory = refl }

pub returns : goal.returns
unfolding keep_into
returns c =
    let a = c.args in record { answer = sym (written a.list.now (length a.room.now) c.if-list-ne0.false c.if-list-gt16384.false c.if-room-k.false); memory = c.store_blocks.ensures }
