-- `write` meets its contract: one law for each way out.
use mathlib.Core.Path.{refl, sym, ◌∙◌}
use lib.ListN.{length}
use borrow.Author.Rules.{rules}
use Rattle.refusals.proofs.Passed.{passed_on}
use Rattle.image_write.specs.Write.{write_into}
use Rattle.image_write.proofs.WriteLaws.{write-length, write-room, write-sites}
use Rattle.table.proofs.Table.{odd-length, no-sites, too-many-sites, well-shaped}
use Rattle.image_write.proofs.write.Goals as goal

pub returns-then-table-ne0 : goal.returns-then-table-ne0
unfolding write_into
returns-then-table-ne0 c =
    let a = c.args in let t = a.table.now in record { answer = sym (write-length t (length a.room.now) (odd-length (length t) c.if-table-ne0.true)); memory = refl }

pub returns-then-n-eq0 : goal.returns-then-n-eq0
unfolding write_into
returns-then-n-eq0 c =
    let a = c.args in let t = a.table.now in record { answer = sym (write-length t (length a.room.now) (no-sites (length t) c.if-n-eq0.true)); memory = refl }

pub returns-then-n-gt64 : goal.returns-then-n-gt64
unfolding write_into
returns-then-n-gt64 c =
    let a = c.args in let t = a.table.now in record { answer = sym (write-length t (length a.room.now) (too-many-sites (length t) c.if-n-gt64.true)); memory = refl }

pub returns-then-room-n : goal.returns-then-room-n
unfolding write_into
returns-then-room-n c =
    let a = c.args in let t = a.table.now in
    let e = well-shaped (length t) c.if-table-ne0.false c.if-n-eq0.false c.if-n-gt64.false in record { answer = sym (write-room t (length a.room.now) e c.if-room-n.true); memory = refl }

pub returns-in_err-check_sites : goal.returns-in_err-check_sites
unfolding write_into
returns-in_err-check_sites c =
    let a = c.args in let t = a.table.now in
    let e = well-shaped (length t) c.if-table-ne0.false c.if-n-eq0.false c.if-n-gt64.false in
    rw (passed_on c.from_residual.result c.from_residual.ensures.1) (record { answer = sym (write-sites t (length a.room.now) e c.if-room-n.false _ (sym c.check_sites.ensures ∙ c.in_err-check_sites.was)); memory = refl })

pub store_blocks-requires : goal.store_blocks-requires
store_blocks-requires c =
    record { table_len = search rules; n_bound = search rules; n_in_bounds = search rules; table_value = sym c.check_sites.ensures ∙ c.in_ok-check_sites.was }

pub returns : goal.returns
unfolding write_into
returns c =
    let a = c.args in let t = a.table.now in
    let e = well-shaped (length t) c.if-table-ne0.false c.if-n-eq0.false c.if-n-gt64.false in record
    { answer = sym (write-sites t (length a.room.now) e c.if-room-n.false _ (sym c.check_sites.ensures ∙ c.in_ok-check_sites.was)); memory = c.store_blocks.ensures }
