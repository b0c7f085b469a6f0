-- The reader of a journal that the check takes gives its list.
use Rattle.journal.proofs.Checking.{whole}
use Rattle.journal_next.proofs.Reading.{gives-list}
use Rattle.journal_next.specs.Theorems.{ReaderGives}

pub reader-gives : ReaderGives
reader-gives j blocks calls h = let w = whole j blocks calls h in gives-list j blocks w.long w.sound
