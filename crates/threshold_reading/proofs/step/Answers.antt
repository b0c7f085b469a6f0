-- The word, and what it does.
use Rattle.threshold_nesting.proofs.Saneness.{told-after}
use Rattle.threshold_reading.proofs.Steps.{sane-eq, stepped}
use Rattle.threshold_reading.proofs.step.Goals as goal

pub enact-requires-clause-threshold_sane : goal.enact-requires-clause-threshold_sane
enact-requires-clause-threshold_sane c =
    sane-eq c.spoken-r.ensures (told-after c.args.k c.hold-h.result c.args.s c.requires.threshold_sane).sane

pub returns : goal.returns
returns c =
    let a = c.args in stepped a.k a.s _ _ a.t.now _ c.hold-h.ensures c.spoken-r.ensures c.enact.ensures
