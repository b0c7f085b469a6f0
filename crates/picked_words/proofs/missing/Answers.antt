-- `missing` meets its contract: the sites below x are asked.
use Rattle.picked_words.proofs.PickedLaws.{missing-none}
use Rattle.picked_words.proofs.missing.Goals as goal

pub loop-x-init : goal.loop-x-init
loop-x-init c =
    missing-none c.args.m
