-- `above` meets its contract: the sets of the sites below x have their words.
use Rattle.set_words.proofs.WordLaws.{above-one}
use Rattle.set_words.proofs.above.Goals as goal

pub loop-x-init : goal.loop-x-init
loop-x-init c =
    above-one c.args.list.now c.requires
