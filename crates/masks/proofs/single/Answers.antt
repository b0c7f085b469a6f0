use Rattle.masks.proofs.Laws.Members.{single-fits}
use Rattle.masks.proofs.single.Goals as goal

pub returns : goal.returns
returns c =
    single-fits c.args.v c.requires
