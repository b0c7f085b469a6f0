-- `put` meets its contract: the part of the room that was written is the text.
use mathlib.Core.Path.{refl, ◌∙◌}
use native.Mathlib.Omega.{arith}
use Rattle.std.proofs.Common.{rules}
use Rattle.std.proofs.lemmas.Slice.{put_mid-paste}
use Rattle.text.proofs.Written.{written-paste}
use Rattle.text.proofs.put.Goals as goal

pub returns : goal.returns
returns c = record {
  place = refl;
  memory =
      put_mid-paste c.args.at _ c.args.room.now _ c.args.words.now _ c.copy_from_slice.ensures.after (omega arith) refl
      ∙ written-paste c.args.room.now c.args.at c.args.words.now;
  inside = search rules;
}
