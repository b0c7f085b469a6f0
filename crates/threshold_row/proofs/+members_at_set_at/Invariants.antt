-- The sets that remain in preorder fall: a set asks for members behind it, and members ask for sets of which the next stands behind the one before.
use Prim.Native.Nat.{◌+◌, ◌-◌, ◌*◌}
use Rattle.threshold_row.proofs.+members_at_set_at.Given as goal

abbrev pub decreases-members_at : goal.decreases-members_at
decreases-members_at l = 2 * (l.many - l.i) + 1

abbrev pub decreases-set_at : goal.decreases-set_at
decreases-set_at l = 2 * (l.many - l.i)
