-- `leave` meets its contract: of the sets that contain b, b itself is taken out.
use Prim.Native.Nat.{ℕ, ◌/◌}
use mathlib.Core.Bool.{Bool, ◌&&◌, not}
use mathlib.Core.Path.{sym, ap, ◌∙◌, subst}
use lib.Dec.{eqb}
use lib.ListN.{get_or, set}
use Rattle.masks.specs.Mask.{within, minus}
use Rattle.set_words.specs.Inner.{Says, in_family}
use Rattle.apart_words.proofs.ApartLaws.{without-b}
use Rattle.apart_words.proofs.leave.Goals as goal

pub contain-requires : goal.contain-requires
contain-requires c =
    record { b_bound = c.requires.b_bound; above = c.requires.above; sets_len = c.requires.sets_len }

pub returns : goal.returns
returns c =
    let a = c.args in let k = c.contain in let words = c.contain.new.sets in let p : (ℕ → Bool) = λ u. in_family a.sets.now u && within a.b u in
    subst (λ (x : ℕ). Says (λ u. p u && not (eqb u a.b)) (set words (a.b / 64) x)) (sym (c.minus.ensures ∙ ap (minus (get_or words (a.b / 64) 0)) c.single.ensures))
    (without-b a.b p c.requires.b_bound c.contain.ensures)
