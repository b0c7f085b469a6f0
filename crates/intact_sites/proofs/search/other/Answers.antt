-- `other` meets its contract: of the quorums those without a site of p, and of them the last.
use Prim.Native.Nat.{ℕ}
use mathlib.Core.Path.{sym, ◌∙◌, subst}
use Rattle.sets.specs.Inner.Rows.{rules_of}
use Rattle.known_pairs.specs.Inner.{Pair}
use Rattle.intact_sites.proofs.IntactLaws.{second-quorum}
use Rattle.intact_sites.proofs.search.other.Goals as goal

pub lack-requires : goal.lack-requires
lack-requires c =
    let p = c.requires in record { m_bound = p.p_bound; sets_len = p.says.long }

pub returns : goal.returns
returns c =
    let a = c.args in let r = rules_of a.table.now in
    let e = c.minus.ensures in λ ne.
    subst (λ (x : ℕ). Pair r a.n a.gone a.p x) (sym c.minus.ensures)
    (second-quorum r a.n a.gone a.p c.requires.p_value c.requires.says c.lack.ensures c.last_below.ensures (λ z. ne (c.minus.ensures ∙ z)))
