-- A vote that is heard in vain: the receiver hears it, and the rules change nothing else.
use Prim.Native.Nat.{ℕ, ◌<◌}
use mathlib.Core.Bool.{true, false}
use mathlib.Core.List.{List}
use mathlib.Core.Logic.{⊎_elim}
use mathlib.Core.Path.{◌≡◌, sym, ap, ap₂, ◌∙◌, subst}
use native.Mathlib.Omega.{arith}
use lib.Bits.{bit_or}
use lib.Dec.{eqb}
use borrow.Author.Tests.{eqb-true}
use Rattle.asking.proofs.KnownLaws.{hopeless-none}
use Rattle.asking.specs.Inner.{Known, hopeless}
use Rattle.ground.proofs.Logic.{and_l, and_r, clash}
use Rattle.masks.proofs.Laws.Subsets.{mem, ⊆-trans, or-⊆, or-⊆-l, or-⊆-r, minus-⊆}
use Rattle.masks.specs.Mask.{single, others, ◌∈◌, ◌⊆◌}
use Rattle.rules.proofs.Answer.{Takes}
use Rattle.rules.proofs.Heard.{hears-vote}
use Rattle.rules.proofs.Receiver.{accepts_now, now_accepts-still, now_confirms-still}
use Rattle.rules.proofs.RuleLaws.{by-blocked, accepting-either}
use Rattle.rules.proofs.State.{get-add, get-add-other}
use Rattle.rules.specs.Rules.{accepting, confirming, hears, taken, now_accepts, now_confirms}
use Rattle.rules.specs.Sound.{Sound}
use Rattle.rules.specs.State.{votes, accepts, accepted, confirmed, get, add}
use Rattle.sets.specs.Paper.{Fbqs}
use Rattle.sets.specs.Promises.{Questions, Promises}
use Rattle.vain.specs.Inner.{vain}
use Rattle.votes.specs.Call.{Call}

module _ {Σ : ℕ → Fbqs} {Q : Questions} (P : Promises Σ Q) {n F : ℕ} {known : List ℕ} (Known-so : Known Q known) {c : Call} {s : List ℕ} (S : Sound Q n F s) (K : Takes n F c s) (t : vain known c s ≡ true) where
  abbrev v : ℕ
  v = c.to

  abbrev side : ℕ
  side = c.side

  abbrev heard_votes : ℕ
  heard_votes = get s (votes side v)

  abbrev heard_accepts : ℕ
  heard_accepts = get s (accepts side v)

  abbrev all : ℕ
  all = bit_or (bit_or heard_votes heard_accepts) (single c.from)

  hv : v < n
  hv = K.range.to_in

  hs : side < 2
  hs = K.range.side-in

  kind-vote : c.kind ≡ 1
  unfolding vain
  kind-vote = eqb-true c.kind 1 (and_l (eqb c.kind 1) (hopeless known v all) t)

  no-quorum : Q.in_quorum v all ≡ false
  unfolding vain
  no-quorum = hopeless-none P Known-so v all (and_r (eqb c.kind 1) (hopeless known v all) t)

  abbrev after : List ℕ
  after = add (votes side v) (single c.from) s

  heard-so : hears n c s ≡ after
  heard-so = hears-vote n c s kind-vote

  votes-after : get after (votes side v) ≡ bit_or heard_votes (single c.from)
  votes-after = get-add (votes side v) (single c.from) s (omega (arith, S.long, hv, hs))

  accepts-after : get after (accepts side v) ≡ heard_accepts
  accepts-after = get-add-other (votes side v) (single c.from) s (λ z. omega (arith, z))

  accepted-after : get after (accepted n side) ≡ get s (accepted n side)
  accepted-after = get-add-other (votes side v) (single c.from) s (λ z. omega (arith, z, hv, hs))

  confirmed-after : get after (confirmed n side) ≡ get s (confirmed n side)
  confirmed-after = get-add-other (votes side v) (single c.from) s (λ z. omega (arith, z, hv, hs))

  -- the receiver accepts by blocking alone, and then had accepted before
  small : bit_or (bit_or heard_votes (single c.from)) (others heard_accepts v) ⊆ all
  small =
      or-⊆ (or-⊆ (⊆-trans (or-⊆-l heard_votes heard_accepts) (or-⊆-l (bit_or heard_votes heard_accepts) (single c.from))) (or-⊆-r (bit_or heard_votes heard_accepts) (single c.from)))
      (⊆-trans (minus-⊆ heard_accepts (single v)) (⊆-trans (or-⊆-r heard_votes heard_accepts) (or-⊆-l (bit_or heard_votes heard_accepts) (single c.from))))

  accepted-then : accepting Q v (bit_or heard_votes (single c.from)) heard_accepts ≡ true → v ∈ get s (accepted n side)
  accepted-then e =
      ⊎_elim (λ q. absurd (clash (P.quorum-grows v (bit_or (bit_or heard_votes (single c.from)) (others heard_accepts v)) all small q) no-quorum))
      (λ b. mem (S.accepted-by-rule v side hv hs K.correct ∙ by-blocked Q v heard_votes heard_accepts b))
      (accepting-either Q v (bit_or heard_votes (single c.from)) heard_accepts e)

  ruled : accepts_now Q v side after ≡ true → v ∈ get s (accepted n side)
  ruled e = accepted-then (sym (ap₂ (accepting Q v) votes-after accepts-after) ∙ e)

  still-accepts : now_accepts Q n v side after ≡ after
  still-accepts =
      now_accepts-still Q n v side after (λ e. subst (λ (x : ℕ). v ∈ x) (sym accepted-after) (ruled e))
      (λ e. subst (λ (x : ℕ). v ∈ x) (sym accepts-after) (mem (S.own-accept v side hv hs K.correct ∙ (ruled e).holds)))

  still-confirms : now_confirms Q n v side after ≡ after
  still-confirms =
      now_confirms-still Q n v side after
      (λ e. subst (λ (x : ℕ). v ∈ x) (sym confirmed-after) (mem (S.confirmed-by-rule v side hv hs K.correct ∙ sym (ap (confirming Q v) accepts-after) ∙ e)))

  pub vain-taken : hears n c s ≡ taken Q n c s
  unfolding taken
  vain-taken = sym (ap (λ (x : List ℕ). now_confirms Q n v side (now_accepts Q n v side x)) heard-so ∙ ap (now_confirms Q n v side) still-accepts ∙ still-confirms ∙ sym heard-so)
