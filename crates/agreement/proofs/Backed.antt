-- Why the union's promise holds, after theorem 5 of 004. Fix a dispensable set B that contains the faulty sites and leaves a site out. Where a site
-- outside B has accepted a side, a quorum of the table with B deleted has voted it: the first such accept is by a quorum of voters, for B blocks
-- nobody outside it. Two such quorums share a site, and no site votes both sides.
use Prim.Native.Nat.{ℕ, ◌<◌}
use mathlib.Core.Bool.{true}
use mathlib.Core.List.{List}
use mathlib.Core.Logic.{◌⊎◌, ⊎_elim}
use mathlib.Core.Path.{◌≡◌, refl, sym, subst}
use native.Mathlib.Omega.{arith}
use lib.Bits.{bit_or}
use Rattle.agreement.specs.Agreement.{Premises, Agreed}
use Rattle.ground.proofs.Numbers.{same?}
use Rattle.masks.proofs.Laws.Apart.{common-of}
use Rattle.masks.proofs.Laws.Single.{∈-or, ∈-eq, minus-grows}
use Rattle.masks.proofs.Laws.Subsets.{not-in-zero, ⊆-trans, minus-⊆, ∈-minus, minus-not-in, member_of}
use Rattle.masks.specs.Mask.{single, others, minus, ◌∈◌, ◌⊆◌}
use Rattle.rules.proofs.Answer.{Takes, step-cases}
use Rattle.rules.proofs.Kept.{taken-sound}
use Rattle.rules.proofs.Receiver.{accepts_now}
use Rattle.rules.proofs.RuleLaws.{accepting-either}
use Rattle.rules.proofs.SoundLaws.{fresh-sound, confirmed-rule}
use Rattle.rules.proofs.State.{fresh-none}
use Rattle.rules.proofs.Taken.{taken-adds, taken-accepted, heard-voted, heard-accepted}
use Rattle.rules.specs.Rules.{confirming, hears, taken}
use Rattle.rules.specs.Sound.{Sound}
use Rattle.rules.specs.State.{votes, accepts, voted, accepted, confirmed, width, get, Below}
use Rattle.rules.specs.Theorems.{Rests}
use Rattle.rules.specs.Vote.{vote}
use Rattle.sets.specs.Paper.{Fbqs, Quorum, delete}
use Rattle.sets.specs.Promises.{Questions}
use Rattle.votes.specs.Call.{Call}
use Rattle.votes.specs.Vote.{fresh, step}

module _ {S : Fbqs} {Q : Questions} {n : ℕ} (R : Rests (λ v. S) Q n) (F : ℕ) (P : Premises S F) where
  abbrev B : ℕ
  B = P.intact.set

  -- the sites outside B form a quorum
  whole : Quorum S (minus S.sites B)
  whole =
      ⊎_elim (λ q. q) (λ e. absurd (P.intact.outside (subst (λ (m : ℕ). P.site ∈ m) (sym e) P.intact.site)))
      P.intact.dispensable.availability

  correct : {v : ℕ} → (v ∈ B → ⊥) → v ∈ F → ⊥
  correct {v} nb f = nb (P.intact.contains.each v f)

  -- a quorum without B is one of the table with B deleted
  without : (u v : ℕ) → Quorum S u → v ∈ u → (v ∈ B → ⊥) → Quorum (delete S B) (minus u B)
  without u v q h nb = record {
    of-sites = minus-grows B q.of-sites;
    non-empty = λ e. not-in-zero (∈-eq e (∈-minus h nb));
    contains = λ w k.
        let x = q.contains w ((minus-⊆ u B).each w k) in
        (minus x.0 B, (x.0, x.1, refl), minus-grows B x.2);
  }

  -- a quorum of the table with B deleted, all of whose members have voted the side
  pub record Voters (side : ℕ) (s : List ℕ) : Type 0 where
    pub set : ℕ
    pub quorum : Quorum (delete S B) set
    pub voting : set ⊆ get s (voted n side)

  -- where a site outside B has accepted a side, there is one
  abbrev pub Backed : List ℕ → Type 0
  Backed s = (side v : ℕ) → side < 2 → v ∈ get s (accepted n side) → (v ∈ B → ⊥) → Voters side s

  voters-later : {side : ℕ} {s t : List ℕ} → Below s t → Voters side s → Voters side t
  voters-later {side} b x = record { set = x.set; quorum = x.quorum; voting = ⊆-trans x.voting (b.each (voted n side)) }

  -- a site outside B that comes to accept: by a quorum of voters, or others outside B had accepted before
  module _ {c : Call} {s : List ℕ} (T : Sound Q n F s) (K : Takes n F c s) (b : Backed s) (nb : c.to ∈ B → ⊥) where
    abbrev heard_votes : ℕ
    heard_votes = get (hears n c s) (votes c.side c.to)

    abbrev heard_accepts : ℕ
    heard_accepts = get (hears n c s) (accepts c.side c.to)

    abbrev heard : ℕ
    heard = others heard_accepts c.to

    earlier : {u : ℕ} → (u ∈ B → ⊥) → u ∈ heard → Voters c.side (taken Q n c s)
    earlier {u} nu h =
        voters-later (taken-adds Q n c s)
        (b c.side u K.range.side-in (heard-accepted T K (correct nu) ((minus-⊆ heard_accepts (single c.to)).each u h)) nu)

    by-blocking : Q.blocked c.to heard ≡ true → Voters c.side (taken Q n c s)
    by-blocking h =
        let x = whole.contains c.to (∈-minus (R.sites c.to K.range.to_in) nb) in
        let y = common-of (minus S.sites B) (others heard c.to) (R.promises.blocked-meets c.to heard (minus S.sites B) x.0 h x.1 x.2) in
        earlier (minus-not-in S.sites y.1) ((minus-⊆ heard (single c.to)).each y.0 y.2)

    by-quorum : Q.in_quorum c.to (bit_or heard_votes heard) ≡ true → Voters c.side (taken Q n c s)
    by-quorum h = ⊎_elim voters (λ ne. let x = member_of (minus heard B) ne in earlier (minus-not-in heard x.1) ((minus-⊆ heard B).each x.0 x.1))
        (same? (minus heard B) 0)
      where
        q : (u : ℕ) × Quorum S u × (u ⊆ bit_or heard_votes heard) × (c.to ∈ u)
        q = R.promises.quorum-inside c.to (bit_or heard_votes heard) h

        voters : minus heard B ≡ 0 → Voters c.side (taken Q n c s)
        voters e = record {
          set = minus q.0 B;
          quorum = without q.0 c.to q.1 q.3 nb;
          voting = record {
            each = λ u k.
                let nu = minus-not-in q.0 k in
                ⊎_elim (heard-voted T K (correct nu)) (λ x. absurd (not-in-zero (∈-eq e (∈-minus x nu))))
                (∈-or heard_votes heard (q.2.each u ((minus-⊆ q.0 B).each u k)));
          };
        }

    pub new-backed : accepts_now Q c.to c.side (hears n c s) ≡ true → Voters c.side (taken Q n c s)
    new-backed e = ⊎_elim by-quorum by-blocking (accepting-either Q c.to heard_votes heard_accepts e)

  -- what every step keeps
  pub record Good (s : List ℕ) : Type 0 where
    pub sound : Sound Q n F s
    pub backed : Backed s

  pub good-fresh : Good (fresh (width n))
  good-fresh = record { sound = fresh-sound (λ v. S) Q n F R; backed = λ side v hs h. absurd (fresh-none n (accepted n side) h) }

  pub good-step : (c : Call) (s : List ℕ) → Good s → Good (step (vote Q n F) c s)
  good-step c s g = ⊎_elim (λ e. subst Good (sym e) g) (λ x. subst Good (sym x.1) (new x.0)) (step-cases n F c s Q)
    where
      new : Takes n F c s → Good (taken Q n c s)
      new K = record {
        sound = taken-sound g.sound K R.promises;
        backed = λ side v hs h nb. ⊎_elim (λ x. voters-later (taken-adds Q n c s) (g.backed side v hs x nb))
            (λ x. subst (λ (τ : ℕ). Voters τ (taken Q n c s)) (sym x.1)
            (new-backed g.sound K g.backed (subst (λ (w : ℕ). w ∈ B → ⊥) x.2 nb) x.0))
            (taken-accepted g.sound K hs h);
      }

  -- a confirmed side was accepted outside B, so it has its voters
  confirmed-voters : {s : List ℕ} → Good s → {side v : ℕ} → side < 2 → v ∈ get s (confirmed n side) → Voters side s
  unfolding confirming
  confirmed-voters {s} g {side} {v} hs h =
      let hv = g.sound.below (confirmed n side) v h in
      let q = R.promises.quorum-inside v (get s (accepts side v)) (confirmed-rule g.sound hs h) in
      let y = common-of q.0 (minus S.sites B) (P.shared q.0 (minus S.sites B) q.1 whole) in
      let nb = minus-not-in S.sites y.2 in
      g.backed side y.0 hs (g.sound.accepts-sent v y.0 side hv hs (correct nb) (q.2.each y.0 y.1)) nb

  pub good-agreed : {s : List ℕ} → Good s → Agreed n F s
  good-agreed {s} g = record { no-two = λ v w f k. no-two; none_both = λ v f. no-two }
    where
      no-two : {v w : ℕ} → v ∈ get s (confirmed n 0) → w ∈ get s (confirmed n 1) → ⊥
      no-two h k =
          let x = confirmed-voters g (omega arith) h in
          let y = confirmed-voters g (omega arith) k in
          let z = common-of x.set y.set (P.intact.dispensable.intersection x.set y.set x.quorum y.quorum) in
          g.sound.once z.0 (x.voting.each z.0 z.1) (y.voting.each z.0 z.2)
