-- Why theorem 6 of 004 holds of a state that no call of a complete list changes. Fix a dispensable set B that contains the faulty sites. A confirmed side has a
-- quorum of accepts, and some of it stands outside B. Were some site outside B not to accept, then those that do not would each have a slice clear of
-- the accepts heard, so be a quorum of the table with B deleted, and share a site with that quorum. So all outside B accept, hear it of each other, and
-- confirm: they are a quorum.
use Prim.Native.Nat.{ℕ, ◌<◌}
use mathlib.Core.Bool.{true, false}
use mathlib.Core.List.{List, Memᴰ}
use mathlib.Core.Logic.{◌⊎◌, ⊎_elim}
use mathlib.Core.Path.{◌≡◌, refl, sym, subst, ◌∙◌}
use native.Mathlib.Omega.{arith}
use lib.Bits.{bit_and}
use Rattle.ground.proofs.Logic.{is_false}
use Rattle.ground.proofs.Numbers.{same?}
use Rattle.liveness.specs.Liveness.{accept, Complete}
use Rattle.masks.proofs.Laws.Apart.{apart-not-in, common-of}
use Rattle.masks.proofs.Laws.Single.{in?, single-∈, ∈-eq, minus-grows}
use Rattle.masks.proofs.Laws.Subsets.{mem, not-in-zero, minus-⊆, ∈-minus, minus-not-in}
use Rattle.masks.specs.Mask.{single, others, minus, ◌∈◌, ◌⊆◌}
use Rattle.rules.proofs.Answer.{Takes}
use Rattle.rules.proofs.Heard.{heard-accept}
use Rattle.rules.proofs.Inner.{step-heard}
use Rattle.rules.proofs.RuleLaws.{by-blocked}
use Rattle.rules.proofs.SoundLaws.{accepted-heard, confirmed-rule, rule-accepted, rule-confirmed}
use Rattle.rules.specs.Inner.{heard}
use Rattle.rules.specs.Rules.{confirming}
use Rattle.rules.specs.Sound.{Sound}
use Rattle.rules.specs.State.{votes, accepts, accepted, confirmed, get}
use Rattle.rules.specs.Theorems.{Rests}
use Rattle.rules.specs.Vote.{vote}
use Rattle.sets.specs.Paper.{Fbqs, WellFormed, Quorum, Intersection, Dispensable, delete}
use Rattle.sets.specs.Promises.{Questions}
use Rattle.votes.specs.Call.{Call}
use Rattle.votes.specs.Vote.{step}

-- a sound state that no call of the list changes
pub record AtRest (Q : Questions) (n F : ℕ) (l : List Call) (s : List ℕ) : Type 0 where
  pub sound : Sound Q n F s
  pub still : (c : Call) → Memᴰ c l → step (vote Q n F) c s ≡ s

-- who has accepted is heard by each correct site to which the list has it say so
pub hears-listed : {Q : Questions} {n F : ℕ} {l : List Call} {s : List ℕ} → AtRest Q n F l s → {side u v : ℕ} → side < 2 → v < n → (v ∈ F → ⊥) →
    u ∈ get s (accepted n side) → Memᴰ (accept u v side) l → u ∈ get s (accepts side v)
hears-listed {Q} {n} {F} {l} {s} E {side} {u} {v} hs hv f h m =
    let k : heard n c s ≡ true = subst (λ (x : List ℕ). heard n c x ≡ true) (E.still c m) (step-heard E.sound c takes-it) in
    mem (sym (heard-accept n c s (λ e. omega arith) (λ e. omega arith)) ∙ k)
  where
    c : Call
    c = accept u v side

    takes-it : Takes n F c s
    takes-it = record {
      range = record { kind-in = omega arith; from_in = E.sound.below (accepted n side) u h; to_in = hv; side-in = hs };
      straight = λ e. absurd (omega arith);
      correct = f;
      free = λ e. absurd (omega arith);
      vote-sent = λ e. absurd (omega arith);
      accept-sent = λ e g. h;
    }

module _ {S : Fbqs} {Q : Questions} {n : ℕ} (R : Rests (λ v. S) Q n) (W : WellFormed S) (few : (v : ℕ) → v ∈ S.sites → v < n) {F : ℕ} {l : List Call}
    {s : List ℕ} (E : AtRest Q n F l s) {side : ℕ} (hs : side < 2) {B : ℕ} (D : Dispensable S B) (faulty : F ⊆ B)
    (C : Complete (λ u. u ∈ minus S.sites B) side l (get s (accepted n side))) where
  abbrev acc : ℕ
  acc = get s (accepted n side)

  abbrev rest : ℕ
  rest = minus S.sites B

  correct : {v : ℕ} → v ∈ rest → v ∈ F → ⊥
  correct {v} k f = minus-not-in S.sites k (faulty.each v f)

  site : {v : ℕ} → v ∈ rest → v ∈ S.sites
  site {v} k = (minus-⊆ S.sites B).each v k

  -- each site outside B has heard the accept of each of them that has accepted
  hears-all : {u v : ℕ} → u ∈ rest → v ∈ rest → u ∈ acc → u ∈ get s (accepts side v)
  hears-all {u} {v} hu hv h =
      ⊎_elim (λ e. subst (λ (w : ℕ). u ∈ get s (accepts side w)) e (accepted-heard E.sound hs h))
      (λ ne. hears-listed E hs (few v (site hv)) (correct hv) h (C u v hu hv ne h)) (same? u v)

  -- the sites outside B form a quorum, if there are any
  whole : {v : ℕ} → v ∈ rest → Quorum S rest
  whole {v} k =
      ⊎_elim (λ q. q) (λ e. absurd (minus-not-in S.sites k (subst (λ (m : ℕ). v ∈ m) (sym e) (site k)))) D.availability

  -- a quorum without B is one of the table with B deleted
  without : {U x : ℕ} → Quorum S U → x ∈ U → (x ∈ B → ⊥) → Quorum (delete S B) (minus U B)
  without {U} q h nb = record {
    of-sites = minus-grows B q.of-sites;
    non-empty = λ e. not-in-zero (∈-eq e (∈-minus h nb));
    contains = λ w k.
        let x = q.contains w ((minus-⊆ U B).each w k) in
        (minus x.0 B, (x.0, x.1, refl), minus-grows B x.2);
  }

  -- the sites outside B that have not accepted
  abbrev silent : ℕ
  silent = minus rest acc

  -- the accepts that such a site has heard do not block it
  not-blocked : {w : ℕ} → w ∈ silent → Q.blocked w (others (get s (accepts side w)) w) ≡ false
  not-blocked {w} k =
      let hw = (minus-⊆ rest acc).each w k in
      is_false (Q.blocked w (others (get s (accepts side w)) w))
      (λ e. minus-not-in rest k
      (rule-accepted E.sound hs (few w (site hw)) (correct hw) (by-blocked Q w (get s (votes side w)) (get s (accepts side w)) e)))

  -- so it has a slice, without B, of such sites
  silent-slice : (w : ℕ) → w ∈ silent → (p : ℕ) × ((delete S B).Slice w p) × (p ⊆ silent)
  silent-slice w k = (minus x.0 B, (x.0, x.1, refl), record { each = λ y h. inside y h })
    where
      hw : w ∈ rest
      hw = (minus-⊆ rest acc).each w k

      x : (q : ℕ) × S.Slice w q × (bit_and q (others (others (get s (accepts side w)) w) w) ≡ 0)
      x = R.promises.unblocked-rest w (others (get s (accepts side w)) w) (not-blocked k)

      inside : (y : ℕ) → y ∈ minus x.0 B → y ∈ silent
      inside y h =
          let hq = (minus-⊆ x.0 B).each y h in
          let hy : y ∈ rest = ∈-minus ((W.of-nodes w x.0 (site hw) x.1).each y hq) (minus-not-in x.0 h) in
          ∈-minus hy
          (λ a.
          let other : y ∈ single w → ⊥ = λ e. minus-not-in rest k (subst (λ (z : ℕ). z ∈ acc) (single-∈ w e) a) in
          apart-not-in x.2 hq (∈-minus (∈-minus (hears-all hy hw a) other) other))

  silent-quorum : {w : ℕ} → w ∈ silent → Quorum (delete S B) silent
  silent-quorum k = record { of-sites = minus-⊆ rest acc; non-empty = λ e. not-in-zero (∈-eq e k); contains = silent-slice }

  -- a quorum with a site outside B, and all its sites outside B have accepted: every site outside B has
  all-accept : {U x : ℕ} → Quorum S U → x ∈ U → (x ∈ B → ⊥) → ((u : ℕ) → u ∈ minus U B → u ∈ acc) → (w : ℕ) → w ∈ rest → w ∈ acc
  all-accept {U} q h nb a w k = ⊎_elim (λ z. z) (λ na. absurd (clashes (∈-minus k na))) (in? w acc)
    where
      clashes : w ∈ silent → ⊥
      clashes m =
          let y = common-of (minus U B) silent (D.intersection (minus U B) silent (without q h nb) (silent-quorum m)) in
          minus-not-in rest y.2 (a y.0 y.1)

  -- then each confirms
  confirms : ((w : ℕ) → w ∈ rest → w ∈ acc) → {v : ℕ} → v ∈ rest → v ∈ get s (confirmed n side)
  unfolding confirming
  confirms a {v} hv =
      rule-confirmed E.sound hs (few v (site hv)) (correct hv)
      (R.promises.of-quorum v (get s (accepts side v)) rest (whole hv) (record { each = λ u k. hears-all k hv (a u k) }) hv)

  -- what a site has confirmed, each outside B has: if the table meets, or that site is outside B
  pub spreads : {w : ℕ} → Intersection S ⊎ (w ∈ minus S.sites B) → w ∈ get s (confirmed n side) → {v : ℕ} → v ∈ minus S.sites B →
      v ∈ get s (confirmed n side)
  unfolding confirming
  spreads {w} m h {v} hv =
      let hw = E.sound.below (confirmed n side) w h in
      let q = R.promises.quorum-inside w (get s (accepts side w)) (confirmed-rule E.sound hs h) in
      let y : (x : ℕ) × (x ∈ q.0) × (x ∈ rest) = ⊎_elim (λ shared. common-of q.0 rest (shared q.0 rest q.1 (whole hv))) (λ k. (w, q.3, k)) m in
      confirms (all-accept q.1 y.1 (minus-not-in S.sites y.2)
      (λ u k. E.sound.accepts-sent w u side hw hs (λ f. minus-not-in q.0 k (faulty.each u f)) (q.2.each u ((minus-⊆ q.0 B).each u k)))) hv
