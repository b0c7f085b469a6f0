-- How the premise is met: by all accept calls among the correct sites; that it asks for no call in vain; that it is computed.
use Prim.Native.Nat.{ℕ, ◌*◌, ◌/◌, ◌<◌}
use mathlib.Core.Bool.{Bool, true, false, ◌&&◌, not}
use mathlib.Core.List.Memᴰ
use mathlib.Core.List.{List, Memᴰ}
use mathlib.Core.Logic.{inl, ⊎_elim}
use mathlib.Core.Path.{◌≡◌, refl, sym, ap, subst}
use lib.Dec.{eqb}
use lib.ListN.{length}
use borrow.Author.Tests.{eq-eqb, ne_eqb}
use Rattle.ground.proofs.Every.{every_of, every-at}
use Rattle.ground.proofs.Logic.{and_l, and_r, and_i, clash, not_t, is_false}
use Rattle.ground.proofs.Numbers.{same?}
use Rattle.liveness.proofs.Liveness.{site-below, rests, at_rest}
use Rattle.liveness.proofs.Spread.{hears-listed}
use Rattle.liveness.specs.Complete.{AllSuffice, HeardIsListed, lacks, is_complete, CompleteDecided}
use Rattle.liveness.specs.Liveness.{accept, Complete}
use Rattle.masks.proofs.Laws.Single.{∈-eq}
use Rattle.masks.proofs.Laws.Subsets.{mem}
use Rattle.masks.specs.Mask.{has, ◌∈◌}
use Rattle.pass.proofs.Lawful.{table-vote}
use Rattle.pass.specs.Calls.{calls}
use Rattle.rules.proofs.Alone.{same-accepts}
use Rattle.rules.proofs.Answer.{Takes, step-cases}
use Rattle.rules.proofs.Kept.{taken-sound}
use Rattle.rules.proofs.SoundLaws.{fresh-sound}
use Rattle.rules.proofs.State.{fresh-none}
use Rattle.rules.proofs.Taken.{taken-alone, taken-accepts}
use Rattle.rules.specs.Rules.{taken}
use Rattle.rules.specs.Sound.{Sound}
use Rattle.rules.specs.State.{accepts, width, get}
use Rattle.rules.specs.Theorems.{Rests}
use Rattle.rules.specs.Vote.{vote}
use Rattle.run.proofs.Public.{is-checked, state-is-run}
use Rattle.same_calls.proofs.Listed.{whole, has-mem, mem-has}
use Rattle.same_calls.specs.Same.{has_call}
use Rattle.sets.specs.Groups.{fbqs_in, slices_in, sites_of}
use Rattle.sets.specs.Paper.{Fbqs, Intact}
use Rattle.sets.specs.Promises.{Questions}
use Rattle.verdicts.proofs.Decides.{table-verdicts}
use Rattle.verdicts.specs.Verdicts.{intact}
use Rattle.votes.proofs.AnyVote.{run-keeps}
use Rattle.votes.specs.Call.{Call}
use Rattle.votes.specs.Inner.{Lawful}
use Rattle.votes.specs.Vote.{fresh, step, run_of}

pub all-suffice : AllSuffice
all-suffice t F side l acc A u v I J ne a =
    A u v (site-below t u I.site) (site-below t v J.site) (λ f. I.outside (I.contains.each u f)) (λ f. J.outside (J.contains.each v f)) ne

-- what a site has heard from another stands in the list
module _ {S : Fbqs} {Q : Questions} {n : ℕ} (R : Rests (λ v. S) Q n) (F : ℕ) (l : List Call) where
  record Said (s : List ℕ) : Type 0 where
    sound : Sound Q n F s
    call : {side u v : ℕ} → side < 2 → v < n → (u ≡ v → ⊥) → u ∈ get s (accepts side v) → Memᴰ (accept u v side) l

  said-fresh : Said (fresh (width n))
  said-fresh = record { sound = fresh-sound (λ v. S) Q n F R; call = λ {side} {u} {v} hs hv ne h. absurd (fresh-none n (accepts side v) h) }

  said-step : (c : Call) → Memᴰ c l → (s : List ℕ) → Said s → Said (step (vote Q n F) c s)
  said-step c m s g = ⊎_elim (λ e. subst Said (sym e) g) (λ x. subst Said (sym x.1) (new x.0)) (step-cases n F c s Q)
    where
      new : Takes n F c s → Said (taken Q n c s)
      new K = record {
        sound = taken-sound g.sound K R.promises;
        call = λ {side} {u} {v} hs hv ne h.
            ⊎_elim
            (λ e. ⊎_elim (g.call hs hv ne)
            (λ x. ⊎_elim (λ y. absurd (ne y)) (λ y. Memᴰ.cast (λ i. record { kind = sym y.0 i; from = y.2 i; to = y.1 i; side = e i }) m) x)
            (taken-accepts g.sound K hs hv h))
            (λ d. g.call hs hv ne (∈-eq (same-accepts K.range.to_in K.range.side-in (taken-alone Q n c s) hv hs (inl d)) h))
            (same? side c.side);
      }

  pub run-said : Lawful (vote Q n F) → {side u v : ℕ} → side < 2 → v < n → (u ≡ v → ⊥) → u ∈ get (run_of (vote Q n F) l).state (accepts side v) →
      Memᴰ (accept u v side) l
  run-said L = (run-keeps (vote Q n F) L l Said said-step said-fresh).call

pub heard-is-listed : HeardIsListed
heard-is-listed t F list state answers p side u v hs T hv f ne a = (
  λ h. run-said (rests T) F (calls list) (table-vote t (is-checked T) F) hs hv ne (subst (λ (s : List ℕ). u ∈ get s (accepts side v)) (state-is-run T) h),
  λ m. hears-listed (at_rest T) hs hv f a m,
)

-- a test that does not fail
is_true : (b : Bool) → (b ≡ false → ⊥) → b ≡ true
is_true true f = refl
is_true false f = absurd (f refl)

-- a missing call, part by part
given : (a b c d e : Bool) → a && (b && (c && (d && not e))) ≡ true → (a ≡ true → b ≡ true → c ≡ true → d ≡ true → e ≡ true) → ⊥
given true true true true true h f = clash h refl
given true true true true false h f = clash (f refl refl refl refl) refl
given false b c d e h f = clash h refl
given true false c d e h f = clash h refl
given true true false d e h f = clash h refl
given true true true false e h f = clash h refl

-- the test of a list, among sites below n
module _ (Among : ℕ → Type 0) (n among side : ℕ) (list : List ℕ) (four : length list ≡ 4 * (length list / 4)) (acc : ℕ) where
  abbrev told : ℕ → ℕ → Bool
  told u v = has_call (length list / 4) list 2 u v side

  test-complete : ((u : ℕ) → Among u → (u < n) × (u ∈ among)) → is_complete n among side list acc ≡ true → Complete Among side (calls list) acc
  unfolding is_complete lacks
  test-complete f e u v I J ne a =
      let x = every-at n _ (every-at n _ e u (f u I).0) v (f v J).0 in
      has-mem list four 2 u v side
      (is_true (told u v) (λ z. clash
      (and_i (ap not (ne_eqb u v ne)) (and_i a.holds (and_i (f u I).1.holds (and_i (f v J).1.holds (ap not z)))))
      (not_t (lacks among side list acc u v) x)))

  complete-test : ((u : ℕ) → u ∈ among → Among u) → Complete Among side (calls list) acc → is_complete n among side list acc ≡ true
  unfolding is_complete
  complete-test f C = every_of n _ (λ u hu. every_of n _ (λ v hv. ap not (is_false (lacks among side list acc u v) (call u v))))
    where
      call : (u v : ℕ) → lacks among side list acc u v ≡ true → ⊥
      call u v e = given (not (eqb u v)) (has acc u) (has among u) (has among v) (told u v) e
          (λ a b c d. mem-has list four 2 u v side (C u v (f u (mem c)) (f v (mem d)) (λ q. clash (eq-eqb u v q) (not_t (eqb u v) a)) (mem b)))

pub complete-decided : CompleteDecided
complete-decided t F side list acc M w =
    let D = table-verdicts t M in
    let m = intact (slices_in t) (sites_of t) F in (
      test-complete (Intact (fbqs_in t) F) (sites_of t) m side list (whole (length list) w) acc (λ u I. (site-below t u I.site, (D.intact-set F u).1 I)),
      complete-test (Intact (fbqs_in t) F) (sites_of t) m side list (whole (length list) w) acc (λ u. (D.intact-set F u).0),
    )
