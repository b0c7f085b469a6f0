-- The union's promise: its premises in the words of a verdict, and what it says of the register.
use Prim.Native.Nat.{ℕ, ◌<◌}
use mathlib.Core.List.{List, ◌++◌}
use mathlib.Core.Path.{◌≡◌, subst}
use native.Mathlib.Omega.{arith}
use Rattle.agreement.proofs.Agreement.{steps-agree, run-agrees, table-agrees}
use Rattle.agreement.specs.Agreement.{Premises}
use Rattle.check_text.specs.Table.{table_on}
use Rattle.lines.specs.Lines.{line}
use Rattle.liveness.proofs.Liveness.{run-spreads, one-mark}
use Rattle.masks.proofs.Laws.Subsets.{member_of}
use Rattle.masks.specs.Mask.{◌∈◌}
use Rattle.pass.proofs.Lawful.{table-vote}
use Rattle.pass.specs.Calls.{calls}
use Rattle.register.specs.Register.{worth_of, site_line}
use Rattle.rules.proofs.SoundLaws.{confirmed-correct}
use Rattle.rules.proofs.WorkWays.{table-rests}
use Rattle.rules.specs.State.{accepts, confirmed, get}
use Rattle.rules.specs.Vote.{vote_of}
use Rattle.sets.proofs.Groups.{few-in}
use Rattle.sets.specs.Groups.{Groups, sites_of, fbqs_in, Checked}
use Rattle.text.specs.Text.{ascii, decimal}
use Rattle.votes.proofs.AnyVote.{is-run}
use Rattle.votes.specs.Call.{Call}
use Rattle.votes.specs.Vote.{run_of}
use Rattle.published.proofs.Files.{image-checked, image-sites, is-drill, drill-line}
use Rattle.published.proofs.Sets.{shared-as-published, intact-as-published}
use Rattle.published.proofs.Voting.{of-state}
use Rattle.published.specs.Files.{whole_on}
use Rattle.published.specs.Sets.{named}
use Rattle.published.specs.Union.{UnionPromise, Relied, AgreedByVerdict, RegisterAgrees}
use Rattle.published.specs.Voting.{Confirms}

pub union-promise : UnionPromise
union-promise = record { steps-agree = steps-agree; runs-agree = run-agrees; runs-spread = run-spreads; one-mark = one-mark }

-- a verdict that says so has the premises
premises : {t : Groups} {F m : ℕ} → Relied t F m → Premises (named t) F
premises {t} {F} {m} R =
    let v = member_of m R.somebody in
    let I = (intact-as-published t F m).0 R.whole in
    record { shared = ((shared-as-published t).0.0 R.meet).2; site = v.0; intact = (I.2.intact-in v.0).0 v.1 }

pub agreed-by-verdict : AgreedByVerdict
agreed-by-verdict t F m R = (
  λ l. steps-agree t F l (premises R),
  λ list state answers p T. run-agrees t F list state answers p T (premises R),
)

-- of n sites, those of `whole` intact, and a state s: no line says drill while a correct site has confirmed live
NoLine : Groups → ℕ → ℕ → ℕ → List ℕ → Type 0
NoLine t n F whole s =
    (v w : ℕ) → v < n → w < n → (w ∈ F → ⊥) →
    site_line n F whole (get s (confirmed n 0)) (get s (confirmed n 1)) v ≡ line (ascii "site ") (decimal v ++ (ascii " drill" ++ worth_of n F whole v)) →
    Confirms (fbqs_in t) w (get s (accepts 1 w)) → ⊥

no_line : (t : Groups) → Checked t → (F whole : ℕ) → Premises (fbqs_in t) F → (l : List Call) → NoLine t (sites_of t) F whole (run_of (vote_of t F) l).state
unfolding NoLine
no_line t c F whole P l v w hv hw g drill live =
    let n = sites_of t in
    let s = (run_of (vote_of t F) l).state in
    let S = (is-run (vote_of t F) (table-vote t c F) l).1 in
    let d = ((is-drill (get s (confirmed n 0)) (get s (confirmed n 1)) v (omega (arith, few-in t c))).0
    ((drill-line n F whole (get s (confirmed n 0)) (get s (confirmed n 1)) v).0 drill)).0 in
    (table-agrees t c F P l).no-two v w (confirmed-correct S (omega arith) d) g d ((of-state (table-rests t c) S w 1 hw (omega arith) g).1.1 live)

pub register-agrees : RegisterAgrees
unfolding NoLine
register-agrees F image list e c P =
    let t = table_on image in
    subst (λ (m : ℕ). NoLine t m F (whole_on F image) (run_of (vote_of t F) (calls list)).state) (image-sites image)
    (no_line t (image-checked image e) F (whole_on F image) P (calls list))
