-- How long the lines of a state are at most, that they are those of its places, and that above 12 sites they do not depend on who is intact.
use Prim.Native.Nat.{ℕ, ◌+◌, ◌*◌, ◌≤◌, ◌<◌}
use mathlib.Core.List.{List, ◌++◌}
use mathlib.Core.Path.{◌≡◌, refl}
use native.Mathlib.Omega.{arith}
use lib.ListN.{length, length-append}
use Rattle.ground.specs.Pieces.{cat}
use Rattle.lines.proofs.Lengths.{length-sides}
use Rattle.lines.specs.Lines.{sides}
use Rattle.register.proofs.Rows.{length-rows, length-site, lines-above-twelve}
use Rattle.register.specs.Register.{site_line}
use Rattle.rules.specs.State.{get, voted, accepted, confirmed}
use Rattle.state_lines.specs.State.{state_lines}
use Rattle.text.specs.Text.{ascii}

pub length-state : (n F whole : ℕ) (s : List ℕ) → length (state_lines n F whole s) ≤ 130 + 41 * n
unfolding state_lines
length-state n F whole s =
    let v = sides (ascii "voted ") (get s (voted n 0)) (get s (voted n 1)) in
    let a = sides (ascii "accepted ") (get s (accepted n 0)) (get s (accepted n 1)) in
    let drill = get s (confirmed n 0) in
    let live = get s (confirmed n 1) in
    let c = sides (ascii "confirmed ") drill live in
    let r = cat (site_line n F whole drill live) n in
    omega (
      arith,
      length-append v (a ++ (c ++ r)),
      length-append a (c ++ r),
      length-append c r,
      length-sides (ascii "voted ") (get s (voted n 0)) (get s (voted n 1)),
      length-sides (ascii "accepted ") (get s (accepted n 0)) (get s (accepted n 1)),
      length-sides (ascii "confirmed ") drill live,
      length-rows (site_line n F whole drill live) 41 n (length-site n F whole drill live),
    )

-- the lines of a state, by the places of its masks
by-places : (n F whole : ℕ) (s : List ℕ) (a b c d e f : ℕ) → a ≡ voted n 0 → b ≡ voted n 1 → c ≡ accepted n 0 → d ≡ accepted n 1 → e ≡ confirmed n 0
    → f ≡ confirmed n 1
    → sides (ascii "voted ") (get s a) (get s b)
    ++ (sides (ascii "accepted ") (get s c) (get s d)
    ++ (sides (ascii "confirmed ") (get s e) (get s f) ++ cat (site_line n F whole (get s e) (get s f)) n))
    ≡ state_lines n F whole s
unfolding state_lines
by-places n F whole s a b c d e f ea eb ec ed ee ef = rw (ea, eb, ec, ed, ee, ef) refl

pub state-lines : (n F whole b : ℕ) (s : List ℕ) → b ≡ voted n 0
    → sides (ascii "voted ") (get s b) (get s (b + 1))
    ++ (sides (ascii "accepted ") (get s (b + 2)) (get s (b + 3))
    ++ (sides (ascii "confirmed ") (get s (b + 4)) (get s (b + 5)) ++ cat (site_line n F whole (get s (b + 4)) (get s (b + 5))) n))
    ≡ state_lines n F whole s
state-lines n F whole b s e =
    by-places n F whole s b (b + 1) (b + 2) (b + 3) (b + 4) (b + 5)
    (omega (arith, e)) (omega (arith, e)) (omega (arith, e)) (omega (arith, e)) (omega (arith, e)) (omega (arith, e))

pub state-above-twelve : (n F whole other : ℕ) (s : List ℕ) → 12 < n → state_lines n F whole s ≡ state_lines n F other s
unfolding state_lines
state-above-twelve n F whole other s l = rw (lines-above-twelve n F whole other (get s (confirmed n 0)) (get s (confirmed n 1)) l n) refl
