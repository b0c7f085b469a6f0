-- What is made is a list of whole calls, at most 4,096 of them.
use Prim.Native.Nat.{ℕ, suc, ◌%◌, ◌≤◌}
use mathlib.Core.List.{List, [], ◌∷◌}
use mathlib.Core.Path.{◌≡◌, refl, ap}
use native.Mathlib.Omega.{arith}
use lib.ListN.{length}
use Rattle.call_words.specs.declared.Line.{Line}
use Rattle.calls_text.proofs.Room.{took-sane}
use Rattle.calls_text.specs.Inner.{took_of}
use Rattle.calls_text.specs.Pieces.{stops, pieces, says, line_of}
use Rattle.calls_text.specs.Reading.{fault, Grown, with_line, then_on, Reading, reading, read_text}
use Rattle.calls_text.specs.Theorems.{RightList, MadeRight}
use Rattle.std.specs.Prelude.{Ok, Err}

right-on : (g : Grown) (out : List ℕ) (line : Line) (f : List ℕ → Reading) (L : ℕ) → length out ≤ 16384 → length out % 4 ≡ 0 → with_line out line ≡ g
    → ((more : List ℕ) → length more ≤ 16384 → length more % 4 ≡ 0 → RightList (f more))
    → RightList (then_on g f (λ what. record { answer = Err (fault L what); bytes = out }))
right-on (Ok more) out line f L h k e go =
    let sane = took-sane out line (length more) h k (ap took_of e) in
    go more sane.0 sane.1
right-on (Err what) out line f L h k e go =
    record { few = h; whole = k; counted = λ n z. let y : ◌≡◌ {A = ℕ} 0 1 = cc in absurd (omega arith) }

right : (ls : List (List ℕ)) (L : ℕ) (out : List ℕ) → length out ≤ 16384 → length out % 4 ≡ 0 → RightList (reading L out ls)
right [] L out h k = record { few = h; whole = k; counted = λ n z. cc }
right (l ∷ ls) L out h k =
    right-on (with_line out (says (line_of l ls))) out (says (line_of l ls)) (λ more. reading (suc L) more ls) L h k refl (λ more a b. right ls (suc L) more a b)

pub made-right : MadeRight
unfolding read_text
made-right text = right (pieces (stops 10) text) 1 [] (omega arith) refl
