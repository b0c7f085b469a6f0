-- Laws of the room: what it holds once a line is taken.
use Prim.Native.Nat.{ℕ, suc, ◌+◌, ◌-◌, ◌%◌, ◌≤◌, ◌<◌}
use mathlib.Core.List.{List, [], ◌∷◌, ◌++◌}
use mathlib.Core.Logic.{⊎_elim}
use mathlib.Core.Path.{◌≡◌, refl, sym, ap, ◌∙◌}
use native.Mathlib.Numerals.{add-one}
use native.Mathlib.Omega.{arith}
use lib.Dec.{ltb}
use lib.ListN.{length, take, drop, set, length-append, take-append-drop}
use lib.Seq.{sets-eq, length-take-le, take_at, drop_at, drop-drop}
use borrow.Author.Tests.{lt-ltb, le-ltb, ltb-true}
use Rattle.ground.proofs.Logic.{cases}
use Rattle.call_words.specs.declared.Line.{Line}
use Rattle.call_words.specs.declared.Line.TheVariants.{Empty, Call}
use Rattle.calls_text.specs.Inner.{line_at, took_of, took_into}
use Rattle.calls_text.proofs.Cuts.{reading-more, no_more, drop_past}
use Rattle.calls_text.specs.Pieces.{stops, upto, pieces}
use Rattle.calls_text.specs.Reading.{fault, Grown, with_line, then_on, Reading, reading, read_text, text_into}
use Rattle.call_words.specs.declared.Wanted.{Wanted}
use Rattle.std.specs.Prelude.{Ok, Err}

-- what is known of the bytes taken
pub took-sane : (out : List ℕ) (line : Line) (m : ℕ) → length out ≤ 16384 → length out % 4 ≡ 0 → took_of (with_line out line) ≡ Ok m
    → (m ≤ 16384) × (m % 4 ≡ 0) × (length out ≤ m)
took-sane out Empty m h k e = let z : length out ≡ m = cc in (omega arith, omega arith, omega arith)
took-sane out (Call a b c d) m h k e =
    ⊎_elim
    (λ t. let r : Ok (length (out ++ (a ∷ b ∷ c ∷ d ∷ []))) ≡ Ok m = rw t at e in
    let z : length (out ++ (a ∷ b ∷ c ∷ d ∷ [])) ≡ m = cc in
    let l = length-append out (a ∷ b ∷ c ∷ d ∷ []) in
    let i = ltb-true (length out) 16384 t in
    (omega arith, omega arith, omega arith))
    (λ t. let r : Err Wanted.Fewer ≡ Ok m = rw t at e in let z : ◌≡◌ {A = ℕ} 0 1 = cc in absurd (omega arith))
    (cases (ltb (length out) 16384))
took-sane out (Line.Fault what) m h k e = let z : ◌≡◌ {A = ℕ} 0 1 = cc in absurd (omega arith)

-- the lines behind go on with what the room holds
pub took-on : (g : Grown) (room after : List ℕ) (m : ℕ) (f : List ℕ → Reading) (s : Wanted → Reading) → took_of g ≡ Ok m → after ≡ took_into g room
    → (then_on g f s ≡ f (take m after)) × (drop m after ≡ drop m room) × (m ≤ length after)
took-on (Ok out) room after m f s e p =
    let z : length out ≡ m = cc in (
      ap f (sym (rw p (take_at out (drop (length out) room) m z))),
      rw p (drop_at out (drop (length out) room) m z ∙ ap (λ (k : ℕ). drop k room) z),
      rw p (omega (arith, length-append out (drop (length out) room))),
    )
took-on (Err what) room after m f s e p = let z : ◌≡◌ {A = ℕ} 0 1 = cc in absurd (omega arith)

pub took-not : (g : Grown) (what : Wanted) (f : List ℕ → Reading) (s : Wanted → Reading) → took_of g ≡ Err what → then_on g f s ≡ s what
took-not (Ok out) what f s e = let z : ◌≡◌ {A = ℕ} 0 1 = cc in absurd (omega arith)
took-not (Err w) what f s e = let z : w ≡ what = cc in ap s z

-- the room behind what was taken is as it was
still : (room₀ room : List ℕ) (n m : ℕ) → n ≤ m → drop n room ≡ drop n room₀ → drop m room ≡ drop m room₀
still room₀ room n m h e =
    let z : n + (m - n) ≡ m = omega arith in
    rw (← z) (sym (drop-drop (m - n) n room) ∙ ap (drop (m - n)) e ∙ drop-drop (m - n) n room₀)

-- the room holds the calls of the lines before, and the rest is as it was
held : (bytes room₀ room : List ℕ) (n : ℕ) → bytes ≡ take n room → n ≤ length room → drop n room ≡ drop n room₀ → room ≡ bytes ++ drop (length bytes) room₀
held bytes room₀ room n e h d = rw (e, length-take-le n room h, ← d) (sym (take-append-drop n room))

took-kept : (g : Grown) (room : List ℕ) (what : Wanted) → took_of g ≡ Err what → took_into g room ≡ room
took-kept (Ok out) room what e = let z : ◌≡◌ {A = ℕ} 0 1 = cc in absurd (omega arith)
took-kept (Err w) room what e = refl

module _ (text room₀ room after : List ℕ) (L at n end : ℕ) (line : Line) (h : at ≤ length text) (f : n ≤ length room)
    (e : end ≡ at + upto (stops 10) (drop at text)) (said : line ≡ line_at text at end)
    (r : reading 1 [] (pieces (stops 10) text) ≡ reading L (take n room) (pieces (stops 10) (drop at text))) where
  goes : (reading 1 [] (pieces (stops 10) text)
      ≡ then_on (with_line (take n room) line) (λ more. reading (suc L) more (pieces (stops 10) (drop (end + 1) text)))
      (λ what. record { answer = Err (fault L what); bytes = take n room }))
  goes = rw said (r ∙ reading-more L (take n room) text at end h e)

  -- a line was taken: those behind it go on
  pub after_line : (m : ℕ) → n ≤ 16384 → n % 4 ≡ 0 → drop n room ≡ drop n room₀
      → took_of (with_line (take n room) line) ≡ Ok m → after ≡ took_into (with_line (take n room) line) room
      → (m ≤ 16384) × (m % 4 ≡ 0) × (m ≤ length after) × (drop m after ≡ drop m room₀)
      × (reading 1 [] (pieces (stops 10) text) ≡ reading (L + 1) (take m after) (pieces (stops 10) (drop (end + 1) text)))
  after_line m a b d t p =
      let l : length (take n room) ≡ n = length-take-le n room f in
      let sane = took-sane (take n room) line m (rw l a) (rw l b) t in
      let on = took-on (with_line (take n room) line) room after m (λ more. reading (suc L) more (pieces (stops 10) (drop (end + 1) text)))
      (λ what. record { answer = Err (fault L what); bytes = take n room }) t p in
      let more : n ≤ m = rw l at sane.2 in
      (sane.0, sane.1, on.2, on.1 ∙ still room₀ room n m more d, goes ∙ on.0 ∙ rw (add-one L) refl)

  -- a line was not: that is the answer, and the room is as it was
  pub after-fault : (what : Wanted) → drop n room ≡ drop n room₀
      → took_of (with_line (take n room) line) ≡ Err what → after ≡ took_into (with_line (take n room) line) room
      → (Err (fault L what) ≡ (read_text text).answer) × (after ≡ text_into text room₀)
  unfolding read_text text_into
  after-fault what d t p =
      let g : Grown = with_line (take n room) line in
      let all = goes ∙ took-not g what (λ more. reading (suc L) more (pieces (stops 10) (drop (end + 1) text)))
      (λ what. record { answer = Err (fault L what); bytes = take n room }) t in
      (sym (ap (λ (x : Reading). x.answer) all), p ∙ took-kept g room what t ∙ held _ room₀ room n (ap (λ (x : Reading). x.bytes) all) f d)

-- the end of the text
pub after-all : (text room₀ room : List ℕ) (L at n : ℕ) → length text ≤ at → n ≤ length room → drop n room ≡ drop n room₀
    → reading 1 [] (pieces (stops 10) text) ≡ reading L (take n room) (pieces (stops 10) (drop at text))
    → (Ok n ≡ (read_text text).answer) × (room ≡ text_into text room₀)
unfolding read_text text_into
after-all text room₀ room L at n h f d r =
    let all : reading 1 [] (pieces (stops 10) text) ≡ record { answer = Ok n; bytes = take n room } =
    r ∙ rw (drop_past text at h, ← no_more L (take n room), length-take-le n room f) refl in
    (sym (ap (λ (x : Reading). x.answer) all), held _ room₀ room n (ap (λ (x : Reading). x.bytes) all) f d)
