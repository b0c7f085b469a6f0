-- Laws of text in a lent room: one text behind the other is one text.
use Prim.Native.Nat.{ℕ, ◌+◌, ◌≤◌}
use mathlib.Core.List.{List, [], ◌++◌, append_assoc}
use mathlib.Core.Path.{◌≡◌, sym, ap, ◌∙◌}
use native.Mathlib.Nat.{add_assoc}
use lib.ListN.{length, take, drop, length-append}
use lib.Seq.{paste, paste-zero, take-length, take_at, drop_at, drop-drop, length-take-le}
use Rattle.io.specs.Counts.{IsPrefixLen}
use Rattle.text.specs.Written.{written, Writes}

-- the text is a copy of all its bytes
pub written-paste : (room : List ℕ) (at : ℕ) (text : List ℕ) → paste room at text (length text) ≡ written room at text
unfolding written
written-paste room at text = ap (λ (x : List ℕ). take at room ++ x ++ drop (at + length text) room) (take-length text)

-- no text changes nothing
pub written-nothing : (room : List ℕ) (at : ℕ) → written room at [] ≡ room
unfolding written
written-nothing room at = sym (paste-zero room at [])

-- a text, and a second one behind it
written_then : (A B before : List ℕ) (at : ℕ) → at ≤ length before
    → written (written before at A) (at + length A) B ≡ written before at (A ++ B)
unfolding written
written_then A B before at h =
    let p : List ℕ = take at before ++ A in
    let r : List ℕ = drop (at + length A) before in
    let n : length p ≡ at + length A = length-append (take at before) A ∙ ap (λ (k : ℕ). k + length A) (length-take-le at before h) in
    let d : drop (at + length A + length B) (p ++ r) ≡ drop (at + length (A ++ B)) before =
    sym (drop-drop (length B) (at + length A) (p ++ r)) ∙ ap (drop (length B)) (drop_at p r (at + length A) n)
    ∙ drop-drop (length B) (at + length A) before
    ∙ ap (λ (k : ℕ). drop k before) (add_assoc at (length A) (length B) ∙ ap (λ (k : ℕ). at + k) (sym (length-append A B))) in
    rw (take_at p r (at + length A) n, d) (ap (λ (x : List ℕ). x ++ drop (at + length (A ++ B)) before) (append_assoc (take at before) A B))

pub then : {A B before after mid-room : List ℕ} {at mid end : ℕ}
    → Writes A before at mid mid-room → Writes B mid-room mid end after → at ≤ length before → Writes (A ++ B) before at end after
then {A} {B} {before} {at = at} a b h = record {
  place = b.place ∙ ap (λ (k : ℕ). k + length B) a.place ∙ add_assoc at (length A) (length B) ∙ ap (λ (k : ℕ). at + k) (sym (length-append A B));
  memory = b.memory ∙ rw (a.memory, a.place) (written_then A B before at h);
  inside = b.inside;
}

-- a text is written in one way
pub once : {T before m n : List ℕ} {at e f : ℕ} → Writes T before at e m → Writes T before at f n → (e ≡ f) × (m ≡ n)
once a b = (a.place ∙ sym b.place, a.memory ∙ sym b.memory)

-- so many bytes of the room are the text
pub counted : {T before after : List ℕ} {at end : ℕ} → Writes T before at end after → IsPrefixLen end after
counted {after = after} {end = end} w = (w.inside, sym (length-take-le end after w.inside))
