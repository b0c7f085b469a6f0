-- Sets with no common site, and sets without the members of another.
use Prim.Native.Nat.{ℕ}
use mathlib.Core.Path.{◌≡◌, sym, ◌∙◌, subst}
use lib.Bits.{bit_and, bit_or}
use Rattle.masks.specs.Mask.{minus, ◌∈◌, ◌⊆◌}
use Rattle.masks.proofs.Laws.Subsets.{within-⊆, ⊆-within, minus-within, not-in-zero, ∈-and, and-⊆-l, and-⊆-r, ∈-minus, minus-not-in, empty, member_of}

pub apart_of : (a b : ℕ) → ((v : ℕ) → v ∈ a → v ∈ b → ⊥) → bit_and a b ≡ 0
apart_of a b f = empty (bit_and a b) (λ v h. f v ((and-⊆-l a b).each v h) ((and-⊆-r a b).each v h))

pub apart-not-in : {v a b : ℕ} → bit_and a b ≡ 0 → v ∈ a → v ∈ b → ⊥
apart-not-in {v} e h k = not-in-zero (subst (λ (x : ℕ). v ∈ x) e (∈-and h k))

-- parts of sets with no common site
pub apart-⊆ : {a b c d : ℕ} → a ⊆ c → b ⊆ d → bit_and c d ≡ 0 → bit_and a b ≡ 0
apart-⊆ {a} {b} p q e = apart_of a b (λ v h k. apart-not-in e (p.each v h) (q.each v k))

pub common-of : (a b : ℕ) → (bit_and a b ≡ 0 → ⊥) → (v : ℕ) × (v ∈ a) × (v ∈ b)
common-of a b ne = let m = member_of (bit_and a b) ne in (m.0, (and-⊆-l a b).each m.0 m.1, (and-⊆-r a b).each m.0 m.1)

-- a set without b, and the sets that are inside c without b
pub minus-apart : (a b : ℕ) → bit_and (minus a b) b ≡ 0
minus-apart a b = apart_of (minus a b) b (λ v h k. minus-not-in a h k)

pub ⊆-minus : {a c : ℕ} (b : ℕ) → a ⊆ c → bit_and a b ≡ 0 → a ⊆ minus c b
⊆-minus b p e = record { each = λ v h. ∈-minus (p.each v h) (apart-not-in e h) }

pub ⊆-minus-apart : {a : ℕ} (c b : ℕ) → a ⊆ minus c b → bit_and a b ≡ 0
⊆-minus-apart {a} c b p = apart_of a b (λ v h k. minus-not-in c (p.each v h) k)

-- a part, less b, is inside u exactly if the part is inside u together with b
pub minus-⊆-or : (q b u : ℕ) → minus q b ⊆ u → q ⊆ bit_or u b
minus-⊆-or q b u s = within-⊆ q (bit_or u b) (sym (minus-within q b u) ∙ ⊆-within s)

pub or-⊆-minus : (q b u : ℕ) → q ⊆ bit_or u b → minus q b ⊆ u
or-⊆-minus q b u s = within-⊆ (minus q b) u (minus-within q b u ∙ ⊆-within s)
