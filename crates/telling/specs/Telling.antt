-- What a call from C or Rust says: the number of the refusal, 0 if there is none, and the four numbers of `out`: the place of the refusal, then the values.
use Rattle.std.specs.Prelude.{ℕ, List, [], ◌∷◌}
use Rattle.refusals.specs.Refusal.{number, place}
use Rattle.refusals.specs.declared.Refusal.{Refusal}

pub record Said : Type 0 where
  pub number : ℕ
  pub out : List ℕ

-- a refusal: its number, its place, and no values
abbrev pub told : Refusal → Said
told r = record { number = number r; out = place r ∷ 0 ∷ 0 ∷ 0 ∷ [] }

-- no refusal, and up to three values
abbrev pub given : ℕ → ℕ → ℕ → Said
given a b c = record { number = 0; out = 0 ∷ a ∷ b ∷ c ∷ [] }
