-- A word of a text of calls: a number, or one of five names.
use Rattle.std.specs.Prelude.{ℕ, ◌+◌, ◌-◌, ◌*◌, Bool, true, false, ◌&&◌, ◌||◌, cond, List, [], ◌∷◌, Option, Some, None, eqb, ltb}
use Rattle.call_words.specs.declared.Word.{Word}
use Rattle.text.specs.Text.{ascii}

-- a letter in small, any other byte as it is
unfoldable pub lower : ℕ → ℕ
lower b = cond (ltb b 65 || ltb 90 b) b (b + 32)

-- "each letter in either case": the word is this name, which is written small
abbrev pub spells : List ℕ → List ℕ → Bool
spells [] [] = true
spells [] (y ∷ t) = false
spells (x ∷ s) [] = false
spells (x ∷ s) (y ∷ t) = eqb (lower x) y && spells s t

-- "numbers 0 to 255": what decimal digits make of a number begun with x; none where one is no digit, or the number passes 255
abbrev pub figure : ℕ → List ℕ → Option ℕ
figure x [] = Some x
figure x (b ∷ t) =
    cond (ltb b 48 || ltb 57 b) None
    (cond (ltb 255 (10 * x + (b - 48))) None
    (figure (10 * x + (b - 48)) t))

abbrev pub number_or : Option ℕ → Word → Word
number_or (Some n) w = Word.Number n
number_or None w = w

-- what a word says: a number; a kind of call, 0 to 2; a side, 0 or 1; or nothing of a call
unfoldable pub meant : List ℕ → Word
unfolding lower
meant w =
    number_or (figure 0 w)
    (cond (spells w (ascii "propose")) (Word.Kind 0)
    (cond (spells w (ascii "vote")) (Word.Kind 1)
    (cond (spells w (ascii "accept")) (Word.Kind 2)
    (cond (spells w (ascii "drill")) (Word.Side 0)
    (cond (spells w (ascii "live")) (Word.Side 1)
    Word.Other)))))
