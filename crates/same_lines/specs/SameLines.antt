-- The lines that the desk prints of two lists of calls.
use Rattle.std.specs.Prelude.{ℕ, ◌/◌, ◌&&◌, ◌||◌, cond, List, [], ◌++◌, length}
use Rattle.call_lines.specs.CallLine.{said_call}
use Rattle.calls_listed.specs.Listed.{said_at}
use Rattle.ground.specs.Pieces.{cat}
use Rattle.lines.specs.Lines.{line}
use Rattle.same_calls.specs.Same.{has_that, proposed}
use Rattle.text.specs.Text.{ascii, decimal}

-- the line of call i of a, where b lacks the call and a does not have it before
unfoldable pub lack_line : List ℕ → List ℕ → List ℕ → ℕ → List ℕ
unfolding has_that said_call
lack_line word a b i = cond (has_that (length b / 4) b a i || has_that i a a i) [] (word ++ said_at a i)

-- "the calls, in words, that only one of them has"
unfoldable pub lack_lines : List ℕ → List ℕ → List ℕ → List ℕ
unfolding lack_line cat
lack_lines word a b = cat (lack_line word a b) (length a / 4)

-- "a line `both V` for each site to which both sides are proposed", in one list or the other
unfoldable pub both_line : List ℕ → List ℕ → ℕ → List ℕ
unfolding proposed line decimal
both_line a b v = cond (proposed a b v 0 && proposed a b v 1) (line (ascii "both ") (decimal v)) []
