-- What the desk prints of two lists of calls.
use Rattle.std.specs.Prelude.{ℕ, cond, List, ◌++◌, length}
use Rattle.ground.specs.Pieces.{cat}
use Rattle.refusal_lines.specs.Refused.{explained}
use Rattle.refusals.specs.declared.Refusal as Refusal
use Rattle.run.specs.Run.{list_misshapen}
use Rattle.same_lines.specs.SameLines.{lack_lines, both_line}
use Rattle.same_calls.specs.Same.{same_lists}
use Rattle.text.specs.Text.{ascii}

-- "`same`, or lines `first CALL` and `second CALL`"
unfoldable pub answer_lines : List ℕ → List ℕ → List ℕ
unfolding same_lists lack_lines
answer_lines a b = cond (same_lists a b) (ascii "same\n") (lack_lines (ascii "first ") a b ++ lack_lines (ascii "second ") b a)

-- a line that says which list it is, then the refusal and what it means
unfoldable pub refused_list : List ℕ → List ℕ
unfolding explained
refused_list which = which ++ explained Refusal.Refusal.List

-- `desk same`: the comparison of two lists, or the refusal of the first of them that is none
unfoldable pub same_text : List ℕ → List ℕ → List ℕ
unfolding list_misshapen refused_list answer_lines both_line cat
same_text a b =
    cond (list_misshapen (length a)) (refused_list (ascii "first\n"))
    (cond (list_misshapen (length b)) (refused_list (ascii "second\n"))
    (answer_lines a b ++ cat (both_line a b) 256))
