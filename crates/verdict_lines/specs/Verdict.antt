-- The lines of a verdict: "n; F; `yes` or `no` for shared sites; intact set; befouled set; largest quorum outside F; its rounds."
use Rattle.std.specs.Prelude.{ℕ, Bool, cond, List, ◌++◌}
use Rattle.lines.specs.Lines.{line}
use Rattle.masks.specs.Mask.{all_below, minus}
use Rattle.text.specs.Text.{ascii, decimal, mask}

-- for n sites, of which those of F are faulty: do the quorums meet, the intact sites, the largest quorum outside F and its rounds
unfoldable pub seven_lines : ℕ → ℕ → Bool → ℕ → ℕ → ℕ → List ℕ
unfolding line decimal mask
seven_lines F n meet whole quorum k =
    line (ascii "sites ") (decimal n)
    ++ (line (ascii "faulty ") (mask F)
    ++ (line (ascii "meet ") (cond meet (ascii "yes") (ascii "no"))
    ++ (line (ascii "intact ") (mask whole)
    ++ (line (ascii "befouled ") (mask (minus (all_below n) whole))
    ++ (line (ascii "quorum ") (mask quorum)
    ++ line (ascii "rounds ") (decimal k))))))
