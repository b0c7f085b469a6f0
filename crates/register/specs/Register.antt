-- The register's line of each site, and what its entry is worth.
use Rattle.std.specs.Prelude.{ℕ, cond, List, ◌++◌, eqb, ltb}
use Rattle.lines.specs.Lines.{line}
use Rattle.mark.specs.Mark.{mark as mark_of}
use Rattle.masks.specs.Mask.{has}
use Rattle.text.specs.Text.{ascii, decimal}

-- what an entry is worth, of n sites of which those of F are faulty: "a faulty site is `site V live faulty`", "`unknown` above" 12 sites, else whether the
-- site is intact; `whole` is the mask of those that are
unfoldable pub worth_of : ℕ → ℕ → ℕ → ℕ → List ℕ
unfolding has
worth_of n F whole v = cond (has F v) (ascii " faulty") (cond (ltb 12 n) (ascii " unknown") (cond (has whole v) (ascii " intact") (ascii " befouled")))

-- `site V drill ..` where the site's mark is 1, else `site V live ..`
unfoldable pub site_line : ℕ → ℕ → ℕ → ℕ → ℕ → ℕ → List ℕ
unfolding line decimal mark_of worth_of
site_line n F whole drill live v =
    line (ascii "site ") (decimal v ++ (cond (eqb (mark_of v drill live) 1) (ascii " drill") (ascii " live") ++ worth_of n F whole v))
