-- The verdict of a table: "n; F; `yes` or `no` for shared sites; intact set; befouled set; largest quorum outside F; its rounds."
use Rattle.std.specs.Prelude.{ℕ, List}
use Rattle.refusal_lines.specs.Refused.{refused}
use Rattle.masks.specs.Mask.{all_below, minus}
use Rattle.questions.specs.Answers.{verdict_check}
use Rattle.check_text.specs.Table.{unless}
use Rattle.sets.specs.Groups.{Groups, slices_in, sites_of, set_check}
use Rattle.sets.specs.Quorum.{largest, rounds}
use Rattle.verdicts.specs.Verdicts.{meets, intact}
use Rattle.verdict_lines.specs.Verdict.{seven_lines}

-- of a table in memory: 10, then 16, then the lines
unfoldable pub judged_text : ℕ → Groups → List ℕ
unfolding set_check refused seven_lines meets intact largest rounds
judged_text F t =
    let n = sites_of t in
    let slices = slices_in t in
    let others = minus (all_below n) F in
    unless (verdict_check t (set_check t F)) refused
    (seven_lines F n (meets slices.inside n) (intact slices n F) (largest slices.inside n others) (rounds slices.inside n others))
