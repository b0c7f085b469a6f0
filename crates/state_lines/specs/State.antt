-- The lines of a state: its masks, and the register's line of each site.
use Rattle.std.specs.Prelude.{ℕ, List, ◌++◌}
use Rattle.ground.specs.Pieces.{cat}
use Rattle.lines.specs.Lines.{sides}
use Rattle.register.specs.Register.{site_line}
use Rattle.rules.specs.State.{get, voted, accepted, confirmed}
use Rattle.text.specs.Text.{ascii}

-- of n sites, those of F faulty and those of `whole` intact: drill, then live, of each mask; then one line a site
unfoldable pub state_lines : ℕ → ℕ → ℕ → List ℕ → List ℕ
unfolding sides site_line cat
state_lines n F whole s =
    let drill = get s (confirmed n 0) in
    let live = get s (confirmed n 1) in
    sides (ascii "voted ") (get s (voted n 0)) (get s (voted n 1))
    ++ (sides (ascii "accepted ") (get s (accepted n 0)) (get s (accepted n 1))
    ++ (sides (ascii "confirmed ") drill live
    ++ cat (site_line n F whole drill live) n))
