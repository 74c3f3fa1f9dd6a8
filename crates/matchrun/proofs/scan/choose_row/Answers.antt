use mathlib.Core.Path.{sym, ◌∙◌}
use mir.Facts.{to_z-of_z}
use Rattle.matchrun.proofs.scan.choose_row.Goals as goal

pub best_row-requires : goal.best_row-requires
best_row-requires c =
    let t = c in
    (t.requires.0, t.requires.1, sym c.in-Backward.is ∙ t.strategy_of-s.ensures)

pub best_row-requires-in-Forward : goal.best_row-requires-in-Forward
best_row-requires-in-Forward c =
    let t = c in
    (t.requires.0, t.requires.1, sym c.in-Forward.is ∙ t.strategy_of-s.ensures)

pub best_row-requires-in-Nearest : goal.best_row-requires-in-Nearest
best_row-requires-in-Nearest c =
    let t = c in
    (t.requires.0, t.requires.1, sym c.in-Nearest.is ∙ t.strategy_of-s.ensures)

pub returns-in-Backward : goal.returns-in-Backward
returns-in-Backward c =
    let f = c.ranges.v in
    (c.best_row.ensures.0, λ first x ex. c.best_row.ensures.1 first x (rw (to_z-of_z f) ex))

pub returns-in-Forward : goal.returns-in-Forward
returns-in-Forward c =
    let f = c.ranges.v in
    (c.best_row-in-Forward.ensures.0, λ first x ex. c.best_row-in-Forward.ensures.1 first x (rw (to_z-of_z f) ex))

pub returns-in-Nearest : goal.returns-in-Nearest
returns-in-Nearest c =
    let f = c.ranges.v in
    (c.best_row-in-Nearest.ensures.0, λ first x ex. c.best_row-in-Nearest.ensures.1 first x (rw (to_z-of_z f) ex))
