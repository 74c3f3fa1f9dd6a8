use mathlib.Core.Path.{sym, ◌∙◌}
use Rattle.matchrun.proofs.walk_keys.Goals as goal

pub backward-requires : goal.backward-requires
backward-requires c =
    let s = c in
    (s.requires.0, sym c.strategy_of-s.ensures ∙ c.in-Backward.is)

pub forward-requires : goal.forward-requires
forward-requires c =
    let s = c in
    (s.requires.0, sym c.strategy_of-s.ensures ∙ c.in-Forward.is)

pub nearest-requires : goal.nearest-requires
nearest-requires c =
    let s = c in
    (s.requires.0, sym c.strategy_of-s.ensures ∙ c.in-Nearest.is, s.requires.1)
