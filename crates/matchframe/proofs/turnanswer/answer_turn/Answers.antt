-- `turnanswer::answer_turn` meets its contract. Assumes nothing.
use mathlib.Core.Path.{sym, ◌∙◌}
use Rattle.matchframe.proofs.turnanswer.answer_turn.Goals as goal

pub match_sorted-requires : goal.match_sorted-requires
match_sorted-requires c =
    let k = c in
    let p = k.requires in
    (p.0, p.1 (sym k.checks.ensures ∙ c.if-checks.true))
