use Rattle.matchframe.specs.turnrows.Prunes.{first_prune}
use Rattle.matchframe.proofs.turnrows.first_prune.Goals as goal

pub returns-then-checks : goal.returns-then-checks
unfolding first_prune
returns-then-checks c = simp (← c.checks.ensures, c.if-checks.true)

pub returns : goal.returns
unfolding first_prune
returns c = let e = c in simp (← e.checks.ensures, e.if-checks.false, ← c.prune_by.ensures)
