use borrow.Author.Tests.{eq-eqb}
use Rattle.frames.proofs.WordLaws.{rows_length}
use Rattle.searching.specs.Reach.{prune_by}
use Rattle.matchframe.proofs.turnrows.last_prune.Goals as goal

pub returns-then-left-eq0 : goal.returns-then-left-eq0
unfolding prune_by
returns-then-left-eq0 c = simp (rows_length, eq-eqb _ _ c.if-left-eq0.true)
