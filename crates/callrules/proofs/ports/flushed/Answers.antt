use borrow.Author.Tests.{eq-eqb, ne_eqb}
use Rattle.callrules.proofs.ports.flushed.Goals as goal

pub returns-then-words-eq0 : goal.returns-then-words-eq0
returns-then-words-eq0 c = simp (eq-eqb _ _ c.if-words-eq0.true)

pub returns : goal.returns
returns c = simp (ne_eqb _ _ c.if-words-eq0.false)
