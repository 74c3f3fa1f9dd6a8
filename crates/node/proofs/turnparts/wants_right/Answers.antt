use Rattle.node.proofs.turnparts.wants_right.Goals as goal

pub returns-then-j : goal.returns-then-j
returns-then-j c = simp c.if-j.true

pub returns : goal.returns
returns c = simp c.if-j.false c.need_more.ensures
