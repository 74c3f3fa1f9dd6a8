use Rattle.groups.proofs.stretchkeys.rise_end.Goals as goal

pub returns-then-by-eq1 : goal.returns-then-by-eq1
returns-then-by-eq1 c = let e = c.if-by-eq1.true in let r = c.one_rise.ensures in (rw e r.1, rw e r.2)
