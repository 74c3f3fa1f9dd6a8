use Rattle.callrules.proofs.ports.told.Goals as goal

pub returns-in-Running : goal.returns-in-Running
returns-in-Running c = rw (c.in-Running.is, ← c.ready_unless_any.ensures, ← c.ready_unless_any-in-Running.ensures, ← c.ready_unless_any-in-Running-2.ensures)

pub returns-in-Flush : goal.returns-in-Flush
returns-in-Flush c = rw (c.in-Flush.is, ← c.ready_unless.ensures, ← c.ready_unless-in-Flush.ensures)

pub returns-in-Done : goal.returns-in-Done
returns-in-Done c = rw c.in-Done.is
