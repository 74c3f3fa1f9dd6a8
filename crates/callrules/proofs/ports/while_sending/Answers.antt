use Rattle.callrules.proofs.ports.while_sending.Goals as goal

pub returns-in-Done-left : goal.returns-in-Done-left
returns-in-Done-left c = rw (c.in-Running.is, c.in-Done-left.is) c.flushed.ensures

pub returns-in-Flush : goal.returns-in-Flush
returns-in-Flush c = rw c.in-Flush.is c.flushed-in-Flush.ensures
