use Rattle.callrules.proofs.ports.next_state.Goals as goal

pub returns-in-Blocked : goal.returns-in-Blocked
returns-in-Blocked c = rw c.in-Blocked.is c.while_sending.ensures

pub returns-in-Ready : goal.returns-in-Ready
returns-in-Ready c = rw c.in-Ready.is c.while_sending-in-Ready.ensures
