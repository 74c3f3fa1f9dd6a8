use mathlib.Core.Path.{ap}
use Rattle.std.proofs.Common.{Ok}
use Rattle.callrules.specs.ports.Ports.{ports_judged, moved_state}
use Rattle.callrules.proofs.ports.move_ports.Goals as goal

pub returns-then-bad : goal.returns-then-bad
unfolding ports_judged moved_state
returns-then-bad c = record { answer = simp c.if-bad.true; state_is = simp c.if-bad.true }

pub returns-then-failed : goal.returns-then-failed
unfolding ports_judged moved_state
returns-then-failed c = record { answer = simp (c.if-bad.false, c.if-failed.true); state_is = simp (c.if-bad.false, c.if-failed.true) }

pub returns : goal.returns
unfolding ports_judged moved_state
returns c = record {
  answer = rw (c.if-bad.false, c.if-failed.false, ← c.next_state-next.ensures) (ap Ok c.told.ensures);
  state_is = rw (c.if-bad.false, c.if-failed.false) c.next_state-next.ensures;
}
