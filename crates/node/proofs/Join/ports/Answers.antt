use Rattle.node.proofs.CallLaws.{ports_leaves}
use Rattle.node.proofs.Join.ports.Goals as goal

pub returns : goal.returns
returns c = rw c.at_state.ensures (ports_leaves _ _ _ _ _ _ _ c.bad_join-bad.ensures _ c.move_ports-moved.ensures)
