use mathlib.Core.Path.{sym, ◌∙◌}
use borrow.Author.Tests.{not-true, not-false}
use Rattle.node.proofs.turnfront.TurnLaws.{room_stops, room_goes}
use Rattle.node.proofs.turnfront.turn_rows.Goals as goal

pub returns-then-not-goes_on : goal.returns-then-not-goes_on
returns-then-not-goes_on c = let i = c in rw c.unturned.ensures (room_stops _ _ _ _ _ _ _ i.judge_room-room.ensures (sym i.goes_on.ensures ∙ not-true i.goes_on.result i.if-not-goes_on.true-raw))

pub turn_pruned-requires : goal.turn_pruned-requires
turn_pruned-requires c = let i = c in let x = i in (x.requires, room_goes _ _ _ _ _ _ i.judge_room-room.ensures (sym i.goes_on.ensures ∙ not-false i.goes_on.result i.if-not-goes_on.false-raw))
