-- The loop of `cutroom::any_short`: no pair so far is too short, and what is left of both tables has the answer of the whole. Assumes nothing.
use Rattle.order.specs.options.Options.{options_of}
use Rattle.cutting.proofs.cutroom.RoomLaws.{Stands}
use Rattle.cutting.proofs.cutroom.any_short.Given as goal

abbrev pub invariant-loop-i : goal.invariant-loop-i
invariant-loop-i l =
    Stands (options_of l.rules) l.left.width l.left.count l.left.values.now l.left.marks.now l.right.width l.right.count l.right.values.now l.right.marks.now l.bounds.count l.bounds.values.now l.bounds.marks.now l.l l.r l.i l.a l.b
