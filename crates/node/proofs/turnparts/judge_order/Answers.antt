use Rattle.frames.proofs.WordLaws.{rows_length}
use Rattle.node.specs.turnparts.Part.{order_answer}
use Rattle.node.proofs.turnparts.judge_order.Goals as goal

pub returns-then-bad_left : goal.returns-then-bad_left
unfolding order_answer
returns-then-bad_left c = simp (← c.bad_left.ensures, c.if-bad_left.true)

pub returns-then-bad_right : goal.returns-then-bad_right
unfolding order_answer
returns-then-bad_right c = let e = c in simp (← e.bad_left.ensures, e.if-bad_left.false, rows_length, ← c.bad_right.ensures, c.if-bad_right.true)

pub returns : goal.returns
unfolding order_answer
returns c = let e = c in simp (← e.bad_left.ensures, e.if-bad_left.false, rows_length, ← c.bad_right.ensures, c.if-bad_right.false)
