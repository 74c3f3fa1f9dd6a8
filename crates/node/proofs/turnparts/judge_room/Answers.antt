use Prim.Native.Nat.{◌*◌, ◌≤◌}
use native.Mathlib.Omega.{arith}
use borrow.Author.Tests.{lt-ltb, le-ltb, eq-eqb, ne_eqb}
use Rattle.frames.specs.Frame.{frame_limit}
use Rattle.frames.proofs.WordLaws.{rows_length}
use Rattle.node.specs.turnparts.Part.{room_answer}
use Rattle.node.proofs.turnparts.PartLaws.{cells_few}
use Rattle.node.proofs.turnparts.judge_room.Goals as goal

pub returns-then-wants_right : goal.returns-then-wants_right
unfolding room_answer
returns-then-wants_right c = simp (← c.wants_right.ensures, c.if-wants_right.true)

-- the answer's cells are few
few : (c : goal.After-answer_columns) → c.args.left.count * c.answer_columns.result ≤ 10 * frame_limit
few c = rw c.answer_columns.ensures (cells_few c.requires)

pub overflow_mul-left : goal.overflow_mul-left
overflow_mul-left c = omega (arith, few c)

pub overflow_mul-left-2 : goal.overflow_mul-left-2
overflow_mul-left-2 c = omega (arith, few c)

pub overflow_add-left : goal.overflow_add-left
overflow_add-left c = omega (arith, few c)

pub returns-then-room-left : goal.returns-then-room-left
unfolding room_answer
returns-then-room-left c =
    let d = c in
    simp (← d.wants_right.ensures, d.if-wants_right.false, rows_length, ← d.answer_columns.ensures, lt-ltb _ _ c.if-room-left.true)

pub returns-then-j-eq-LAST_SEQUENCE : goal.returns-then-j-eq-LAST_SEQUENCE
unfolding room_answer
returns-then-j-eq-LAST_SEQUENCE c =
    let d = c in
    simp (← d.wants_right.ensures, d.if-wants_right.false, rows_length, ← d.answer_columns.ensures, le-ltb _ _ c.if-room-left.false, eq-eqb _ _ c.if-j-eq-LAST_SEQUENCE.true)

pub returns : goal.returns
unfolding room_answer
returns c =
    let d = c in
    simp (← d.wants_right.ensures, d.if-wants_right.false, rows_length, ← d.answer_columns.ensures, le-ltb _ _ c.if-room-left.false, ne_eqb _ _ c.if-j-eq-LAST_SEQUENCE.false)
