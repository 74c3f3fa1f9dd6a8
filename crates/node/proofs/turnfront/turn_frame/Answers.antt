use mathlib.Core.Path.{◌≡◌, refl}
use Prim.Native.Nat.{◌+◌, ◌*◌, ◌^◌, ◌<◌}
use native.Mathlib.Omega.{arith}
use lib.ListN.{length}
use Rattle.node.proofs.turnfront.TurnLaws.{has_count}
use Rattle.node.proofs.turnfront.TurnLaws.{parts_fit, frame_in, frame_turned, base_in}
use Rattle.node.proofs.turnfront.turn_frame.Goals as goal

pub left_columns-c-requires : goal.left_columns-c-requires
left_columns-c-requires c = c.requires.few.by

pub right_columns-w-requires : goal.right_columns-w-requires
right_columns-w-requires c = (c.requires.few.by, c.requires.carried)

pub row_count-n-requires : goal.row_count-n-requires
row_count-n-requires c = has_count _ _ c.requires.frame

-- The frame's words, told by its rows.
fit : (c : goal.After-row_count-n) → let a = c.args in 2 + 2 * (c.row_count-n.result * c.left_columns-c.result) ≡ length a.frame.now
fit c = parts_fit c.requires _ _ _ _ c.left_columns-c.ensures c.right_columns-w.ensures c.row_count-n.ensures refl

fits : (c : goal.After-row_count-n) → let a = c.args in length a.frame.now < 2 ^ 64
fits c = let p = c.requires.counts in omega (arith, p.words, p.start)

pub overflow_mul-e : goal.overflow_mul-e
overflow_mul-e c = omega (arith, fit c, fits c)

pub overflow_add-e : goal.overflow_add-e
overflow_add-e c = omega (arith, fit c, fits c)

pub held_values-rv-requires : goal.held_values-rv-requires
held_values-rv-requires c = base_in c.requires _ c.right_columns-w.ensures

pub held_marks-rm-requires : goal.held_marks-rm-requires
held_marks-rm-requires c = base_in c.requires _ c.right_columns-w.ensures

pub slice_bounds-turn_rows-end : goal.slice_bounds-turn_rows-end
slice_bounds-turn_rows-end c = omega (arith, fit c.before.before)

pub offset_bounds-frame-e : goal.offset_bounds-frame-e
offset_bounds-frame-e c = omega (arith, fit c.before.before.before, fits c.before.before.before)

pub slice_bounds-turn_rows-count-2 : goal.slice_bounds-turn_rows-count-2
slice_bounds-turn_rows-count-2 c = omega (arith, fit c.before.before.before)

pub slice_bounds-turn_rows-start-2 : goal.slice_bounds-turn_rows-start-2
slice_bounds-turn_rows-start-2 c = omega (arith, fit c.before.before.before)

pub turn_rows-requires : goal.turn_rows-requires
turn_rows-requires c =
    let r = c in
    rw (c.held_values-rv.ensures, c.held_marks-rm.ensures) (frame_in r.requires _ _ _ _ r.left_columns-c.ensures r.right_columns-w.ensures r.row_count-n.ensures refl)

pub returns : goal.returns
returns c =
    let m = c in
    let r = m in
    frame_turned r.requires _ _ _ _ r.left_columns-c.ensures r.right_columns-w.ensures r.row_count-n.ensures refl r.args.out.now _ _ (rw (m.held_values-rv.ensures, m.held_marks-rm.ensures) at c.turn_rows.ensures)
