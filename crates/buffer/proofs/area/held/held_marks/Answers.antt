use Prim.Native.Nat.{◌+◌, ◌*◌, ◌≤◌}
use native.Mathlib.Omega.{arith}
use lib.ListN.{length}
use Rattle.buffer.specs.area.Area.{capacity}
use Rattle.buffer.proofs.area.AreaLaws.{base_room, rows_words, to_end}
use Rattle.buffer.proofs.area.held.held_marks.Goals as goal

room : (c : goal.After-capacity) → let a = c.args in (c.capacity.result + a.base) * a.c ≤ length a.area.now
room c = let a = c.args in rw c.capacity.ensures (base_room a.c a.base a.area.now c.requires.within).1

pub overflow_add-p : goal.overflow_add-p
overflow_add-p c = let a = c.args in omega (arith, room c, rows_words (c.capacity.result + a.base) a.c c.requires.columns.some)

pub overflow_mul-p : goal.overflow_mul-p
overflow_mul-p c = omega (arith, room c)

pub offset_bounds-area-p : goal.offset_bounds-area-p
offset_bounds-area-p c = omega (arith, room c)

pub slice_bounds-result-count : goal.slice_bounds-result-count
slice_bounds-result-count c = omega (arith, room c)

pub slice_bounds-result-start : goal.slice_bounds-result-start
slice_bounds-result-start c = omega (arith, room c)

pub returns : goal.returns
returns c =
    let a = c.args in
    rw c.capacity.ensures (to_end ((capacity a.c a.area.now + a.base) * a.c) a.area.now)
