use Prim.Native.Nat.{◌*◌, ◌≤◌}
use native.Mathlib.Omega.{arith}
use lib.ListN.{length}
use Rattle.buffer.proofs.area.AreaLaws.{base_room, to_end}
use Rattle.buffer.proofs.area.held.held_values.Goals as goal

room : (c : goal.Start) → let a = c.args in a.base * a.c ≤ length a.area.now
room c = let a = c.args in (base_room a.c a.base a.area.now c.requires.within).0

pub overflow_mul-p : goal.overflow_mul-p
overflow_mul-p c = omega (arith, room c)

pub offset_bounds-area-p : goal.offset_bounds-area-p
offset_bounds-area-p c = omega (arith, room c)

pub slice_bounds-result-count : goal.slice_bounds-result-count
slice_bounds-result-count c = omega (arith, room c)

pub slice_bounds-result-start : goal.slice_bounds-result-start
slice_bounds-result-start c = omega (arith, room c)

pub returns : goal.returns
returns c = let a = c.args in to_end (a.base * a.c) a.area.now
