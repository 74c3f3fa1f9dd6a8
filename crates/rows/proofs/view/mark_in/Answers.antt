-- `view::mark_in` meets its contract: the cell's mark is among the words, at its place. Assumes nothing.
use Rattle.std.proofs.Common.{◌∙◌, arith}
use Rattle.frames.proofs.Signed.{back}
use Rattle.rows.proofs.view.PlaceLaws.{whole_length, cell_room, mark_place}
use Rattle.rows.proofs.view.mark_in.Goals as goal

pub overflow_mul-result : goal.overflow_mul-result
overflow_mul-result c = omega (arith, cell_room _ _ _ _ _ c.requires, whole_length _ _ _ _ _ c.requires)

pub overflow_add-result : goal.overflow_add-result
overflow_add-result c = omega (arith, cell_room _ _ _ _ _ c.requires, whole_length _ _ _ _ _ c.requires)

pub overflow_mul-result-2 : goal.overflow_mul-result-2
overflow_mul-result-2 c = omega (arith, cell_room _ _ _ _ _ c.requires, whole_length _ _ _ _ _ c.requires)

pub overflow_add-result-2 : goal.overflow_add-result-2
overflow_add-result-2 c = omega (arith, cell_room _ _ _ _ _ c.requires, whole_length _ _ _ _ _ c.requires)

pub overflow_add-result-3 : goal.overflow_add-result-3
overflow_add-result-3 c = omega (arith, cell_room _ _ _ _ _ c.requires, whole_length _ _ _ _ _ c.requires)

pub offset_bounds-words-rows : goal.offset_bounds-words-rows
offset_bounds-words-rows c = omega (arith, cell_room _ _ _ _ _ c.requires, whole_length _ _ _ _ _ c.requires)

pub bounds-words-rows : goal.bounds-words-rows
bounds-words-rows c = omega (arith, cell_room _ _ _ _ _ c.requires, whole_length _ _ _ _ _ c.requires)

pub returns : goal.returns
returns c = back _ c.result-1.given ∙ mark_place _ _ _ _ _ c.requires
