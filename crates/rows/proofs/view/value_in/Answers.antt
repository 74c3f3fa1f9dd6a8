-- `view::value_in` meets its contract: the cell's value is among the words, at its place. Assumes nothing.
use Rattle.std.proofs.Common.{◌∙◌, arith}
use Rattle.frames.proofs.Signed.{back}
use Rattle.rows.proofs.view.PlaceLaws.{whole_length, cell_room, value_place}
use Rattle.rows.proofs.view.value_in.Goals as goal

pub overflow_mul-result : goal.overflow_mul-result
overflow_mul-result c = omega (arith, cell_room _ _ _ _ _ c.requires, whole_length _ _ _ _ _ c.requires)

pub overflow_add-result : goal.overflow_add-result
overflow_add-result c = omega (arith, cell_room _ _ _ _ _ c.requires, whole_length _ _ _ _ _ c.requires)

pub overflow_add-result-2 : goal.overflow_add-result-2
overflow_add-result-2 c = omega (arith, cell_room _ _ _ _ _ c.requires, whole_length _ _ _ _ _ c.requires)

pub offset_bounds-words-row : goal.offset_bounds-words-row
offset_bounds-words-row c = omega (arith, cell_room _ _ _ _ _ c.requires, whole_length _ _ _ _ _ c.requires)

pub bounds-words-row : goal.bounds-words-row
bounds-words-row c = omega (arith, cell_room _ _ _ _ _ c.requires, whole_length _ _ _ _ _ c.requires)

pub returns : goal.returns
returns c = back _ c.result-1.given ∙ value_place _ _ _ _ _ c.requires
