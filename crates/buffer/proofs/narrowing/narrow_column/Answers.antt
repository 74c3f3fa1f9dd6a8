-- `narrowing::narrow_column` meets its contract. Assumes nothing.
use mir.Facts.{to_z-of_z}
use Rattle.buffer.proofs.narrowing.ColumnLaws.{narrowed_to}
use Rattle.buffer.proofs.narrowing.narrow_column.Goals as goal

pub returns : goal.returns
returns c = λ n h.
    let f = c.ranges in
    narrowed_to _ _ _ _ _ _ _ (rw (to_z-of_z f.value, to_z-of_z f.mark) at (c.find-start.ensures n h)) (rw (to_z-of_z f.value, to_z-of_z f.mark) at (c.find-end.ensures n h))
