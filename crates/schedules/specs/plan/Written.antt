-- What the schedule writes: the whole-table matches of every left row, though it may take only some of the right frames. The statement; its proof stands in proofs/.
-- Assumes nothing.
use Rattle.std.specs.Prelude.{◌≡◌, List, map, ◌≤◌}
use Rattle.frames.specs.Cells.{Words}
use Rattle.order.specs.options.Options.{columns, right_columns, answer_columns}
use Rattle.order.specs.declared.options.Options.{Options}
use Rattle.buffer.specs.area.Area.{capacity}
use Rattle.lists.specs.Lists.{start, events, rows_in, outputs, matches_in}
use Rattle.lists.specs.WholeTables.{due_over}
use Rattle.schedules.specs.plan.Schedule.{schedule}
use Rattle.schedules.specs.plan.Plan.{Planned, figures}

-- With room for the first figure, the matches that the schedule writes are those of all left rows over all right rows, the frames that it never took included.
abbrev pub Writes : Type 0
Writes =
    (o : Options) (l r : Words) (lefts rights outs : List Words) → Planned o l lefts rights outs → (figures o lefts rights).rows ≤ capacity (right_columns o) r
    → matches_in (answer_columns o) (outputs (events (start o l r) (schedule o l r lefts rights outs))) ≡ map (due_over o (rows_in (right_columns o) rights)) (rows_in (columns o) lefts)
