-- Each pair joined by the schedule of module plan, one after the other: what a driver for a list of boundaries writes. The statement; its proof stands in proofs/.
-- Assumes nothing.
use Rattle.std.specs.Prelude.{◌≡◌, List, [], ◌∷◌, ◌++◌, map, ℕ, ◌+◌, ◌≤◌, length}
use Rattle.frames.specs.Cells.{Rows, Words}
use Rattle.order.specs.options.Options.{columns, right_columns, answer_columns}
use Rattle.order.specs.declared.options.Options.{Options}
use Rattle.buffer.specs.area.Area.{capacity}
use Rattle.lists.specs.Lists.{start, events, rows_in, Entry, outputs, matches_in}
use Rattle.lists.specs.WholeTables.{due_over, Each}
use Rattle.schedules.specs.plan.Schedule.{schedule}
use Rattle.schedules.specs.plan.Plan.{Planned, figures}
use Rattle.cutting.specs.cutpairs.Cut.{Pair, cut_by}
use Rattle.schedules.specs.cuts.Apart.{BothSorted, later_entry}

-- A pair's frames on either side, with an output for each left frame, and the two areas as they are when its turn comes: any words.
pub record Load : Type 0 where
  pub left : Words
  pub right : Words
  pub lefts : List Words
  pub rights : List Words
  pub outs : List Words

-- They are the frames of the pair, and the areas are large enough for its schedule.
pub record Fits (o : Options) (p : Pair) (j : Load) : Type 0 where
  pub planned : Planned o j.left j.lefts j.rights j.outs
  pub room : (figures o j.lefts j.rights).rows ≤ capacity (right_columns o) j.right
  pub left : rows_in (columns o) j.lefts ≡ p.left
  pub right : rows_in (right_columns o) j.rights ≡ p.right

-- What its schedule writes.
abbrev pub scheduled : Options → Load → List Entry
scheduled o j = matches_in (answer_columns o) (outputs (events (start o j.left j.right) (schedule o j.left j.right j.lefts j.rights j.outs)))

-- The answers appended as one table, where n right rows stand before the first pair.
unfoldable pub all_scheduled : Options → ℕ → List Pair → List Load → List Entry
all_scheduled o n [] js = []
all_scheduled o n (p ∷ ps) [] = []
all_scheduled o n (p ∷ ps) (j ∷ js) = map (later_entry n) (scheduled o j) ++ all_scheduled o (n + length p.right) ps js

-- It is the join of the uncut tables, whatever the boundaries.
abbrev pub UncutScheduled : Type 0
UncutScheduled = (o : Options) (gs : Rows) (p : Pair) → BothSorted o p → (js : List Load) → Each (Fits o) (cut_by o gs p) js → all_scheduled o 0 (cut_by o gs p) js ≡ map (due_over o p.right) p.left
