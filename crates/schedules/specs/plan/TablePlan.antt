-- The plan of two tables, told by the schedule over the frames that their heights cut. The statement; its proof stands in proofs/. Assumes nothing.
use Rattle.std.specs.Prelude.{◌≡◌, List, map, ℕ, ◌^◌, ◌≤◌, ◌<◌, length, Ok}
use Rattle.frames.specs.Cells.{Words}
use Rattle.frames.specs.Frame.{row_count, frame_words, values_in, marks_in, frame_rows}
use Rattle.order.specs.options.Options.{columns, right_columns, answer_columns}
use Rattle.order.specs.declared.options.Options.{Options}
use Rattle.buffer.specs.area.Area.{capacity}
use Rattle.frames.specs.outcomes.Answers.{most_rows}
use Rattle.lists.specs.Lists.{start, events, outputs, matches_in, back_to_back}
use Rattle.lists.specs.WholeTables.{due_over, Each}
use Rattle.planning.specs.Heights.{heights_of}
use Rattle.planning.specs.Call.{plan_call}
use Rattle.planning.specs.declared.Figures.{Figures}
use Rattle.schedules.specs.plan.Schedule.{schedule}
use Rattle.schedules.specs.plan.Plan.{Holds, Short}
use Rattle.schedules.specs.plan.Table.{frames_by}

-- The frames of these heights of a table of c columns.
abbrev pub cut_into : ℕ → Words → Words → List Words
cut_into c table hs = frames_by c (heights_of hs) (values_in c table) (marks_in c table)

module _ (o : Options) (left right hl hr l r : Words) (outs : List Words) where
  -- The frames of both tables.
  abbrev pub left_cut : List Words
  left_cut = cut_into (columns o) left hl

  abbrev pub right_cut : List Words
  right_cut = cut_into (right_columns o) right hr

  -- Left words and output enough; and the counts that no memory reaches.
  pub record Lent : Type 0 where
    pub left_room : length (back_to_back left_cut) ≤ length l
    pub outputs : Each (λ f out. frame_words (row_count f) (answer_columns o) ≤ length out) left_cut outs
    pub few_rights : row_count right ≤ most_rows
    pub few_lefts : length hl < 2 ^ 63

  -- The schedule over these frames: with R at least the first figure, with less, and what it writes.
  pub record Told (p : Figures) : Type 0 where
    pub enough : p.rows ≤ capacity (right_columns o) r → Holds o l r left_cut right_cut outs p
    pub short : capacity (right_columns o) r < p.rows → Short o l r left_cut right_cut outs
    pub written : p.rows ≤ capacity (right_columns o) r
        → matches_in (answer_columns o) (outputs (events (start o l r) (schedule o l r left_cut right_cut outs))) ≡ map (due_over o (frame_rows (right_columns o) right)) (frame_rows (columns o) left)

-- SCOPE 19.25: whatever figures the call answers are told so.
abbrev pub TablePlans : Type 0
TablePlans =
    (o : Options) (left right hl hr l r : Words) (outs : List Words) (p : Figures) → plan_call o left right hl hr ≡ Ok p → Lent o left right hl hr l r outs
    → Told o left right hl hr l r outs p
