-- What is claimed of the figures that are worked out from the rows alone. Assumes nothing.
use Rattle.std.specs.Prelude.{◌≡◌, true, false, List, [], ◌∷◌, map, ℕ, ◌^◌, ◌≤◌, ◌<◌, length}
use Rattle.frames.specs.Cells.{Words}
use Rattle.frames.specs.Frame.{row_count, frame_words, is_frame, frame_rows}
use Rattle.order.specs.options.Options.{columns, refused_options, right_columns, answer_columns}
use Rattle.order.specs.Order.{sorted}
use Rattle.order.specs.Listed.{lacks_code}
use Rattle.order.specs.declared.options.Options.{Options}
use Rattle.buffer.specs.area.Area.{capacity}
use Rattle.frames.specs.outcomes.Answers.{most_rows}
use Rattle.lists.specs.Lists.{start, events, rows_in, outputs, back_to_back}
use Rattle.lists.specs.WholeTables.{Each}
use Rattle.planning.specs.Plan.{plan}
use Rattle.planning.specs.declared.Figures.{Figures}
use Rattle.schedules.specs.plan.Schedule.{schedule, most_held, turn_calls, rights_taken, meets_no_room}

-- Each is a frame of c columns.
abbrev pub AllFrames : ℕ → List Words → Type 0
AllFrames c [] = Unit {0}
AllFrames c (f ∷ fs) = (is_frame c f ≡ true) × AllFrames c fs

-- Two sorted tables in frames, without a value that the list of ranks lacks, with left words and output enough; and the counts that no memory reaches.
pub record Planned (o : Options) (l : Words) (lefts rights outs : List Words) : Type 0 where
  pub allowed : refused_options o ≡ false
  pub left_frames : AllFrames (columns o) lefts
  pub right_frames : AllFrames (right_columns o) rights
  pub left_sorted : sorted o (rows_in (columns o) lefts) ≡ true
  pub right_sorted : sorted o (rows_in (right_columns o) rights) ≡ true
  pub left_codes : lacks_code o (rows_in (columns o) lefts) ≡ false
  pub right_codes : lacks_code o (rows_in (right_columns o) rights) ≡ false
  pub left_room : length (back_to_back lefts) ≤ length l
  pub outputs : Each (λ f out. frame_words (row_count f) (answer_columns o) ≤ length out) lefts outs
  pub few_rights : length (rows_in (right_columns o) rights) ≤ most_rows
  pub few_lefts : length lefts < 2 ^ 63

-- The plan, from the frames' rows.
abbrev pub figures : Options → List Words → List Words → Figures
figures o lefts rights = plan o (map (frame_rows (columns o)) lefts) (map (frame_rows (right_columns o)) rights)

module _ (o : Options) (l r : Words) (lefts rights outs : List Words) where
  -- No right frame is refused by 6, every left frame gets written, and the schedule has these figures.
  pub record Holds (p : Figures) : Type 0 where
    pub unrefused : meets_no_room (events (start o l r) (schedule o l r lefts rights outs)) ≡ false
    pub written : length (outputs (events (start o l r) (schedule o l r lefts rights outs))) ≡ length lefts
    pub rows : most_held (start o l r) (schedule o l r lefts rights outs) ≡ p.rows
    pub turns : turn_calls (events (start o l r) (schedule o l r lefts rights outs)) ≡ p.turns
    pub rights_taken : rights_taken (events (start o l r) (schedule o l r lefts rights outs)) ≡ p.rights

  -- A right frame is refused by 6.
  abbrev pub Short : Type 0
  Short = meets_no_room (events (start o l r) (schedule o l r lefts rights outs)) ≡ true

-- The first figure is exact: with room for so many right rows no right frame is refused by 6, with room for fewer one is.
pub record Plans : Type 0 where
  pub enough : (o : Options) (l r : Words) (lefts rights outs : List Words) → Planned o l lefts rights outs → (figures o lefts rights).rows ≤ capacity (right_columns o) r → Holds o l r lefts rights outs (figures o lefts rights)
  pub short : (o : Options) (l r : Words) (lefts rights outs : List Words) → Planned o l lefts rights outs → capacity (right_columns o) r < (figures o lefts rights).rows → Short o l r lefts rights outs
