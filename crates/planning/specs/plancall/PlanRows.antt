-- Two tables by their rows: what their plan answers. Assumes nothing.
use Rattle.planning.specs.declared.Figures.{Figures}
use Rattle.frames.specs.declared.refusals.Refusal.{Refusal}
use Rattle.std.specs.Prelude.{cond, not, ◌&&◌, ◌||◌, length, Result, Ok, Err}
use Rattle.frames.specs.Cells.{Rows, Words}
use Rattle.order.specs.declared.options.Options.{Options}
use Rattle.order.specs.Order.{sorted}
use Rattle.frames.specs.declared.refusals.Refusal.TheVariants.{Unsorted, BadHeights}
use Rattle.planning.specs.Heights.{heights_of, bad_heights, in_frames}
use Rattle.planning.specs.Plan.{plan}

-- SCOPE 19.26: refusals 14 and 17; else the figures.
unfoldable pub rows_planned : Options → Rows → Rows → Words → Words → Result Figures Refusal
rows_planned o L R hl hr =
    cond (not (sorted o L && sorted o R)) (Err Unsorted)
    (cond (bad_heights (length L) hl || bad_heights (length R) hr) (Err BadHeights)
    (Ok (plan o (in_frames (heights_of hl) L) (in_frames (heights_of hr) R))))
