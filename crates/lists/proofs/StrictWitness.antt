-- The strict theorem at work on the list of SCOPE 21.12: its premises are met, the left rows are not sorted, and the third turn is refused by 8. Assumes nothing.
use mathlib.Core.Path.{◌≡◌, refl, ap, ◌∙◌}
use mathlib.Core.Bool.{true, false, not}
use mathlib.Core.List.{List, [], ◌∷◌, ◌++◌, map}
use lib.IntN.{pos, negsuc}
use Rattle.frames.specs.Cells.{null, value, Words}
use Rattle.order.specs.ranks.Ranks.{bad_ranks}
use Rattle.order.specs.options.Options.{bad_options, refused_options}
use Rattle.order.specs.declared.options.Options.{Options}
use Rattle.order.specs.declared.options.Check.TheVariants.{Strict}
use Rattle.order.specs.Order.{sorted}
use Rattle.order.proofs.Samples.{options, checking, row, frame_of}
use Rattle.lists.specs.Lists.{Call, left, right, turn, events, final, left_frames, right_frames, rows_in, outputs}
use Rattle.lists.specs.WholeTables.{rights, matches, due, turned_rows}
use Rattle.lists.specs.Strict.{is_left_order, judged_order, answer_next, next_rows}
use Rattle.lists.proofs.Script.{left_area, right_area, space, speak_all}
use Rattle.lists.proofs.Strict.{strict_theorem}

pub o : Options
o = checking Strict (options 1 0 true (negsuc 0) false [] [])

-- Two frames were turned, the third waits.
pub calls : List Call
calls =
    right (frame_of 2 (map row ((2 ∷ 1 ∷ []) ∷ (2 ∷ 7 ∷ []) ∷ (3 ∷ 1 ∷ []) ∷ (4 ∷ 1 ∷ []) ∷ [])))
    ∷ left (frame_of 2 (row (2 ∷ 5 ∷ []) ∷ [])) ∷ turn (space 4)
    ∷ left (frame_of 2 ((value (pos 3) ∷ null ∷ []) ∷ [])) ∷ turn (space 4)
    ∷ left (frame_of 2 (row (2 ∷ 8 ∷ []) ∷ [])) ∷ []

pub L : Words
L = left_area 6

pub R : Words
R = right_area 16

-- The next turn judges the order of its left rows; right rows are sorted, and left rows are not: the third is before the second.
pub met : (judged_order (answer_next o L R calls (space 4)) ≡ true) × (sorted o (rights o L R calls) ≡ true) × (sorted o (turned_rows o L R calls ++ next_rows o L R calls) ≡ false)
unfolding o calls L R speak_all events final left_frames right_frames rows_in outputs
met = (refl, refl, refl)

-- So it answers 8.
pub eight : is_left_order (answer_next o L R calls (space 4)) ≡ true
unfolding o refused_options bad_options bad_ranks
eight = (strict_theorem o refl L R calls).exactly_eight refl (space 4) met.0 ∙ ap not met.2

-- And what was written before is what is due.
pub right_so_far : matches o L R calls ≡ map (due o L R calls) (turned_rows o L R calls)
unfolding o refused_options bad_options bad_ranks
right_so_far = ((strict_theorem o refl L R calls).right_anyway refl met.1).0
