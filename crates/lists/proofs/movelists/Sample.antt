-- A move and a turn after it, by computation: rows 10 and 20 and a frame 15, both behind words that were freed, go to longer areas; the turn answers as it does
-- without the move. (The first moves of oracle/driver/moves.txt.) Assumes nothing.
use Rattle.std.specs.Prelude.{Ok, Err, None}
use mathlib.Core.Path.{◌≡◌, refl}
use mathlib.Core.Bool.{true}
use mathlib.Core.List.{List, [], ◌∷◌}
use Prim.Native.Nat.{ℕ}
use lib.IntN.{pos, negsuc}
use Rattle.frames.specs.Cells.{Words}
use Rattle.order.proofs.Samples.{plain, keys, frame_of}
use Rattle.frames.specs.declared.refusals.Refusal.TheVariants.{NoRoom}
use Rattle.node.specs.State.{held_values, held_marks}
use Rattle.node.specs.moves.Moves.{move_answer, left_moved, right_moved, move_call}
use Rattle.lists.specs.Lists.{left, right, turn, World, start, final}
use Rattle.lists.proofs.Script.{wrote, looks, areas, left_area, right_area, space, speak_all, tells}
use Rattle.lists.specs.movelists.MoveLists.{moved_to}

unfoldable pub frame : List ℕ → Words
frame ks = frame_of 1 (keys ks)

-- Backward over 5, 10, 20 with sales 12 and 15, the first of them turned.
unfoldable pub before : World
unfolding frame
before = final (start (plain 0 true) (left_area 8) (right_area 6)) (right (frame (5 ∷ 10 ∷ 20 ∷ [])) ∷ left (frame (12 ∷ [])) ∷ left (frame (15 ∷ [])) ∷ turn (space 4) ∷ [])

-- To areas of 5 and 10 words it is taken; one word or one row less is refused.
pub answers : ((move_call before.join before.left before.right (left_area 5) (right_area 10)).answer ≡ Ok tt)
    × ((move_call before.join before.left before.right (left_area 3) (right_area 10)).answer ≡ Err NoRoom)
    × ((move_call before.join before.left before.right (left_area 4) (right_area 3)).answer ≡ Err NoRoom)
unfolding before speak_all final move_call move_answer
answers = (refl, refl, refl)

-- A turn and what it leaves, without the move and after it.
pub stays : tells before (turn (space 4) ∷ [])
    ≡ wrote 2 (pos 1 ∷ pos 1 ∷ pos 1 ∷ pos 1 ∷ [])
    ∷ looks (1 ∷ 2 ∷ 1 ∷ 8 ∷ 0 ∷ 0 ∷ 0 ∷ 0 ∷ 4 ∷ []) None None
    ∷ areas (pos 1 ∷ pos 1 ∷ pos 12 ∷ pos 1 ∷ pos 1 ∷ pos 1 ∷ pos 15 ∷ pos 1 ∷ []) (pos 5 ∷ pos 10 ∷ pos 20 ∷ pos 1 ∷ pos 1 ∷ pos 1 ∷ [])
    ∷ []
unfolding before tells final
stays = refl

pub moves : tells (moved_to before (left_area 5) (right_area 10)) (turn (space 4) ∷ [])
    ≡ wrote 2 (pos 1 ∷ pos 1 ∷ pos 1 ∷ pos 1 ∷ [])
    ∷ looks (0 ∷ 2 ∷ 1 ∷ 4 ∷ 0 ∷ 0 ∷ 0 ∷ 0 ∷ 4 ∷ []) None None
    ∷ areas (pos 1 ∷ pos 1 ∷ pos 15 ∷ pos 1 ∷ pos 1 ∷ [])
    (pos 10 ∷ pos 20 ∷ pos 4 ∷ negsuc 3 ∷ pos 1 ∷ pos 1 ∷ pos 1 ∷ pos 3 ∷ negsuc 4 ∷ pos 0 ∷ [])
    ∷ []
unfolding before tells final move_call move_answer left_moved right_moved held_values held_marks
moves = refl
