-- A move changes no later answer (SCOPE 5.16, 15.19). The statement; its proof stands in proofs/. Assumes nothing.
use Rattle.std.specs.Prelude.{◌≡◌, List, map, Ok}
use Rattle.frames.specs.Cells.{Words}
use Rattle.node.specs.moves.Moves.{move_call}
use Rattle.lists.specs.Lists.{Call, World, events, final}
use Rattle.lists.specs.Elsewhere.{SameLive, no_room}

-- The join and the new areas that a move leaves.
abbrev pub moved_to : World → Words → Words → World
moved_to w new_left new_right =
    let a = move_call w.join w.left w.right new_left new_right in
    record { join = a.join; left = a.left; right = a.right }

-- An accepted move leaves a join that holds the same as the old one. So a list of calls is answered after the move as it is without it, with the same words
-- in every output, if the same frames of it find no room in both; and what it leaves holds the same again.
pub record MovedOn (w : World) (new_left new_right : Words) : Type 0 where
  pub same : SameLive (moved_to w new_left new_right) w
  pub later : (calls : List Call) → map no_room (events (moved_to w new_left new_right) calls) ≡ map no_room (events w calls)
      → (events (moved_to w new_left new_right) calls ≡ events w calls) × SameLive (final (moved_to w new_left new_right) calls) (final w calls)

-- Of any join, good or bad, any areas and any new areas.
abbrev pub MoveLists : Type 0
MoveLists = (w : World) (new_left new_right : Words) → (move_call w.join w.left w.right new_left new_right).answer ≡ Ok tt → MovedOn w new_left new_right
