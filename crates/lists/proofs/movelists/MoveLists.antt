-- A move changes no later answer: what it leaves holds the same (moved_same), and where that stands is not told (elsewhere). Assumes nothing.
use Rattle.std.specs.Prelude.{Ok}
use mathlib.Core.Path.{◌≡◌, sym, ◌∙◌}
use mathlib.Core.Bool.{false}
use Rattle.frames.specs.Cells.{Words}
use Rattle.node.specs.State.{bad_join}
use Rattle.node.specs.moves.Moves.{move_call, MovedSame}
use Rattle.node.proofs.moves.MoveLaws.{moved_same, move_good}
use Rattle.lists.specs.Lists.{World}
use Rattle.lists.specs.Elsewhere.{SameLive}
use Rattle.lists.proofs.Elsewhere.{elsewhere}
use Rattle.lists.specs.movelists.MoveLists.{moved_to, MoveLists}

moved_live : (w : World) (new_left new_right : Words) → (move_call w.join w.left w.right new_left new_right).answer ≡ Ok tt → SameLive (moved_to w new_left new_right) w
moved_live w new_left new_right e =
    let m : MovedSame w.join w.left w.right new_left new_right = moved_same w.join w.left w.right new_left new_right e in
    let g : bad_join w.join w.left w.right ≡ false = move_good w.join w.left w.right new_left new_right e in
    record {
      join = rw m.join;
      bad = rw m.join (m.fits ∙ sym g);
      waits = rw m.join m.waits;
      values = rw m.join m.values;
      marks = rw m.join m.marks;
    }

pub move_lists : MoveLists
move_lists w new_left new_right e =
    let s = moved_live w new_left new_right e in
    record { same = s; later = elsewhere.list (moved_to w new_left new_right) w s }
