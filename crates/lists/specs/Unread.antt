-- Words outside the held rows and the waiting frames are free and unread: a host may alter them between calls, and no answer tells. The statement; its proof stands in proofs/. Assumes nothing.
use Rattle.std.specs.Prelude.{◌≡◌, List, length}
use Rattle.frames.specs.Cells.{Words}
use Rattle.node.specs.State.{waiting, held_values, held_marks}
use Rattle.node.specs.declared.Join.{Join}
use Rattle.lists.specs.Lists.{Call, World, events, final}

-- Areas that are alike for the join j: as long, with the same waiting frames and the same held rows, word by word. Any other word may differ.
pub record Alike (j : Join) (l r l' r' : Words) : Type 0 where
  pub left_length : length l' ≡ length l
  pub right_length : length r' ≡ length r
  pub waits : waiting j l' ≡ waiting j l
  pub values : held_values j r' ≡ held_values j r
  pub marks : held_marks j r' ≡ held_marks j r

-- One join, and areas that are alike for it.
pub record AlikeWorlds (v w : World) : Type 0 where
  pub join : v.join ≡ w.join
  pub areas : Alike w.join w.left w.right v.left v.right

-- From there any list of calls is answered the same, call by call, with the same words in every output; it leaves the same join, and areas that are
-- alike again.
pub record SameFor (v w : World) (calls : List Call) : Type 0 where
  pub answers : events v calls ≡ events w calls
  pub leaves : AlikeWorlds (final v calls) (final w calls)

-- Of any join, good or bad, any areas and any calls.
abbrev pub Unread : Type 0
Unread = (v w : World) → AlikeWorlds v w → (calls : List Call) → SameFor v w calls
