-- The loop of `cursor::first_key`: no row before i has a key. Assumes nothing.
use mathlib.Core.Path.{◌≡◌}
use mathlib.Core.Bool.{true}
use Prim.Native.Nat.{ℕ, ◌+◌, ◌*◌, ◌≤◌, ◌<◌}
use Rattle.frames.specs.Cells.{is_null, Words}
use Rattle.order.specs.Requires.{cell_at}
use Rattle.matchrun.proofs.cursor.first_key.Given as goal

abbrev pub invariant-loop-i : goal.invariant-loop-i
invariant-loop-i l = (vs : Words) (k : ℕ) → l.from ≤ k → k < l.i → is_null (cell_at (k * l.w + l.by) vs l.marks) ≡ true
