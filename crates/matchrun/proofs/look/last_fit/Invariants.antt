-- The loop of `look::last_fit`: no row from i on fits. Assumes nothing.
use mathlib.Core.Path.{◌≡◌}
use mathlib.Core.Bool.{false}
use Prim.Native.Nat.{ℕ, ◌+◌, ◌*◌, ◌≤◌, ◌<◌}
use Rattle.frames.specs.Cells.{value}
use Rattle.order.specs.Requires.{cell_at}
use Rattle.order.specs.declared.options.Strategy.TheVariants.{Backward}
use Rattle.matching.specs.Moves.{fits_key}
use Rattle.matchrun.proofs.look.last_fit.Given as goal

abbrev pub invariant-loop-i : goal.invariant-loop-i
invariant-loop-i l = (k : ℕ) → l.i ≤ k → k < l.end → fits_key Backward l.eq (value l.v) (cell_at (k * l.right.width + l.by) l.right.values.now l.right.marks.now) ≡ false
