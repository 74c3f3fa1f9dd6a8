-- The loop of `look::first_fit`: no row before i fits. Assumes nothing.
use mathlib.Core.Path.{◌≡◌}
use mathlib.Core.Bool.{false}
use Prim.Native.Nat.{ℕ, ◌+◌, ◌*◌, ◌≤◌, ◌<◌}
use Rattle.frames.specs.Cells.{value}
use Rattle.order.specs.Requires.{cell_at}
use Rattle.order.specs.declared.options.Strategy.TheVariants.{Forward}
use Rattle.matching.specs.Moves.{fits_key}
use Rattle.matchrun.proofs.look.first_fit.Given as goal

abbrev pub invariant-loop-i : goal.invariant-loop-i
invariant-loop-i l = (k : ℕ) → l.at ≤ k → k < l.i → fits_key Forward l.eq (value l.v) (cell_at (k * l.right.width + l.by) l.right.values.now l.right.marks.now) ≡ false
