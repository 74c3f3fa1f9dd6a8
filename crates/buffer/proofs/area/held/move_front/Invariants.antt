-- The loop of `held::move_front`: the first i words are moved. Assumes nothing.
use mathlib.Core.Path.{◌≡◌}
use Rattle.buffer.specs.area.Area.{moved}
use Rattle.buffer.proofs.area.held.move_front.Given as goal

abbrev pub invariant-loop-i : goal.invariant-loop-i
invariant-loop-i l = l.area ≡ moved l.start 0 l.i l.initial.area
