-- The loop of `framerule::rest_fine`: all pairs fit if those that are left do. Assumes nothing.
use Rattle.std.proofs.Common.{◌≡◌, drop}
use Rattle.frames.specs.Frame.{pairs_fine}
use Rattle.rows.proofs.framerule.rest_fine.Given as goal

abbrev pub invariant-loop-i : goal.invariant-loop-i
invariant-loop-i l = pairs_fine (drop l.from l.values) (drop l.from l.marks) ≡ pairs_fine (drop l.i l.values) (drop l.i l.marks)
