-- The loop of `pointsearch::ascending_points`: the points that are left decide. Assumes nothing.
use mathlib.Core.Path.{◌≡◌}
use Prim.Native.Nat.{◌-◌}
use Rattle.frames.specs.Cells.{rows_of}
use Rattle.spans.specs.Span.{ascending_points}
use Rattle.spans.proofs.WalkLaws.{rest}
use Rattle.spans.proofs.pointsearch.ascending_points.Given as goal

abbrev pub invariant-loop-i : goal.invariant-loop-i
invariant-loop-i l =
    let p = l.points in
    ascending_points (rows_of 1 p.count p.values.now p.marks.now) ≡ ascending_points (rest 1 l.i (p.count - l.i) p.values.now p.marks.now)
