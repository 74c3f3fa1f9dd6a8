-- The loop of `scan::best_row`: the best of the rows before j, and what the rows from j on still decide. Assumes nothing.
use mathlib.Core.Path.{◌≡◌}
use mathlib.Core.List.{List}
use Prim.Native.Nat.{ℕ, ◌+◌}
use Rattle.frames.specs.Cells.{Cell, value}
use Rattle.order.specs.options.Options.{without_list}
use Rattle.order.specs.Order.{key_of}
use Rattle.matching.specs.Match.{nobody, fits, choose}
use Rattle.matching.specs.Stretches.{between, hit_at}
use Rattle.matching.specs.Loops.{BestIn}
use Rattle.matchrun.proofs.scan.best_row.Given as goal

abbrev pub invariant-loop-j : goal.invariant-loop-j
invariant-loop-j l = record {
  kept : BestIn (without_list l.o) l.right.width l.to l.right.values.now l.right.marks.now l.best;
  met : (first : ℕ) (x : List Cell) → key_of (without_list l.o) x ≡ value l.v
      → choose (without_list l.o) x (fits (without_list l.o) x) nobody (first + l.from) (between l.right.width l.from l.to l.right.values.now l.right.marks.now) ≡ choose (without_list l.o) x (fits (without_list l.o) x) (hit_at first l.right.width l.to l.right.values.now l.right.marks.now l.best) (first + l.j) (between l.right.width l.j l.to l.right.values.now l.right.marks.now);
}
