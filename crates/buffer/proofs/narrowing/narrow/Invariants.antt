-- The loop of `narrowing::narrow`: narrowed by the first j by-values. Assumes nothing.
use mathlib.Core.Path.{◌≡◌}
use Prim.Native.Nat.{ℕ, ◌≤◌, ◌<◌}
use Rattle.order.specs.options.Options.{options_of}
use Rattle.frames.specs.Cells.{row_from, rows_in}
use Rattle.searching.specs.Reach.{narrow}
use Rattle.searching.specs.Requires.{range_of}
use Rattle.buffer.proofs.narrowing.narrow.Given as goal

abbrev pub invariant-loop-j : goal.invariant-loop-j
invariant-loop-j l = record {
  within : l.r.end ≤ l.right.count;
  narrowed : (wl : ℕ) → l.rules.terms.by < wl → range_of l.r ≡ narrow (options_of l.rules) (rows_in l.right) (row_from wl l.p l.left.values.now l.left.marks.now) l.j;
}
