-- The loop of `choices::put_nothing`: the rows from i on are still to be laid. Assumes nothing.
use Rattle.std.specs.Prelude.{Option, None}
use mathlib.Core.Path.{◌≡◌}
use mathlib.Core.List.{List, map}
use Prim.Native.Nat.{ℕ, ◌*◌, ◌≤◌, ◌<◌}
use lib.ListN.{length}
use Rattle.frames.specs.Cells.{Cell, Words, row_from}
use Rattle.matching.specs.Stretches.{between, lay}
use Rattle.matchrun.proofs.choices.put_nothing.Given as goal

abbrev pub invariant-loop-i : goal.invariant-loop-i
invariant-loop-i l = record {
  kept : length l.out ≡ length l.initial.out;
  laid : (f : List Cell → Option ℕ) (w : ℕ) (vs ms : Words) → ((k : ℕ) → l.from ≤ k → k < l.to → f (row_from w (k * w) vs ms) ≡ None)
      → lay l.m l.from (map f (between w l.from l.to vs ms)) l.initial.out ≡ lay l.m l.i (map f (between w l.i l.to vs ms)) l.out;
}
