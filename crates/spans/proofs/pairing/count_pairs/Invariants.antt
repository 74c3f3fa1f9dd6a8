-- The loop of `pairing::count_pairs`: the pairs of the intervals that are left are still to be counted. Assumes nothing.
use mathlib.Core.Path.{◌≡◌}
use Prim.Native.Nat.{◌+◌, ◌-◌, ◌*◌, ◌≤◌}
use lib.ListN.{length}
use Rattle.spans.specs.Requires.{ported}
use Rattle.spans.specs.Port.{ported_from}
use Rattle.frames.specs.Cells.{rows_of}
use Rattle.spans.proofs.WalkLaws.{rest}
use Rattle.spans.proofs.pairing.count_pairs.Given as goal

abbrev pub invariant-loop-i : goal.invariant-loop-i
invariant-loop-i l =
    let p = l.points in
    let q = l.intervals in
    record {
      few : l.count ≤ l.i * 4096;
      counted : length (ported l.b p.count p.values.now p.marks.now q.count q.values.now q.marks.now) ≡ l.count + length (ported_from l.b (rows_of 1 p.count p.values.now p.marks.now) l.i (rest 2 (l.i * 2) (q.count - l.i) q.values.now q.marks.now));
    }
