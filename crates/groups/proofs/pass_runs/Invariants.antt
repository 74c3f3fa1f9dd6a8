-- The loop of `groups::pass_runs`: the cursor is at a run, and what it has passed changes nothing. Assumes nothing.
use Rattle.std.proofs.Common.{◌≡◌, ℕ, ◌+◌, ◌-◌, ◌<◌}
use Rattle.frames.specs.Cells.{row_from}
use Rattle.order.specs.options.Options.{options_of}
use Rattle.matching.specs.Groups.{runs, pass}
use Rattle.matching.specs.Stretches.{between}
use Rattle.matching.specs.Loops.{RunAt}
use Rattle.groups.proofs.pass_runs.Given as goal

abbrev pub decreases-loop-at : goal.decreases-loop-at
decreases-loop-at l = l.right.count - l.at

abbrev pub invariant-loop-at : goal.invariant-loop-at
invariant-loop-at l =
    let r = l.right in
    let o = options_of l.rules in
    record {
      run : RunAt o r.width r.count r.values.now r.marks.now l.at l.end;
      passed : (wl : ℕ) → l.rules.terms.by < wl → (first : ℕ)
          → pass o (row_from wl l.p l.left.values.now l.left.marks.now) (first + l.from) (runs o (between r.width l.from r.count r.values.now r.marks.now)) ≡ pass o (row_from wl l.p l.left.values.now l.left.marks.now) (first + l.at) (runs o (between r.width l.at r.count r.values.now r.marks.now));
    }
