-- `subtables::count_sales` meets its contract. Assumes nothing.
use Prim.Native.Nat.{◌+◌, ◌*◌}
use native.Mathlib.Omega.{arith}
use borrow.Author.Rules.{rules}
use lib.IntN.{pos}
use lib.ListN.{get_or}
use Rattle.frames.proofs.Signed.{back}
use Rattle.subtotals.specs.subtables.Sheet.{Summed}
use Rattle.subtotals.proofs.subtables.SheetLaws.{walk_on_lem, walk_breaks, walk_ends}
use Rattle.subtotals.proofs.subtables.count_sales.Goals.{After-with_row-s}
use Rattle.subtotals.proofs.subtables.count_sales.Goals as goal

-- The sum with row i.
more : (c : After-with_row-s) → let a = c.args in let k = c.loop-i.i * a.w + a.by in Summed c.loop-i.s (get_or a.values.now k (pos 0)) (get_or a.values.now (k + 1) (pos 0)) c.with_row-s.result
more c =
    let a = c.args in
    let k = c.loop-i.i * a.w + a.by in
    rw (back (get_or a.values.now k (pos 0)) (search rules), back (get_or a.values.now (k + 1) (pos 0)) (search rules)) at c.with_row-s.ensures

pub returns-then-s-gt-MOST_SALES : goal.returns-then-s-gt-MOST_SALES
returns-then-s-gt-MOST_SALES c =
    let a = c.args in
    walk_breaks a.by a.w a.values.now a.n a.sum c.loop-i.i c.loop-i.s _ c.loop-i-test.true c.loop-i.invariant (more (goal.at.returns-then-s-gt-MOST_SALES c).After-with_row-s) c.if-s-gt-MOST_SALES.true

pub loop-i-preserved : goal.loop-i-preserved
loop-i-preserved c =
    let a = c.args in
    walk_on_lem a.by a.w a.values.now a.n a.sum c.loop-i.i c.loop-i.s _ c.loop-i-test.true c.loop-i.invariant (more (goal.at.loop-i-preserved c).After-with_row-s) c.if-s-gt-MOST_SALES.false

pub returns : goal.returns
returns c =
    let a = c.args in
    walk_ends a.by a.w a.values.now a.n a.sum c.loop-i.i c.loop-i.s (omega (arith, c.loop-i-test.false)) c.loop-i.invariant
