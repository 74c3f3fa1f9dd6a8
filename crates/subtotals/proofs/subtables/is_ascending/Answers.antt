-- `subtables::is_ascending` meets its contract. Assumes nothing.
use mathlib.Core.Path.{◌≡◌, sym, ap, ◌∙◌}
use mathlib.Core.Bool.{◌&&◌}
use Prim.Native.Nat.{suc, ◌+◌, ◌-◌, ◌*◌}
use native.Mathlib.Omega.{arith}
use Rattle.order.specs.options.Options.{options_of}
use Rattle.order.specs.Order.{cmp_group}
use Rattle.std.specs.Ordering.{is_lt}
use Rattle.frames.specs.Cells.{Rows, row_from}
use Rattle.order.proofs.RowLaws.{rest, rest_all}
use Rattle.takings.specs.Subtotals.{ascending, subtotals_of}
use Rattle.subtotals.proofs.subtables.SheetLaws.{rising_more, rising_few, less_by}
use Rattle.subtotals.proofs.subtables.is_ascending.Goals.{In-loop-i}
use Rattle.subtotals.proofs.subtables.is_ascending.Goals as goal

pub loop-i-init : goal.loop-i-init
loop-i-init c =
    let r = c.args.rows in
    let o = options_of c.args.rules in
    let z : (1 - 1) * r.width ≡ 0 = omega arith in
    let y : r.count - (1 - 1) ≡ r.count = omega arith in
    rw (z, y) (ap (λ (z : Rows). ascending o (subtotals_of o z)) (rest_all o r.width r.values.now r.marks.now r.count))

-- The rows that are left, by the two that are compared.
step : (c : In-loop-i) → let r = c.args.rows in let o = options_of c.args.rules in let i = c.loop-i.i in let w = r.width in
    ascending o (subtotals_of o (rest w ((i - 1) * w) (r.count - (i - 1)) r.values.now r.marks.now))
    ≡ (is_lt (cmp_group o (row_from w ((i - 1) * w) r.values.now r.marks.now) (row_from w (i * w) r.values.now r.marks.now)) && ascending o (subtotals_of o (rest w ((i + 1 - 1) * w) (r.count - (i + 1 - 1)) r.values.now r.marks.now)))
step c =
    let r = c.args.rows in
    let o = options_of c.args.rules in
    let i = c.loop-i.i in
    let w = r.width in
    let t = c.loop-i-test.true in
    let q : i ≡ suc (i - 1) = omega (arith, c.loop-i.auto.i) in
    let x : (i - 1) * w + w ≡ i * w = (let y : (i - 1) * w + w ≡ suc (i - 1) * w = omega arith in y ∙ ap (λ z. z * w) (sym q)) in
    let n : r.count - (i - 1) - 1 ≡ r.count - i = omega (arith, c.loop-i.auto.i) in
    let m : i + 1 - 1 ≡ i = omega arith in
    rising_more o w r.values.now r.marks.now ((i - 1) * w) (r.count - (i - 1)) (omega (arith, c.loop-i.auto.i)) ∙ rw (x, n, m, less_by (cmp_group o (row_from w ((i - 1) * w) r.values.now r.marks.now) (row_from w (i * w) r.values.now r.marks.now)))

pub returns-then-not-is_lt : goal.returns-then-not-is_lt
returns-then-not-is_lt c =
    let r = c.args.rows in
    let p = c.requires in
    sym (c.loop-i.invariant ∙ step (goal.at.returns-then-not-is_lt c).In-loop-i ∙ rw (← c.cmp_group.ensures r.width r.width p.wide p.wide, ← c.is_lt.ensures, c.if-not-is_lt.true))

pub loop-i-preserved : goal.loop-i-preserved
loop-i-preserved c =
    let r = c.args.rows in
    let p = c.requires in
    c.loop-i.invariant ∙ step (goal.at.loop-i-preserved c).In-loop-i ∙ rw (← c.cmp_group.ensures r.width r.width p.wide p.wide, ← c.is_lt.ensures, c.if-not-is_lt.false)

pub returns : goal.returns
returns c =
    let r = c.args.rows in
    sym (c.loop-i.invariant ∙ rising_few (options_of c.args.rules) r.width r.values.now r.marks.now ((c.loop-i.i - 1) * r.width) (r.count - (c.loop-i.i - 1)) (omega (arith, c.loop-i-test.false)))
