-- `boundaries::cut_place` meets its contract. Assumes nothing.
use mathlib.Core.Path.{◌≡◌, sym, ◌∙◌}
use mathlib.Core.List.{[]}
use Prim.Native.Nat.{ℕ, ◌+◌, ◌-◌, ◌*◌, ◌/◌, ◌≤◌, ◌<◌}
use native.Mathlib.Omega.{arith}
use lib.ListN.{get_or}
use Rattle.order.specs.options.Options.{with_list}
use Rattle.frames.specs.Cells.{rows_of, row_from}
use Rattle.frames.proofs.WordLaws.{rows_length}
use Rattle.order.specs.Order.{cmp_group}
use Rattle.order.proofs.RowLaws.{rows_from, row_room}
use Rattle.order.proofs.SortedLaws.{ordered}
use Rattle.books.proofs.WalkLaws.{less_by}
use Rattle.cutting.proofs.boundaries.PlaceLaws.{cut_within, cut_past, cut_until, less_only}
use Rattle.cutting.proofs.boundaries.cut_place.Goals.{In-loop-low, After-cmp_by}
use Rattle.cutting.proofs.boundaries.cut_place.Goals as goal

pub loop-low-init : goal.loop-low-init
loop-low-init c =
    let a = c.args in
    let k = cut_within (with_list a.rules.terms a.rules.codes.now a.rules.rising.now) (row_from a.rules.terms.by a.p a.bounds.values.now a.bounds.marks.now) (rows_of a.rows.width a.rows.count a.rows.values.now a.rows.marks.now) in
    record { behind = omega arith; before = omega (arith, k, rows_length a.rows.width a.rows.count a.rows.values.now a.rows.marks.now); within = omega arith }

-- The row in the middle, and that it is there.
abbrev halved : ℕ → ℕ → ℕ
halved low high = low + (high - low) / 2

there : (c : In-loop-low) → halved c.loop-low.low c.loop-low.high < c.args.rows.count
there c = omega arith

-- Its cells are there.
cells : (c : In-loop-low) → halved c.loop-low.low c.loop-low.high * c.args.rows.width + c.args.rows.width ≤ c.args.rows.count * c.args.rows.width
cells c = row_room (halved c.loop-low.low c.loop-low.high) c.args.rows.count c.args.rows.width (there c)

pub overflow_mul-middle : goal.overflow_mul-middle
overflow_mul-middle c = omega (arith, cells (goal.at.overflow_mul-middle c).In-loop-low)

pub cmp_by-requires : goal.cmp_by-requires
cmp_by-requires c =
    let p = c.requires in
    let h = cells (goal.at.cmp_by-requires c).In-loop-low in
    (record { few = p.table.rows.few; values = omega arith; marks = omega arith }, p.boundary)

-- How the row in the middle compares.
compared : (c : After-cmp_by) → let a = c.args in let l = c.loop-low in
    c.cmp_by.result ≡ cmp_group (with_list a.rules.terms a.rules.codes.now a.rules.rising.now) (get_or (rows_of a.rows.width a.rows.count a.rows.values.now a.rows.marks.now) (halved l.low l.high) []) (row_from a.rules.terms.by a.p a.bounds.values.now a.bounds.marks.now)
compared c =
    let a = c.args in
    let l = c.loop-low in
    rw (rows_from a.rows.width a.rows.count (halved l.low l.high) a.rows.values.now a.rows.marks.now (there (goal.at.After-cmp_by c).In-loop-low))
    (c.cmp_by.ensures a.rows.width a.rules.terms.by (omega (arith, c.requires.table.rows.wide)) (omega arith))

pub loop-low-preserved-then-is_lt : goal.loop-low-preserved-then-is_lt
loop-low-preserved-then-is_lt c =
    let a = c.args in
    let l = c.loop-low in
    let o = with_list a.rules.terms a.rules.codes.now a.rules.rising.now in
    let rows = rows_of a.rows.width a.rows.count a.rows.values.now a.rows.marks.now in
    let t = there (goal.at.loop-low-preserved-then-is_lt c).In-loop-low in
    let less = less_only c.cmp_by.result (sym c.is_lt.ensures ∙ c.if-is_lt.true) in
    let past = cut_past o (row_from a.rules.terms.by a.p a.bounds.values.now a.bounds.marks.now) rows (ordered o rows c.requires.table.in_order) (halved l.low l.high) (omega (arith, t, rows_length a.rows.width a.rows.count a.rows.values.now a.rows.marks.now)) (sym (compared (goal.at.loop-low-preserved-then-is_lt c).After-cmp_by) ∙ less) in
    record { behind = omega (arith, past); before = l.invariant.before; within = l.invariant.within }

pub loop-low-preserved : goal.loop-low-preserved
loop-low-preserved c =
    let a = c.args in
    let l = c.loop-low in
    let o = with_list a.rules.terms a.rules.codes.now a.rules.rising.now in
    let t = there (goal.at.loop-low-preserved c).In-loop-low in
    let until = cut_until o (row_from a.rules.terms.by a.p a.bounds.values.now a.bounds.marks.now) (rows_of a.rows.width a.rows.count a.rows.values.now a.rows.marks.now) (halved l.low l.high) (omega (arith, t, rows_length a.rows.width a.rows.count a.rows.values.now a.rows.marks.now)) (rw (← compared (goal.at.loop-low-preserved c).After-cmp_by) (less_by c.cmp_by.result ∙ sym c.is_lt.ensures ∙ c.if-is_lt.false)) in
    record { behind = l.invariant.behind; before = until; within = omega (arith, t) }

pub returns : goal.returns
returns c = omega (arith, c.loop-low-test.false, c.loop-low.invariant.behind, c.loop-low.invariant.before)
